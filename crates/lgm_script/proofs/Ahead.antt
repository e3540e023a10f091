-- What was read ahead, and what a read adds to it.
use Rattle.std.proofs.Common.{◌≡◌, ℕ, ◌+◌, ◌≤◌, List, ◌++◌, length, take, drop, Option, Some, None, refl, sym, ap, ◌∙◌, append_assoc, arith}
use Rattle.std.specs.Prelude.{IfSome}
use Rattle.std.specs.Option.{option_map}
use Rattle.std.proofs.lemmas.List.{length-take, length-append, take-append-drop, take-append-le, take-take, drop-append-le}
use Rattle.std.proofs.Math.Seq.{take-append-add, take-append_seam}
use Rattle.lgm_script.specs.Lines.{ahead}

-- the front of a buffer that was overwritten
take-rewritten : (n len : ℕ) (front rest : List ℕ) → n ≤ length front → length front ≤ len → take n (take len (front ++ rest)) ≡ take n front
take-rewritten n len front rest few fits = take-take n len (front ++ rest) (omega arith) ∙ take-append-le n front rest few

-- bytes after the others, with what was read into the buffer from an index on
pub read_behind : (front sub whole rest : List ℕ) (start end n len : ℕ) → front ≡ take end whole → start ≤ end
    → end ≤ length whole → n ≤ length sub → length front + length sub ≤ len
    → drop start (take (end + n) (take len ((front ++ sub) ++ rest))) ≡ drop start (take end whole) ++ take n sub
read_behind front sub whole rest start end n len is order within few fits =
    let size : length front ≡ end = omega (arith, ap length is, length-take end whole) in
    let both : take (end + n) (front ++ sub) ≡ front ++ take n sub =
    ap (λ (k : ℕ). take (k + n) (front ++ sub)) (sym size) ∙ take-append-add front sub n in
    ap (drop start) (take-rewritten (end + n) len (front ++ sub) rest (omega (arith, length-append front sub))
    (omega (arith, length-append front sub)) ∙ both) ∙ drop-append-le start front (take n sub)
    (omega arith) ∙ ap (λ (s : List ℕ). drop start s ++ take n sub) is

-- what was read comes before what is left
pub ahead_behind : (old new : Option (List ℕ)) (front sub : List ℕ) (n : ℕ) → new ≡ option_map (drop n) old
    → IfSome old (λ left. (n ≤ length left) × (take n sub ≡ take n left))
    → ahead (front ++ take n sub) new ≡ ahead front old
ahead_behind None new front sub n moved same = ap (ahead (front ++ take n sub)) moved
ahead_behind (Some left) new front sub n moved same =
    ap (ahead (front ++ take n sub)) moved
    ∙ ap (λ (s : List ℕ). Some s) (append_assoc front (take n sub) (drop n left) ∙ ap (λ (s : List ℕ). front
    ++ s) (ap (λ (s : List ℕ). s ++ drop n left) same.1 ∙ take-append-drop n left))

-- the front is unchanged
pub front_stays : (old new sub : List ℕ) (n : ℕ) → new ≡ old ++ take n sub → take (length old) new ≡ old
front_stays old new sub n is = ap (take (length old)) is ∙ take-append_seam old (take n sub)

-- what is left, where this was read ahead
pub left_is : (buffered : List ℕ) (left : Option (List ℕ)) (rest : List ℕ) → ahead buffered left ≡ Some rest
    → (bytes : List ℕ) × (left ≡ Some bytes) × (rest ≡ buffered ++ bytes)
left_is buffered None rest e = absurd cc
left_is buffered (Some bytes) rest e = (bytes, refl, cc)
