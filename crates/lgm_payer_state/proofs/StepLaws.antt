-- Values that are read or written one after the other.
use Rattle.std.proofs.Common.{◌≡◌, ℕ, false, cond, ltb, List, ◌++◌, length, Result, Ok, Err, is_ok, refl, ap, ◌∙◌, append_assoc, arith}
use Rattle.std.proofs.lemmas.Bool.{le-ltb}
use Rattle.std.proofs.lemmas.List.{take_at, drop_at, length-append}
use Rattle.std.specs.Result.{OnOk}
use Rattle.std.specs.declared.alloc.AllocError.{AllocError}
use Rattle.lgm_payer_state.specs.Written.{IsWritten}
use Rattle.lgm_payer_state.specs.reading.Reading.{fixed_at}

-- two texts behind others
pub more : (old first mid second new : List ℕ) → mid ≡ old ++ first → new ≡ mid ++ second → new ≡ old ++ (first ++ second)
more old first mid second new e f = f ∙ ap (λ (s : List ℕ). s ++ second) e ∙ append_assoc old first second

-- what follows where a call succeeds
pub on_ok : {X E : Type 0} {P Q : Type 0} (result : Result X E) → (P → Q) → OnOk result P → OnOk result Q
on_ok {X} {E} {P} {Q} (Ok x) f h = f h
on_ok {X} {E} {P} {Q} (Err e) f h = h

-- bytes of a known number are read back
pub fixed_back : (x rest : List ℕ) (n : ℕ) → length x ≡ n → fixed_at n (x ++ rest) ≡ Ok (x, rest)
unfolding fixed_at
fixed_back x rest n len =
    let long : ltb (length (x ++ rest)) n ≡ false = le-ltb _ _ (omega (arith, length-append x rest)) in
    rw (long, take_at x rest n len, drop_at x rest n len) refl

-- bytes of a known number are written
pub appended : (result : Result (Unit {0}) AllocError) (old text new : List ℕ) (n : ℕ) → length text ≡ n
    → new ≡ cond (is_ok result) (old ++ text) old → OnOk result (IsWritten (λ x. x) (fixed_at n) text old new)
appended (Ok x) old text new n len e = record { written = e; back = λ rest. fixed_back text rest n len }
appended (Err x) old text new n len e = tt
