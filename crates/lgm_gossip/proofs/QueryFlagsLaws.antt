-- Query flags: reading returns a value if and only if the bytes encode it.
use Rattle.std.proofs.Common.{◌≡◌, ℕ, zero, suc, ◌+◌, ◌-◌, ◌^◌, ◌<◌, ◌≤◌, eqb, not, List, [], ◌∷◌, ◌++◌, length}
use Rattle.std.proofs.Common.{drop, Result, Ok, Err, refl, sym, ap, subst, ◌∙◌, append_assoc, arith, inl, inr}
use Rattle.std.specs.List.{flat_map, AllByRecursion}
use Rattle.std.proofs.lemmas.Bool.{eqb-true, not-false}
use Rattle.std.proofs.lemmas.List.{append-nil}
use Rattle.std.proofs.lemmas.List.Concat.{flat_map-cons}
use Rattle.lgm_wire.specs.declared.fault.WireFault.{WireFault}
use Rattle.lgm_wire.specs.reading.Reading.{◌>>=◌}
use Rattle.lgm_gossip.specs.declared.fault.DecodeFault.{DecodeFault}
use Rattle.lgm_gossip.specs.declared.fault.DecodeFault.TheVariants.{Encoding, Flags}
use Rattle.lgm_gossip.specs.Streams.{bigsize_bytes, bigsize_at}
use Rattle.lgm_gossip.specs.QueryFlags.{IsQueryFlags}
use Rattle.lgm_gossip.specs.reading.QueryFlagsReading.{or_flags, flag_at, all_flags_at, query_flags_at}
use Rattle.lgm_gossip.proofs.WireLaws.{chosen, bind_ok, ok_is, IsBytes, IsBytes-rest, bigsize_spelled}
use Rattle.lgm_gossip.proofs.WireLaws.{bigsize_at-bigsize_bytes, ReadsBig, big_found, big_not_found}
use Rattle.lgm_gossip.proofs.FieldLaws.{IsText}

flag_ok : (r : Result (ℕ × List ℕ) WireFault) (x : ℕ × List ℕ) → or_flags r ≡ Ok x → r ≡ Ok x
flag_ok (Ok y) x e = ap (λ (z : ℕ × List ℕ). Ok z) (ok_is y x e)
flag_ok (Err f) x e = absurd cc

-- flags that were read, and the bytes of them
record AreFlags (count : ℕ) (bytes flags : List ℕ) : Type 0 where
  fits : AllByRecursion (λ f. f < 2 ^ 64) flags
  one_each : length flags ≡ count
  whole : bytes ≡ flat_map bigsize_bytes flags

all_flags_take : (count : ℕ) (bytes flags : List ℕ) → IsBytes bytes → all_flags_at count bytes ≡ Ok flags → AreFlags count bytes flags
unfolding all_flags_at
all_flags_take zero [] flags fits e =
    subst (λ (xs : List ℕ). AreFlags 0 [] xs) (ok_is [] flags e)
    (record { fits = tt; one_each = refl; whole = refl })
all_flags_take zero (b ∷ bs) flags fits e = absurd cc
all_flags_take (suc count) bytes flags fits e =
    let first = bind_ok (flag_at bytes) (λ x. all_flags_at count x.1 >>= λ others. Ok (x.0 ∷ others)) flags e in
    let others = bind_ok (all_flags_at count first.0.1) (λ others. Ok (first.0.0 ∷ others)) flags first.2 in
    let t = bigsize_spelled bytes first.0.0 first.0.1 fits (flag_ok (bigsize_at bytes) first.0 first.1) in
    let u = all_flags_take count first.0.1 others.0 t.rest_fits others.1 in
    subst (λ (xs : List ℕ). AreFlags (suc count) bytes xs) (ok_is (first.0.0 ∷ others.0) flags others.2) (record {
      fits = (t.fits, u.fits);
      one_each = ap suc u.one_each;
      whole = t.parts ∙ ap (λ (s : List ℕ). bigsize_bytes first.0.0 ++ s) u.whole ∙ sym (flat_map-cons bigsize_bytes first.0.0 others.0);
    })

all_flags_again : (flags : List ℕ) → AllByRecursion (λ f. f < 2 ^ 64) flags → all_flags_at (length flags) (flat_map bigsize_bytes flags) ≡ Ok flags
unfolding all_flags_at
all_flags_again [] fits = refl
all_flags_again (f ∷ flags) fits =
    let read : bigsize_at (flat_map bigsize_bytes (f ∷ flags)) ≡ Ok (f, flat_map bigsize_bytes flags) =
    ap bigsize_at (flat_map-cons bigsize_bytes f flags)
    ∙ bigsize_at-bigsize_bytes f (flat_map bigsize_bytes flags) fits.0 in
    rw (read, all_flags_again flags fits.1) refl

pub query_flags_text : (count : ℕ) → IsText (query_flags_at count) (IsQueryFlags count)
query_flags_text count = record {
  takes = take;
  again = λ flags bytes is.
      ap (query_flags_at count) is.spelled ∙ ap (λ (n : ℕ).
      all_flags_at n (flat_map bigsize_bytes flags)) (sym is.one_each) ∙ all_flags_again flags is.fits;
}
  where
    take : (bytes flags : List ℕ) → IsBytes bytes → query_flags_at count bytes ≡ Ok flags → IsQueryFlags count flags bytes
    take [] flags fits e = absurd cc
    take (first ∷ left) flags fits e =
        elim (chosen (not (eqb first 0)) (Err (Encoding first)) (all_flags_at count left) (Ok flags) e) [
          | inl bad ↦ absurd cc
          | inr good ↦
              let are = all_flags_take count left flags (IsBytes-rest first left fits) good.1 in
              let zero_is : first ≡ 0 = eqb-true first 0 (not-false (eqb first 0) good.0) in
              record { fits = are.fits; one_each = are.one_each; spelled = ap (λ (b : ℕ). b ∷ left) zero_is ∙ ap (λ (s : List ℕ). 0 ∷ s) are.whole }
        ]

-- ---- the result of `read_bigsize`

pub flag_found : (bytes : List ℕ) (v n : ℕ) → ReadsBig bytes (Ok (v, n)) → flag_at bytes ≡ Ok (v, drop n bytes)
flag_found bytes v n reads = ap or_flags (big_found bytes v n reads)

pub flag_not_found : (bytes : List ℕ) (r : Result (ℕ × ℕ) WireFault) (e : WireFault) → IsBytes bytes
    → r ≡ Err e → ReadsBig bytes r → flag_at bytes ≡ Err Flags
flag_not_found bytes r e fits failed reads = ap or_flags (big_not_found bytes r e fits failed reads).1

-- ---- the loop over the flags

-- some flags, and then the result of reading
abbrev pub with_front : List ℕ → Result (List ℕ) DecodeFault → Result (List ℕ) DecodeFault
with_front front read = read >>= λ others. Ok (front ++ others)

regroup : (front : List ℕ) (f : ℕ) (read : Result (List ℕ) DecodeFault)
    → with_front front (read >>= λ others. Ok (f ∷ others)) ≡ with_front (front ++ f ∷ []) read
regroup front f (Ok others) = ap (λ (s : List ℕ). Ok s) (sym (append_assoc front (f ∷ []) others))
regroup front f (Err e) = refl

pub flag_on : (front : List ℕ) (count i : ℕ) (bytes : List ℕ) (f : ℕ) (after : List ℕ)
    (total : Result (List ℕ) DecodeFault) → i < count → flag_at bytes ≡ Ok (f, after)
    → with_front front (all_flags_at (count - i) bytes) ≡ total → with_front (front ++ f ∷ []) (all_flags_at (count - (i + 1)) after) ≡ total
unfolding all_flags_at
flag_on front count i bytes f after total lt e so_far =
    let more : count - i ≡ suc (count - (i + 1)) = omega arith in
    let one : with_front front (all_flags_at (count - i) bytes)
    ≡ with_front (front ++ f ∷ []) (all_flags_at (count - (i + 1)) after) =
    rw (more, e) (regroup front f (all_flags_at (count - (i + 1)) after)) in
    sym one ∙ so_far

pub flag_fails : (front : List ℕ) (count i : ℕ) (bytes : List ℕ) (fault : DecodeFault)
    (total : Result (List ℕ) DecodeFault) → i < count → flag_at bytes ≡ Err fault
    → with_front front (all_flags_at (count - i) bytes) ≡ total → total ≡ Err fault
unfolding all_flags_at
flag_fails front count i bytes fault total lt e so_far =
    let more : count - i ≡ suc (count - (i + 1)) = omega arith in
    let one : with_front front (all_flags_at (count - i) bytes) ≡ Err fault = rw (more, e) refl in
    sym so_far ∙ one

pub flags_end : (front : List ℕ) (count i : ℕ) (bytes : List ℕ) (total : Result (List ℕ) DecodeFault) → count
    ≤ i → length bytes ≡ 0 → with_front front (all_flags_at (count - i) bytes) ≡ total → total ≡ Ok front
unfolding all_flags_at
flags_end front count i [] total le none so_far =
    let last : count - i ≡ 0 = omega arith in
    let one : with_front front (all_flags_at (count - i) []) ≡ Ok front = rw last (ap (λ (s : List ℕ). Ok s) (append-nil front)) in
    sym so_far ∙ one
flags_end front count i (b ∷ bs) total le none so_far = absurd (omega arith)

pub flags_left : (front : List ℕ) (count i : ℕ) (bytes : List ℕ) (total : Result (List ℕ) DecodeFault)
    → count ≤ i → (length bytes ≡ 0 → ⊥) → with_front front (all_flags_at (count - i) bytes) ≡ total
    → total ≡ Err Flags
unfolding all_flags_at
flags_left front count i [] total le some so_far = absurd (some refl)
flags_left front count i (b ∷ bs) total le some so_far =
    let last : count - i ≡ 0 = omega arith in
    let one : with_front front (all_flags_at (count - i) (b ∷ bs)) ≡ Err Flags = rw last refl in
    sym so_far ∙ one
