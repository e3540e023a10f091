-- What the laws of messages need of the wire: its lemmas in one place, and a few of the same kind.
use Rattle.std.proofs.Common.{◌≡◌, ℕ, ◌≤◌, ◌↔◌, List, [], ◌∷◌, ◌++◌, length, take, drop, Result, Ok, Err, refl, sym, ap, ◌∙◌, arith, inl, inr}
use Rattle.std.specs.List.{flat_map, AllByRecursion}
use Rattle.std.proofs.lemmas.Bool.{cases_lt}
use Rattle.std.proofs.lemmas.List.{take-append-drop, take_at, length-append, get_or_append_left, get_or_past}
use Rattle.std.proofs.lemmas.List.Concat.{flat_map-cons}
use Rattle.lgm_wire.specs.declared.fault.WireFault.{WireFault}
use Rattle.lgm_wire.specs.BigSize.{bigsize_bytes, IsBigSize}
use Rattle.lgm_wire.specs.Tlv.{TlvRecord, record_bytes}
use Rattle.lgm_wire.specs.reading.BigSizeReading.{bigsize_at}
pub use Rattle.lgm_wire.proofs.ReadingLaws.{chosen, bind_ok, ok_is}
pub use Rattle.lgm_wire.proofs.Bytes.{IsBytes, IsBytes-take, IsBytes-drop, IsBytes-rest, IsBytes-back, IsWide, wide16, wide32, wide64}
pub use Rattle.lgm_wire.proofs.BigSizeLaws.{bigsize_spelled, bigsize_at-bigsize_bytes, length-bigsize_bytes}
pub use Rattle.lgm_wire.proofs.TlvLaws.{whole_read, stream_takes, two_bytes}

pub IsBytes-front : (bytes front left : List ℕ) → bytes ≡ front ++ left → IsBytes bytes → IsBytes front
IsBytes-front bytes front left e fits i =
    elim (cases_lt i (length front)) [
      | inl lt ↦ rw (← get_or_append_left front left 0 i lt, ← e) (fits i)
      | inr le ↦ rw (get_or_past front i 0 le) (omega arith)
    ]

-- the values of records are bytes
pub values_fit : (l : List TlvRecord) (bytes : List ℕ) → IsBytes bytes → bytes ≡ flat_map record_bytes l → AllByRecursion (λ r. IsBytes r.value) l
values_fit [] bytes fits e = tt
values_fit (r ∷ rs) bytes fits e =
    let parts = e ∙ flat_map-cons record_bytes r rs in
    let front = IsBytes-front bytes (record_bytes r) (flat_map record_bytes rs) parts fits in
    let left = IsBytes-back bytes (record_bytes r) (flat_map record_bytes rs) parts fits in (
      IsBytes-back (record_bytes r) (bigsize_bytes r.kind ++ bigsize_bytes (length r.value))
          r.value refl front,
      values_fit rs (flat_map record_bytes rs) left refl,
    )

-- the clause of `read_bigsize`, for the reading of lists
abbrev pub ReadsBig : List ℕ → Result (ℕ × ℕ) WireFault → Type 0
ReadsBig bytes result = (v n : ℕ) → (result ≡ Ok (v, n)) ↔ ((n ≤ length bytes) × IsBigSize v (take n bytes))

pub big_found : (bytes : List ℕ) (v n : ℕ) → ReadsBig bytes (Ok (v, n)) → bigsize_at bytes ≡ Ok (v, drop n bytes)
big_found bytes v n reads =
    let is = (reads v n).0 refl in
    let parts : bytes ≡ bigsize_bytes v ++ drop n bytes = sym (take-append-drop n bytes) ∙ ap (λ (s : List ℕ). s ++ drop n bytes) is.1.1 in
    ap bigsize_at parts ∙ bigsize_at-bigsize_bytes v (drop n bytes) is.1.0

abbrev no_number : WireFault → Result (ℕ × ℕ) WireFault
no_number e = Err e

pub big_not_found : (bytes : List ℕ) (result : Result (ℕ × ℕ) WireFault) (e : WireFault) → IsBytes bytes
    → result ≡ Err e → ReadsBig bytes result → (f : WireFault) × (bigsize_at bytes ≡ Err f)
big_not_found bytes result e fits failed reads = cases (bigsize_at bytes) refl
  where
    cases : (r : Result (ℕ × List ℕ) WireFault) → bigsize_at bytes ≡ r → (f : WireFault) × (bigsize_at bytes ≡ Err f)
    cases (Err f) is = (f, is)
    cases (Ok x) is =
        let t = bigsize_spelled bytes x.0 x.1 fits is in
        let len : length (bigsize_bytes x.0) ≤ length bytes = omega (arith, ap length t.parts, length-append (bigsize_bytes x.0) x.1) in
        let front : take (length (bigsize_bytes x.0)) bytes ≡ bigsize_bytes x.0 =
        ap (take (length (bigsize_bytes x.0))) t.parts
        ∙ take_at (bigsize_bytes x.0) x.1 (length (bigsize_bytes x.0)) refl in
        let bad = sym failed ∙ (reads x.0 (length (bigsize_bytes x.0))).1 (len, (t.fits, front)) in
        absurd cc
