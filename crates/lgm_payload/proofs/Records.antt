-- The values of records, and their faults, record by record.
use Rattle.std.proofs.Common.{◌≡◌, ◌⊎◌, ℕ, ◌+◌, ◌%◌, ◌<◌, ◌≤◌, Bool, true, false, cond, eqb, List, [], ◌∷◌, ◌++◌, length, get_or}
use Rattle.std.proofs.Common.{take, drop, Option, Some, None, refl, sym, ap, subst, ◌∙◌, arith, inl, inr}
use Rattle.std.specs.List.{AllByRecursion}
use Rattle.std.specs.Option.{option_map}
use Rattle.std.proofs.lemmas.Bool.{eqb-true, eq-eqb, ne_eqb}
use Rattle.std.proofs.lemmas.Bool.Decides.{nat_tests}
use Rattle.std.proofs.lemmas.List.{take_more, drop_more, take-append-drop, map-append}
use Rattle.std.specs.Int.{w64, from_be_bytes}
use Rattle.lgm_wire.specs.TruncatedInteger.{number_of}
use Rattle.lgm_wire.specs.declared.tlv.Tlv.{Tlv}
use Rattle.lgm_wire.specs.Tlv.{TlvRecord, RisesFrom}
use Rattle.lgm_wire.specs.TlvView.{record_of, records_of}
use Rattle.lgm_gossip.proofs.WireLaws.{chosen, IsBytes}
use Rattle.lgm_payload.specs.declared.fault.PayloadFault.{PayloadFault}
use Rattle.lgm_payload.specs.declared.reader.FoundValues.{FoundValues}
use Rattle.lgm_payload.specs.HopPayload.{value_of, value_before, IsKnown}
use Rattle.lgm_payload.specs.reading.Reading.{record_fault, or_later, first_fault, payment_of, with_record, known_in}

-- ---- one more record

before_cond : (kind : ℕ) (x : TlvRecord) (b : Bool) (v : List ℕ) (o : Option (List ℕ))
    → value_before kind x (cond b (Some v) o) ≡ cond b (Some v) (value_before kind x o)
before_cond kind x true v o = refl
before_cond kind x false v o = refl

pub value_of-push : (kind : ℕ) (xs : List TlvRecord) (r : TlvRecord)
    → value_of kind (xs ++ r ∷ []) ≡ cond (eqb r.kind kind) (Some r.value) (value_of kind xs)
value_of-push kind [] r = refl
value_of-push kind (x ∷ xs) r = ap (value_before kind x) (value_of-push kind xs r) ∙ before_cond kind x (eqb r.kind kind) r.value (value_of kind xs)

map_cond : {A B : Type 0} (f : A → B) (b : Bool) (v : A) (o : Option A) → option_map f (cond b (Some v) o) ≡ cond b (Some (f v)) (option_map f o)
map_cond f true v o = refl
map_cond f false v o = refl

told_push : {B : Type 0} (f : List ℕ → B) (kind : ℕ) (xs : List TlvRecord) (r : TlvRecord)
    → option_map f (value_of kind (xs ++ r ∷ []))
    ≡ cond (eqb r.kind kind) (Some (f r.value)) (option_map f (value_of kind xs))
told_push f kind xs r = ap (option_map f) (value_of-push kind xs r) ∙ map_cond f (eqb r.kind kind) r.value (value_of kind xs)

pub known_in-push : (xs : List TlvRecord) (r : TlvRecord) → known_in (xs ++ r ∷ []) ≡ with_record (known_in xs) r
known_in-push xs r =
    let amount = told_push number_of 2 xs r in
    let expiry = told_push number_of 4 xs r in
    let next = told_push (from_be_bytes w64) 6 xs r in
    let payment = told_push payment_of 8 xs r in
    let metadata = value_of-push 16 xs r in
    rw (amount, expiry, next, payment, metadata) refl

-- neither a fault here nor later
pub both_none : (a b : Option PayloadFault) → or_later a b ≡ None → (a ≡ None) × (b ≡ None)
both_none None b e = (refl, e)
both_none (Some fault) b e = absurd cc

-- no fault before a record
pub first_fault-none : (xs ys : List TlvRecord) → first_fault xs ≡ None → first_fault (xs ++ ys) ≡ first_fault ys
first_fault-none [] ys none = refl
first_fault-none (x ∷ xs) ys none =
    let both = both_none (record_fault x) (first_fault xs) none in
    rw both.0 (first_fault-none xs ys both.1)

-- ---- types

-- without a fault a type is known or odd
record_fault-known : (kind : ℕ) (value : List ℕ) → record_fault (record { kind = kind; value = value }) ≡ None → IsKnown kind ⊎ (kind % 2 ≡ 1)
record_fault-known kind value none = grind (arith, nat_tests)

pub kinds_of : (rs : List TlvRecord) → first_fault rs ≡ None → AllByRecursion (λ r. IsKnown r.kind ⊎ (r.kind % 2 ≡ 1)) rs
kinds_of [] none = tt
kinds_of (r ∷ rs) none =
    let both = both_none (record_fault r) (first_fault rs) none in
    (record_fault-known r.kind r.value both.0, kinds_of rs both.1)

-- an odd type is skipped
pub odd_skipped : (kind : ℕ) (value : List ℕ) → kind % 2 ≡ 1 → record_fault (record { kind = kind; value = value }) ≡ None
odd_skipped kind value odd = grind (arith, nat_tests)

-- ---- a loop over the records

pub record AreTold (records : List TlvRecord) (known : FoundValues) : Type 0 where
  pub faultless : first_fault records ≡ None
  pub is : known ≡ known_in records

-- the records up to a place, and the one there
records_more : (tlvs : List Tlv) (i : ℕ) (d : Tlv) → i < length tlvs
    → records_of (take (i + 1) tlvs) ≡ records_of (take i tlvs) ++ record_of (get_or tlvs i d) ∷ []
records_more tlvs i d lt = ap records_of (take_more tlvs i d lt) ∙ map-append record_of (take i tlvs) (get_or tlvs i d ∷ [])

pub told_more : (tlvs : List Tlv) (i : ℕ) (d : Tlv) (known after : FoundValues) → i < length tlvs → AreTold (records_of (take i tlvs)) known
    → record_fault (record_of (get_or tlvs i d)) ≡ None
    → after ≡ with_record known (record_of (get_or tlvs i d)) → AreTold (records_of (take (i + 1) tlvs)) after
told_more tlvs i d known after lt told none is =
    let r : TlvRecord = record_of (get_or tlvs i d) in
    let xs : List TlvRecord = records_of (take i tlvs) in
    subst (λ rs. AreTold rs after) (sym (records_more tlvs i d lt)) (record {
      faultless = first_fault-none xs (r ∷ []) told.faultless ∙ ap (λ f. or_later f None) none;
      is = is ∙ ap (λ k. with_record k r) told.is ∙ sym (known_in-push xs r);
    })

pub fault_at : (tlvs : List Tlv) (i : ℕ) (d : Tlv) (known : FoundValues) (fault : PayloadFault) → i < length tlvs → AreTold (records_of (take i tlvs)) known
    → record_fault (record_of (get_or tlvs i d)) ≡ Some fault → first_fault (records_of tlvs) ≡ Some fault
fault_at tlvs i d known fault lt told is =
    let r : TlvRecord = record_of (get_or tlvs i d) in
    let xs : List TlvRecord = records_of (take i tlvs) in
    let ys : List TlvRecord = records_of (drop (i + 1) tlvs) in
    let parts : records_of tlvs ≡ xs ++ r ∷ ys =
    ap records_of (sym (take-append-drop i tlvs)) ∙ map-append record_of (take i tlvs) (drop i tlvs)
    ∙ ap (λ zs. xs ++ records_of zs) (drop_more tlvs i d lt) in
    ap first_fault parts ∙ first_fault-none xs (r ∷ ys) told.faultless ∙ ap (λ f. or_later f (first_fault ys)) is

-- ---- the value of a type

-- a value is that of a record without fault
pub record IsLawful (kind : ℕ) (value : List ℕ) : Type 0 where
  pub faultless : record_fault (record { kind = kind; value = value }) ≡ None
  pub fits : IsBytes value

same_value : (a b : List ℕ) → Some a ≡ Some b → a ≡ b
same_value a b e = cc

lawful_here : (kind : ℕ) (r : TlvRecord) (v : List ℕ) → r.kind ≡ kind → r.value ≡ v → record_fault r ≡ None → IsBytes r.value → IsLawful kind v
lawful_here kind r v k e none fits = record {
  faultless =
      subst (λ x. record_fault (record { kind = x; value = v }) ≡ None) k
      (subst (λ x. record_fault (record { kind = r.kind; value = x }) ≡ None) e none);
  fits = subst IsBytes e fits;
}

lawful_one : (kind : ℕ) (r : TlvRecord) (v : List ℕ) (o : Option (List ℕ)) → record_fault r ≡ None
    → IsBytes r.value → (o ≡ Some v → IsLawful kind v) → value_before kind r o ≡ Some v → IsLawful kind v
lawful_one kind r v (Some w) none fits later e = later e
lawful_one kind r v None none fits later e =
    elim (chosen (eqb r.kind kind) (Some r.value) None (Some v) e) [
      | inl is ↦ lawful_here kind r v (eqb-true r.kind kind is.0) (same_value r.value v is.1) none fits
      | inr other ↦ absurd cc
    ]

pub lawful_value : (kind : ℕ) (rs : List TlvRecord) (v : List ℕ) → first_fault rs ≡ None
    → AllByRecursion (λ r. IsBytes r.value) rs → value_of kind rs ≡ Some v → IsLawful kind v
lawful_value kind [] v none fits is = absurd cc
lawful_value kind (r ∷ rs) v none fits is =
    let both = both_none (record_fault r) (first_fault rs) none in
    lawful_one kind r v (value_of kind rs) both.0 fits.0 (λ there. lawful_value kind rs v both.1 fits.1 there) is

-- after a type there is no record of that type or a lesser one
pub absent : (kind last : ℕ) (rs : List TlvRecord) → RisesFrom (Some last) rs → kind ≤ last → value_of kind rs ≡ None
absent kind last [] rises le = refl
absent kind last (r ∷ rs) rises le =
    let lt : last < r.kind = rises.0 in
    let other : eqb r.kind kind ≡ false = ne_eqb r.kind kind (λ e. omega arith) in
    ap (value_before kind r) (absent kind r.kind rs rises.1 (omega arith)) ∙ rw other refl

value_behind : (kind : ℕ) (r : TlvRecord) (rs : List TlvRecord) (v : List ℕ) → value_of kind rs ≡ Some v → value_of kind (r ∷ rs) ≡ Some v
value_behind kind r rs v is = ap (value_before kind r) is

values_behind : (r : TlvRecord) (rs xs : List TlvRecord) → AllByRecursion (λ x. value_of x.kind rs
    ≡ Some x.value) xs → AllByRecursion (λ x. value_of x.kind (r ∷ rs) ≡ Some x.value) xs
values_behind r rs [] all = tt
values_behind r rs (x ∷ xs) all = (value_behind x.kind r rs x.value all.0, values_behind r rs xs all.1)

pub each_value : (last : Option ℕ) (rs : List TlvRecord) → RisesFrom last rs → AllByRecursion (λ r. value_of r.kind rs ≡ Some r.value) rs
each_value last [] rises = tt
each_value last (r ∷ rs) rises =
    let head : value_of r.kind (r ∷ rs) ≡ Some r.value =
    ap (value_before r.kind r) (absent r.kind r.kind rs rises.1 (omega arith))
    ∙ rw (eq-eqb r.kind r.kind refl) refl in
    (head, values_behind r rs rs (each_value (Some r.kind) rs rises.1))
