-- What may follow the last field: reading returns a value if and only if the bytes encode it.
use Rattle.std.proofs.Common.{◌≡◌, ℕ, ◌+◌, ◌%◌, ◌<◌, ◌≤◌, ◌⊎◌, false, cond, eqb, List, [], ◌∷◌, length, get_or, drop}
use Rattle.std.proofs.Common.{Option, Some, None, Result, Ok, Err, refl, sym, ap, subst, ◌∙◌, arith, inl, inr}
use Rattle.std.specs.Option.{ForSome}
use Rattle.std.specs.List.{AllByRecursion}
use Rattle.std.proofs.lemmas.Bool.{eqb-true, eqb-false, eq-eqb, ne_eqb, cases_eq}
use Rattle.std.proofs.lemmas.List.{drop_more, drop_all}
use Rattle.lgm_wire.specs.declared.tlv.Tlv.{Tlv}
use Rattle.lgm_wire.specs.TlvView.{record_of, records_of}
use Rattle.lgm_wire.specs.declared.fault.WireFault.{WireFault}
use Rattle.lgm_wire.specs.reading.Reading.{◌>>=◌}
use Rattle.lgm_wire.specs.Tlv.{RisesFrom}
use Rattle.lgm_gossip.specs.declared.fault.DecodeFault.{DecodeFault}
use Rattle.lgm_gossip.specs.declared.fault.DecodeFault.TheVariants.{TlvKind}
use Rattle.lgm_gossip.specs.Streams.{TlvRecord, tlvs_of}
use Rattle.lgm_gossip.specs.Optional.{value_of, SameOption, IsOptional}
use Rattle.lgm_gossip.specs.reading.OptionalReading.{or_tlv, stream_at, after_record, after_records, optional_of, optional_at}
use Rattle.lgm_gossip.proofs.WireLaws.{chosen, bind_ok, ok_is, IsBytes, stream_takes, values_fit, whole_read}
use Rattle.lgm_gossip.proofs.FieldLaws.{IsText, IsLast}

abbrev IsOdd : TlvRecord → Type 0
IsOdd r = r.kind % 2 ≡ 1

value_here : (r : TlvRecord) (rs : List TlvRecord) → r.kind ≡ 1 → value_of (r ∷ rs) ≡ Some r.value
value_here r rs e = rw (eq-eqb r.kind 1 e) refl

value_later : (r : TlvRecord) (rs : List TlvRecord) → (r.kind ≡ 1 → ⊥) → value_of (r ∷ rs) ≡ value_of rs
value_later r rs ne = rw (ne_eqb r.kind 1 ne) refl

-- the two cases of one record: it is read, or skipped
record Reads {A : Type 0} (read : List ℕ → Result A DecodeFault) (r : TlvRecord) (more : Option A) : Type 0 where
  kind : r.kind ≡ 1
  value : A
  is : read r.value ≡ Ok value
  more_is : more ≡ Some value

record Skips {A : Type 0} (known : Option A) (r : TlvRecord) (more : Option A) : Type 0 where
  unknown : r.kind ≡ 1 → ⊥
  odd : r.kind % 2 ≡ 1
  more_is : more ≡ known

one_record : {A : Type 0} (read : List ℕ → Result A DecodeFault) (known : Option A) (r : TlvRecord)
    (more : Option A) → after_record read known r ≡ Ok more → Reads read r more ⊎ Skips known r more
one_record {A} read known r more e =
    elim (chosen (eqb r.kind 1) (read r.value >>= λ x. Ok (Some x)) (cond (eqb (r.kind % 2) 0) (Err (TlvKind r.kind)) (Ok known)) (Ok more) e) [
      | inl is ↦
          let a = bind_ok (read r.value) (λ x. Ok (Some x)) more is.1 in
          inl (record { kind = eqb-true r.kind 1 is.0; value = a.0; is = a.1; more_is = sym (ok_is (Some a.0) more a.2) })
      | inr other ↦ elim (chosen (eqb (r.kind % 2) 0) (Err (TlvKind r.kind)) (Ok known) (Ok more) other.1) [
        | inl bad ↦ absurd cc
        | inr skipped ↦
            let unknown : r.kind ≡ 1 → ⊥ = eqb-false r.kind 1 other.0 in
            let not_even : r.kind % 2 ≡ 0 → ⊥ = eqb-false (r.kind % 2) 0 skipped.0 in
            inr (record { unknown = unknown; odd = omega arith; more_is = sym (ok_is known more skipped.1) })
      ]
    ]

reads_one : {A : Type 0} (read : List ℕ → Result A DecodeFault) (known : Option A) (r : TlvRecord) (x : A)
    → r.kind ≡ 1 → read r.value ≡ Ok x → after_record read known r ≡ Ok (Some x)
reads_one read known r x kind is = rw (eq-eqb r.kind 1 kind, is) refl

skips_one : {A : Type 0} (read : List ℕ → Result A DecodeFault) (known : Option A) (r : TlvRecord)
    → (r.kind ≡ 1 → ⊥) → r.kind % 2 ≡ 1 → after_record read known r ≡ Ok known
skips_one read known r unknown odd =
    let not_even : eqb (r.kind % 2) 0 ≡ false = ne_eqb (r.kind % 2) 0 (λ e. omega arith) in
    rw (ne_eqb r.kind 1 unknown, not_even) refl

-- after type 1 there is no other of it
past_takes : {A : Type 0} (read : List ℕ → Result A DecodeFault) (known : Option A) (last : ℕ)
    (rs : List TlvRecord) (o : Option A) → 1 ≤ last → RisesFrom (Some last) rs
    → after_records read known rs ≡ Ok o → AllByRecursion IsOdd rs × (known ≡ o)
unfolding after_records
past_takes read known last [] o above rises e = (tt, ok_is known o e)
past_takes read known last (r ∷ rs) o above rises e =
    let a = bind_ok (after_record read known r) (λ more. after_records read more rs) o e in
    elim (one_record read known r a.0 a.1) [
      | inl reads ↦ absurd (omega (arith, reads.kind, rises.0))
      | inr skips ↦
          let higher : 1 ≤ r.kind = omega (arith, rises.0) in
          let others = past_takes read a.0 r.kind rs o higher rises.1 a.2 in
          ((skips.odd, others.0), sym skips.more_is ∙ others.1)
    ]

past_again : {A : Type 0} (read : List ℕ → Result A DecodeFault) (known : Option A) (last : ℕ)
    (rs : List TlvRecord) → 1 ≤ last → RisesFrom (Some last) rs → AllByRecursion IsOdd rs
    → after_records read known rs ≡ Ok known
unfolding after_records
past_again read known last [] above rises odd = refl
past_again read known last (r ∷ rs) above rises odd =
    let higher : 1 ≤ r.kind = omega (arith, rises.0) in
    let unknown : r.kind ≡ 1 → ⊥ = λ e. omega (arith, rises.0) in
    rw (skips_one read known r unknown odd.0) (past_again read known r.kind rs higher rises.1 odd.1)

records_take : {A : Type 0} {read : List ℕ → Result A DecodeFault} {F : A → List ℕ → Type 0}
    (law : IsText read F) (last : Option ℕ) (rs : List TlvRecord) (o : Option A) → RisesFrom last rs
    → AllByRecursion (λ r. IsBytes r.value) rs
    → after_records read None rs ≡ Ok o → AllByRecursion IsOdd rs × SameOption F o (value_of rs)
unfolding after_records
records_take {A} {read} {F} law last [] o rises fits e = (tt, subst (λ (x : Option A). SameOption F x None) (ok_is None o e) tt)
records_take {A} {read} {F} law last (r ∷ rs) o rises fits e =
    let a = bind_ok (after_record read None r) (λ more. after_records read more rs) o e in
    elim (one_record read None r a.0 a.1) [
      | inl reads ↦
          let others = past_takes read a.0 r.kind rs o (omega (arith, reads.kind)) rises.1 a.2 in
          let odd : IsOdd r = rw reads.kind refl in
          let same : Some reads.value ≡ o = sym reads.more_is ∙ others.1 in (
            (odd, others.0),
            subst (λ (x : Option A). SameOption F x (value_of (r ∷ rs))) same
                (subst (λ (v : Option (List ℕ)). SameOption F (Some reads.value) v)
                (sym (value_here r rs reads.kind)) (law.takes r.value reads.value fits.0 reads.is)),
          )
      | inr skips ↦
          let others =
          records_take law (Some r.kind) rs o rises.1 fits.1
          (subst (λ (x : Option A). after_records read x rs ≡ Ok o) skips.more_is a.2) in
          ((skips.odd, others.0), subst (λ (v : Option (List ℕ)). SameOption F o v) (sym (value_later r rs skips.unknown)) others.1)
    ]

records_again : {A : Type 0} {read : List ℕ → Result A DecodeFault} {F : A → List ℕ → Type 0}
    (law : IsText read F) (last : Option ℕ) (rs : List TlvRecord) (o : Option A) → RisesFrom last rs
    → AllByRecursion IsOdd rs
    → SameOption F o (value_of rs) → after_records read None rs ≡ Ok o
unfolding after_records
records_again {A} {read} {F} law last [] None rises odd same = refl
records_again {A} {read} {F} law last [] (Some x) rises odd same = absurd same
records_again {A} {read} {F} law last (r ∷ rs) o rises odd same =
    elim (cases_eq r.kind 1) [
      | inl kind ↦ here o (subst (λ (v : Option (List ℕ)). SameOption F o v) (value_here r rs kind) same) kind
      | inr unknown ↦ rw (skips_one read None r unknown odd.0) (records_again law (Some r.kind) rs o rises.1
          odd.1 (subst (λ (v : Option (List ℕ)). SameOption F o v) (value_later r rs unknown) same))
    ]
  where
    here : (p : Option A) → SameOption F p (Some r.value) → r.kind ≡ 1 → (after_record read None r >>= λ more. after_records read more rs) ≡ Ok p
    here None is kind = absurd is
    here (Some x) is kind =
        rw (reads_one read None r x kind (law.again x r.value is))
        (past_again read (Some x) r.kind rs (omega (arith, kind)) rises.1 odd.1)

stream_ok : (r : Result (List TlvRecord) WireFault) (l : List TlvRecord) → or_tlv r ≡ Ok l → r ≡ Ok l
stream_ok (Ok x) l e = ap (λ (y : List TlvRecord). Ok y) (ok_is x l e)
stream_ok (Err f) l e = absurd cc

pub optional_text : {A : Type 0} {read : List ℕ → Result A DecodeFault} {F : A → List ℕ → Type 0}
    → IsText read F → IsText (optional_of read) (IsOptional F)
unfolding optional_of
optional_text {A} {read} {F} law = record {
  takes = λ bytes o fits e.
      let a = bind_ok (stream_at bytes) (λ records. after_records read None records) o e in
      let stream = stream_takes a.0 bytes fits (stream_ok (tlvs_of bytes) a.0 a.1) in
      let t = records_take law None a.0 o stream.rises (values_fit a.0 bytes fits stream.whole) a.2 in
      record { records = a.0; stream = stream; odd = t.0; value = t.1 };
  again = λ o bytes is.
      rw (whole_read is.records bytes is.stream) (records_again law None is.records o is.stream.rises is.odd is.value);
}

-- all that is left as a field
pub optional_field : {A : Type 0} {read : List ℕ → Result A DecodeFault} {F : A → List ℕ → Type 0}
    → IsText read F → IsLast (optional_at read) (IsOptional F)
optional_field {A} {read} {F} law =
    let text = optional_text law in
    record {
      takes = λ bytes x fits e.
          let a = bind_ok (optional_of read bytes) (λ y. Ok (y, [])) x e in
          subst (λ (y : Option A × List ℕ). IsOptional F y.0 bytes) (ok_is (a.0, []) x a.2) (text.takes bytes a.0 fits a.1);
      again = λ x bytes is. rw (text.again x bytes is) refl;
    }

-- ---- a loop over the records

abbrev pub Known : {A : Type 0} → (List ℕ → Result A DecodeFault) → Option A → List Tlv → Result (Option A) DecodeFault
Known read known rs = after_records read known (records_of rs)

-- the record at i was read, and the next one follows
pub step_on : {A : Type 0} (read : List ℕ → Result A DecodeFault) (known more : Option A) (rs : List Tlv)
    (i : ℕ) (d : Tlv) (total : Result (Option A) DecodeFault) → i < length rs
    → after_record read known (record_of (get_or rs i d)) ≡ Ok more → Known read known (drop i rs) ≡ total → Known read more (drop (i + 1) rs) ≡ total
unfolding after_records
step_on read known more rs i d total lt e so_far =
    let front : Known read known (drop i rs) ≡ Known read known (get_or rs i d ∷ drop (i + 1) rs) = ap (Known read known) (drop_more rs i d lt) in
    let one : Known read known (get_or rs i d ∷ drop (i + 1) rs) ≡ Known read more (drop (i + 1) rs) = rw e refl in
    sym (front ∙ one) ∙ so_far

-- the record at i is faulty
pub step_fails : {A : Type 0} (read : List ℕ → Result A DecodeFault) (known : Option A) (rs : List Tlv)
    (i : ℕ) (d : Tlv) (f : DecodeFault) (total : Result (Option A) DecodeFault) → i < length rs
    → after_record read known (record_of (get_or rs i d)) ≡ Err f → Known read known (drop i rs) ≡ total → total ≡ Err f
unfolding after_records
step_fails read known rs i d f total lt e so_far =
    let front : Known read known (drop i rs) ≡ Known read known (get_or rs i d ∷ drop (i + 1) rs) = ap (Known read known) (drop_more rs i d lt) in
    let one : Known read known (get_or rs i d ∷ drop (i + 1) rs) ≡ Err f = rw e refl in
    sym so_far ∙ front ∙ one

-- no record is left
pub steps_end : {A : Type 0} (read : List ℕ → Result A DecodeFault) (known : Option A) (rs : List Tlv) (i : ℕ)
    (total : Result (Option A) DecodeFault) → length rs ≤ i → Known read known (drop i rs) ≡ total
    → total ≡ Ok known
unfolding after_records
steps_end read known rs i total le so_far = sym so_far ∙ ap (Known read known) (drop_all i rs le)

-- ---- a fact of what was read

same_for : {A : Type 0} {F : A → List ℕ → Type 0} (P : A → Type 0) → ((x : A) (b : List ℕ) → F x b → P x)
    → (o : Option A) (v : Option (List ℕ)) → SameOption F o v → ForSome o P
same_for {A} {F} P holds None v same = λ x e. absurd cc
same_for {A} {F} P holds (Some x) None same = absurd same
same_for {A} {F} P holds (Some x) (Some b) same = λ y e. let is : x ≡ y = cc in subst P is (holds x b same)

pub optional_for : {A : Type 0} {F : A → List ℕ → Type 0} (P : A → Type 0)
    → ((x : A) (b : List ℕ) → F x b → P x) → (o : Option A) (b : List ℕ) → IsOptional F o b → ForSome o P
optional_for {A} {F} P holds o b is = same_for P holds o (value_of is.records) is.value
