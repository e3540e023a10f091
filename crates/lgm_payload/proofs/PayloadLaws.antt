-- The laws of payloads: reading returns a value if and only if the bytes encode it.
use Rattle.std.proofs.Common.{◌≡◌, ◌⊎◌, ℕ, ◌-◌, ◌%◌, ◌^◌, ◌<◌, ◌≤◌, true, false, cond, eqb, List, [], ◌∷◌, length, get_or}
use Rattle.std.proofs.Common.{take, drop, Option, Some, None, Result, Ok, Err, refl, sym, ap, subst, ◌∙◌, arith, inl, inr}
use Rattle.std.specs.Prelude.{IfOk, MatchResult, ◌&&◌}
use Rattle.std.specs.Int.{w64, to_be_bytes, from_be_bytes}
use Rattle.std.specs.List.{AllByRecursion}
use Rattle.std.specs.Option.{option_map, ForSome, is_some}
use Rattle.std.specs.Result.{result_err}
use Rattle.std.proofs.lemmas.Bool.{eqb-true, eq-eqb, ne_eqb}
use Rattle.std.proofs.lemmas.List.{length-drop}
use Rattle.std.proofs.lemmas.Option.{same_Some}
use Rattle.lgm_wire.specs.declared.fault.WireFault.{WireFault}
use Rattle.lgm_wire.specs.reading.Reading.{◌>>=◌, Gives}
use Rattle.lgm_wire.specs.reading.BigSizeReading.{bigsize_at}
use Rattle.lgm_wire.specs.TruncatedInteger.{number_of, truncated_bytes}
use Rattle.lgm_wire.specs.Tlv.{TlvRecord}
use Rattle.lgm_wire.specs.reading.TlvReading.{tlvs_of}
use Rattle.lgm_wire.specs.declared.tlv.Tlv.{Tlv}
use Rattle.lgm_wire.specs.TlvView.{record_of, records_of}
use Rattle.lgm_gossip.proofs.WireLaws.{chosen, bind_ok, ok_is, IsBytes, wide64, bigsize_spelled, bigsize_at-bigsize_bytes}
use Rattle.lgm_gossip.proofs.WireLaws.{ReadsBig, big_found, big_not_found, whole_read, stream_takes, values_fit}
use Rattle.lgm_payload.specs.declared.fault.PayloadFault.{PayloadFault}
use Rattle.lgm_payload.specs.declared.fault.PayloadFault.TheVariants.{Length, Extra, NoMemory}
use Rattle.lgm_payload.specs.declared.hop_payload.HopPayload.{HopPayload}
use Rattle.lgm_payload.specs.declared.hop_payload.Payment.{Payment}
use Rattle.lgm_payload.specs.declared.reader.FoundValues.{FoundValues}
use Rattle.lgm_payload.specs.HopPayload.{value_of, payment_bytes, IsKnown, IsOneWay, IsPayload}
use Rattle.lgm_payload.specs.reading.Reading.{unless, behind_len, or_tlv, number_fault, payment_of}
use Rattle.lgm_payload.specs.reading.Reading.{record_fault, first_fault, known_in, known_at}
use Rattle.lgm_payload.specs.reading.Reading.{whole_of, whole, payload_at, fault, text_at, stream_at}
use Rattle.lgm_payload.proofs.Values.{number_lawful, number_spelled, number_again, scid_lawful, payment_lawful, payment_spelled, payment_again}
use Rattle.lgm_payload.proofs.Records.{lawful_value, each_value, kinds_of, odd_skipped, AreTold, fault_at}

-- ---- bytes that are read encode the value

record IsWhole (known : FoundValues) (payload : HopPayload) : Type 0 where
  amount : known.amount ≡ Some payload.amount
  expiry : known.expiry ≡ Some payload.expiry
  next : known.next ≡ payload.next
  payment : known.payment ≡ payload.payment
  metadata : known.metadata ≡ payload.metadata
  one_way : IsOneWay payload

one_of : (next : Option ℕ) (payment : Option Payment) (p : HopPayload) (out : HopPayload)
    → cond (is_some next && is_some payment) (Err Extra) (Ok p) ≡ Ok out → ((next ≡ None) ⊎ (payment ≡ None)) × (p ≡ out)
one_of None payment p out e = (inl refl, ok_is p out e)
one_of (Some scid) None p out e = (inr refl, ok_is p out e)
one_of (Some scid) (Some payment) p out e = absurd cc

whole_is : (known : FoundValues) (payload : HopPayload) → whole known ≡ Ok payload → IsWhole known payload
whole_is known payload e = by known.amount known.expiry refl refl e
  where
    made : ℕ → ℕ → HopPayload
    made a x = record { amount = a; expiry = x; next = known.next; payment = known.payment; metadata = known.metadata }

    by : (a x : Option ℕ) → known.amount ≡ a → known.expiry ≡ x
        → whole_of a x known.next known.payment known.metadata ≡ Ok payload → IsWhole known payload
    by None x a-is x-is given = absurd cc
    by (Some a) None a-is x-is given = absurd cc
    by (Some a) (Some x) a-is x-is given =
        let t = one_of known.next known.payment (made a x) payload given in
        subst (IsWhole known) t.1 (record { amount = a-is; expiry = x-is; next = refl; payment = refl; metadata = refl; one_way = t.0 })

known_ok : (records : List TlvRecord) (known : FoundValues) → known_at records ≡ Ok known → (first_fault records ≡ None) × (known_in records ≡ known)
known_ok records known e = by (first_fault records) refl e
  where
    by : (f : Option PayloadFault) → first_fault records ≡ f → unless f (known_in records) ≡ Ok known
        → (first_fault records ≡ None) × (known_in records ≡ known)
    by None is given = (is, ok_is (known_in records) known given)
    by (Some fault) is given = absurd cc

text_ok : (r : Result (ℕ × List ℕ) WireFault) (text : List ℕ) → behind_len r ≡ Ok text → r ≡ Ok (length text, text)
text_ok (Err f) text e = absurd cc
text_ok (Ok (len, rest)) text e =
    elim (chosen (eqb len (length rest)) (Ok rest) (Err Length) (Ok text) e) [
      | inl is ↦
          let same : rest ≡ text = ok_is rest text is.1 in
          let size : len ≡ length text = eqb-true len (length rest) is.0 ∙ ap length same in
          cc
      | inr other ↦ absurd cc
    ]

stream_ok : (r : Result (List TlvRecord) WireFault) (l : List TlvRecord) → or_tlv r ≡ Ok l → r ≡ Ok l
stream_ok (Ok x) l e = ap (λ (y : List TlvRecord). Ok y) (ok_is x l e)
stream_ok (Err f) l e = absurd cc

-- the value of an option, by a function that encodes it
mapped : {A : Type 0} (spell : A → List ℕ) (of : List ℕ → A) (o : Option (List ℕ)) (x : Option A)
    → option_map of o ≡ x → ((v : List ℕ) → o ≡ Some v → v ≡ spell (of v)) → o ≡ option_map spell x
mapped spell of None x e each = ap (option_map spell) e
mapped spell of (Some v) x e each = ap (λ (w : List ℕ). Some w) (each v refl) ∙ ap (option_map spell) e

-- and a fact about it
for_mapped : {A : Type 0} (P : A → Type 0) (of : List ℕ → A) (o : Option (List ℕ)) (x : Option A)
    → option_map of o ≡ x → ((v : List ℕ) → o ≡ Some v → P (of v)) → ForSome x P
for_mapped P of None x e each = λ y is. absurd cc
for_mapped P of (Some v) x e each = λ y is. let same : of v ≡ y = cc in subst P same (each v refl)

-- a number that is there
number_there : (kind most : ℕ) (o : Option (List ℕ)) (n : ℕ) → most ≤ 8 → option_map number_of o ≡ Some n
    → ((v : List ℕ) → o ≡ Some v → (number_fault kind most v ≡ None) × IsBytes v)
    → (o ≡ Some (truncated_bytes n)) × (n < 256 ^ most)
number_there kind most None n few e lawful = absurd cc
number_there kind most (Some v) n few e lawful =
    let l = lawful v refl in
    let number = number_lawful kind most v few l.0 l.1 in
    let same : number_of v ≡ n = same_Some (number_of v) n e in
    (ap (λ (v : List ℕ). Some v) number.spells ∙ ap (λ (m : ℕ). Some (truncated_bytes m)) same, rw same at number.below)

pub payload_takes : (bytes : List ℕ) (payload : HopPayload) → IsBytes bytes → payload_at bytes ≡ Ok payload → IsPayload payload bytes
unfolding payload_at
payload_takes bytes payload fits e =
    let a = bind_ok (text_at bytes) (λ text. stream_at text >>= λ records. known_at records >>= whole) payload e in
    let text = a.0 in
    let b = bind_ok (stream_at text) (λ records. known_at records >>= whole) payload a.2 in
    let records = b.0 in
    let d = bind_ok (known_at records) whole payload b.2 in
    let framed = bigsize_spelled bytes (length text) text fits (text_ok (bigsize_at bytes) text a.1) in
    let stream = stream_takes records text framed.rest_fits (stream_ok (tlvs_of text) records b.1) in
    let values = values_fit records text framed.rest_fits stream.whole in
    let known = known_ok records d.0 d.1 in
    let none = known.0 in
    let is : IsWhole (known_in records) payload = subst (λ k. IsWhole k payload) (sym known.1) (whole_is d.0 payload d.2) in
    let lawful = λ (kind : ℕ) (v : List ℕ) (there : value_of kind records ≡ Some v). lawful_value kind records v none values there in
    let amount =
    number_there 2 8 (value_of 2 records) payload.amount (omega arith) is.amount
    (λ v there. let l = lawful 2 v there in (l.faultless, l.fits)) in
    let expiry =
    number_there 4 4 (value_of 4 records) payload.expiry (omega arith) is.expiry
    (λ v there. let l = lawful 4 v there in (l.faultless, l.fits)) in
    let paid = λ (v : List ℕ) (there : value_of 8 records ≡ Some v). let l = lawful 8 v there in payment_lawful v l.faultless l.fits in
    record {
      text = text;
      framed = record { whole = framed.parts; len = framed.fits };
      records = records;
      stream = stream;
      kinds = kinds_of records none;
      amount = amount.0;
      expiry = expiry.0;
      next =
          mapped (to_be_bytes w64) (from_be_bytes w64) (value_of 6 records) payload.next is.next
          (λ v there. let l = lawful 6 v there in scid_lawful v l.faultless l.fits);
      payment = mapped payment_bytes payment_of (value_of 8 records) payload.payment is.payment (λ v there. (paid v there).spells);
      metadata = is.metadata;
      fits = record {
        amount = let lt = amount.1 in omega arith;
        expiry = let lt = expiry.1 in omega arith;
        next =
            for_mapped (λ scid. scid < 2 ^ 64) (from_be_bytes w64) (value_of 6 records) payload.next is.next
            (λ v there. wide64.below v (lawful 6 v there).fits);
        secret =
            for_mapped (λ payment. length payment.secret ≡ 32) payment_of (value_of 8 records) payload.payment is.payment
            (λ v there. (paid v there).secret);
        total =
            for_mapped (λ payment. payment.total < 2 ^ 64) payment_of (value_of 8 records) payload.payment is.payment
            (λ v there. (paid v there).total);
      };
      one_way = is.one_way;
    }

-- ---- an encoding is read as its value

-- an option's value, by what it encodes
spelled_by : {A : Type 0} (spell : A → List ℕ) (x : Option A) (v : List ℕ) → option_map spell x ≡ Some v
    → (y : A) × (v ≡ spell y) × (x ≡ Some y)
spelled_by spell None v e = absurd cc
spelled_by spell (Some y) v e = (y, cc, refl)

module _ (payload : HopPayload) (bytes : List ℕ) (is : IsPayload payload bytes) where
  -- the value of a record, by its type
  here : (kind : ℕ) (r : TlvRecord) → r.kind ≡ kind → value_of r.kind is.records ≡ Some r.value → value_of kind is.records ≡ Some r.value
  here kind r e there = sym (ap (λ k. value_of k is.records) e) ∙ there

  record_lawful : (r : TlvRecord) → IsKnown r.kind ⊎ (r.kind % 2 ≡ 1) → value_of r.kind is.records ≡ Some r.value → record_fault r ≡ None
  record_lawful r (inr odd) there = odd_skipped r.kind r.value odd
  record_lawful r (inl (inl e)) there =
      let v : r.value ≡ truncated_bytes payload.amount = same_Some r.value _ (sym (here 2 r e there) ∙ is.amount) in
      rw (e, v) (number_spelled 2 8 payload.amount (let lt = is.fits.amount in omega arith) (omega arith))
  record_lawful r (inl (inr (inl e))) there =
      let v : r.value ≡ truncated_bytes payload.expiry = same_Some r.value _ (sym (here 4 r e there) ∙ is.expiry) in
      rw (e, v) (number_spelled 4 4 payload.expiry (let lt = is.fits.expiry in omega arith) (omega arith))
  record_lawful r (inl (inr (inr (inl e)))) there =
      let s = spelled_by (to_be_bytes w64) payload.next r.value (sym is.next ∙ here 6 r e there) in
      rw (e, s.1) refl
  record_lawful r (inl (inr (inr (inr (inl e))))) there =
      let s = spelled_by payment_bytes payload.payment r.value (sym is.payment ∙ here 8 r e there) in
      rw (e, s.1) (payment_spelled s.0 (is.fits.secret s.0 s.2) (is.fits.total s.0 s.2))
  record_lawful r (inl (inr (inr (inr (inr e))))) there = rw e refl

  records_lawful : (rs : List TlvRecord) → AllByRecursion (λ r. IsKnown r.kind ⊎ (r.kind % 2 ≡ 1)) rs
      → AllByRecursion (λ r. value_of r.kind is.records ≡ Some r.value) rs → first_fault rs ≡ None
  records_lawful [] kinds values = refl
  records_lawful (r ∷ rs) kinds values = rw (record_lawful r kinds.0 values.0) (records_lawful rs kinds.1 values.1)

-- what was encoded is found again
again : {A : Type 0} (spell : A → List ℕ) (of : List ℕ → A) (x : Option A) → ((y : A) → x ≡ Some y → of (spell y) ≡ y)
    → option_map of (option_map spell x) ≡ x
again spell of None each = refl
again {A} spell of (Some y) each = ap (λ (z : A). Some z) (each y refl)

one_test : (p : HopPayload) → IsOneWay p → (is_some p.next && is_some p.payment) ≡ false
one_test p (inl none) = rw none refl
one_test p (inr none) = by p.next
  where
    by : (o : Option ℕ) → (is_some o && is_some p.payment) ≡ false
    by None = refl
    by (Some n) = rw none refl

pub payload_again : (bytes : List ℕ) (payload : HopPayload) → IsPayload payload bytes → payload_at bytes ≡ Ok payload
unfolding payload_at
payload_again bytes payload is =
    let size : behind_len (bigsize_at bytes) ≡ Ok is.text =
    ap (λ (b : List ℕ). behind_len (bigsize_at b)) is.framed.whole ∙ rw (
      bigsize_at-bigsize_bytes (length is.text) is.text is.framed.len,
      eq-eqb (length is.text) (length is.text) refl,
    ) refl in
    let stream : stream_at is.text ≡ Ok is.records = ap or_tlv (whole_read is.records is.text is.stream) in
    let none = records_lawful payload bytes is is.records is.kinds (each_value None is.records is.stream.rises) in
    let amount : option_map number_of (value_of 2 is.records) ≡ Some payload.amount =
    ap (option_map number_of) is.amount ∙ ap (λ (n : ℕ). Some n) (number_again payload.amount is.fits.amount) in
    let small : payload.expiry < 2 ^ 64 = let lt = is.fits.expiry in omega arith in
    let expiry : option_map number_of (value_of 4 is.records) ≡ Some payload.expiry =
    ap (option_map number_of) is.expiry ∙ ap (λ (n : ℕ). Some n) (number_again payload.expiry small) in
    let next : option_map (from_be_bytes w64) (value_of 6 is.records) ≡ payload.next =
    ap (option_map (from_be_bytes w64)) is.next ∙ again _ _ payload.next (λ n there. wide64.again n (is.fits.next n there)) in
    let payment : option_map payment_of (value_of 8 is.records) ≡ payload.payment =
    ap (option_map payment_of) is.payment
    ∙ again _ _ payload.payment (λ p there. payment_again p (is.fits.secret p there) (is.fits.total p there)) in
    let values : FoundValues = record {
      amount = Some payload.amount;
      expiry = Some payload.expiry;
      next = payload.next;
      payment = payload.payment;
      metadata = payload.metadata;
    } in
    let known : known_in is.records ≡ values = rw (amount, expiry, next, payment, is.metadata) refl in
    let all : known_at is.records ≡ Ok values = rw (none, known) refl in
    rw (size, stream, all, one_test payload is.one_way) refl

-- ---- the clauses

pub is_found : (bytes : List ℕ) (r : Result HopPayload PayloadFault) → IsBytes bytes
    → Gives NoMemory (λ p. p) r (payload_at bytes) → IfOk r (λ p. IsPayload p bytes)
is_found bytes (Ok p) fits given = payload_takes bytes p fits given
is_found bytes (Err e) fits given = tt

pub is_only : (bytes : List ℕ) (r : Result HopPayload PayloadFault) (p : HopPayload) → Gives NoMemory (λ p. p)
    r (payload_at bytes) → IsPayload p bytes → MatchResult r (λ found. found ≡ p) (λ e. e ≡ NoMemory)
is_only bytes (Ok x) p given is = ok_is x p (sym given ∙ payload_again bytes p is)
is_only bytes (Err e) p given is =
    elim given [
      | inl none ↦ none
      | inr fault ↦ let bad = sym fault ∙ payload_again bytes p is in absurd cc
    ]

none_ok : (r : Result HopPayload PayloadFault) → result_err r ≡ None → (p : HopPayload) × (r ≡ Ok p)
none_ok (Ok p) e = (p, refl)
none_ok (Err f) e = absurd cc

pub once : (p q : HopPayload) (b : List ℕ) → IsPayload p b → IsPayload q b → p ≡ q
once p q b a c = ok_is p q (sym (payload_again b p a) ∙ payload_again b q c)

pub spelled : (b : List ℕ) → IsBytes b → fault b ≡ None → (p : HopPayload) × IsPayload p b
spelled b fits e =
    let r = none_ok (payload_at b) e in
    (r.0, payload_takes b r.0 fits r.1)

pub faultless : (p : HopPayload) (b : List ℕ) → IsPayload p b → fault b ≡ None
faultless p b is = ap result_err (payload_again b p is)

-- ---- the length in front

pub text_found : (bytes : List ℕ) (len front : ℕ) (text : List ℕ) → ReadsBig bytes (Ok (len, front))
    → len ≡ length bytes - front → text ≡ drop front bytes → text_at bytes ≡ Ok text
text_found bytes len front text reads size is =
    let same : eqb len (length (drop front bytes)) ≡ true = eq-eqb _ _ (omega (arith, length-drop front bytes)) in
    ap behind_len (big_found bytes len front reads) ∙ rw (is, same) refl

pub text_other : (bytes : List ℕ) (len front : ℕ) → ReadsBig bytes (Ok (len, front)) → (len ≡ length bytes - front → ⊥) → text_at bytes ≡ Err Length
text_other bytes len front reads size =
    let other : eqb len (length (drop front bytes)) ≡ false = ne_eqb _ _ (λ e. size (omega (arith, length-drop front bytes))) in
    ap behind_len (big_found bytes len front reads) ∙ rw other refl

pub text_none : (bytes : List ℕ) (result : Result (ℕ × ℕ) WireFault) (e : WireFault) → IsBytes bytes
    → result ≡ Err e → ReadsBig bytes result → text_at bytes ≡ Err Length
text_none bytes result e fits failed reads =
    let f = big_not_found bytes result e fits failed reads in
    ap behind_len f.1

-- ---- a faulty record ends a loop

pub told_fails : (tlvs : List Tlv) (i : ℕ) (d : Tlv) (known : FoundValues) (fault : PayloadFault) → i < length tlvs
    → AreTold (records_of (take i tlvs)) known
    → (fault ≡ NoMemory) ⊎ (record_fault (record_of (get_or tlvs i d)) ≡ Some fault) → (fault ≡ NoMemory) ⊎ (known_at (records_of tlvs) ≡ Err fault)
told_fails tlvs i d known fault lt told (inl none) = inl none
told_fails tlvs i d known fault lt told (inr is) = inr (rw (fault_at tlvs i d known fault lt told is) refl)
