-- TLV streams: one record, what was read so far, and that reading returns a stream or its first fault.
use Rattle.std.proofs.Common.{◌+◌, ◌≡◌, ℕ, zero, suc, ◌^◌, ◌<◌, ◌≤◌, false, cond, ltb, List, [], ◌∷◌, ◌++◌, length, take, drop, Option}
use Rattle.std.proofs.Common.{Some, None, Result, Ok, Err, refl, sym, ap, subst, ◌∙◌, append_assoc, arith, inl, inr}
use Rattle.std.specs.List.{flat_map, AllByRecursion}
use Rattle.std.proofs.lemmas.Bool.{ltb-false, le-ltb}
use Rattle.std.proofs.lemmas.List.{take_at, drop_at, take-append-drop, length-append, length-take, append-nil, nil_from_length}
use Rattle.std.proofs.lemmas.List.Concat.{flat_map-cons, flat_map-append}
use Rattle.lgm_wire.proofs.ReadingLaws.{bind_ok, chosen, ok_is}
use Rattle.lgm_wire.specs.declared.fault.WireFault.{WireFault}
use Rattle.lgm_wire.specs.declared.fault.WireFault.TheVariants.{Cut, Order}
use Rattle.lgm_wire.specs.BigSize.{bigsize_bytes}
use Rattle.lgm_wire.specs.Tlv.{TlvRecord, record_bytes, IsAbove, RisesFrom, Fits, IsTlvStream}
use Rattle.lgm_wire.specs.reading.Reading.{◌>>=◌}
use Rattle.lgm_wire.specs.reading.BigSizeReading.{bigsize_at}
use Rattle.lgm_wire.specs.reading.TlvReading.{last_kind, is_not_above, record_at, IsFirstFault, tlvs_at, tlvs_of}
use Rattle.lgm_wire.proofs.Bytes.{IsBytes, IsBytes-drop, IsBytes-back}
use Rattle.lgm_wire.proofs.BigSizeLaws.{bigsize_spelled, bigsize_at-bigsize_bytes, length-bigsize_bytes}

-- ---- one record

-- the bytes begin with this record, whose type is above the last one
pub record RecordSpelled (last : Option ℕ) (bytes : List ℕ) (r : TlvRecord) (rest : List ℕ) : Type 0 where
  pub parts : bytes ≡ record_bytes r ++ rest
  pub fits : Fits r
  pub above : IsAbove last r.kind
  pub rest_fits : IsBytes rest

-- the test of the order and what it means
above_of : (last : Option ℕ) (kind : ℕ) → is_not_above last kind ≡ false → IsAbove last kind
above_of None kind e = tt
above_of (Some last) kind e = grind (arith)

not_above_of : (last : Option ℕ) (kind : ℕ) → IsAbove last kind → is_not_above last kind ≡ false
not_above_of None kind above = refl
not_above_of (Some last) kind above = grind (arith)

-- the three parts of a record and what follows, one by one
regrouped : (kind len value rest : List ℕ) → (kind ++ len ++ value) ++ rest ≡ kind ++ (len ++ (value ++ rest))
regrouped kind len value rest = append_assoc (kind ++ len) value rest ∙ append_assoc kind len (value ++ rest)

-- a type, a length and that many bytes encode a record
parts_spelled : (last : Option ℕ) (bytes : List ℕ) (kind len : ℕ) (after_kind after_len : List ℕ)
    → bytes ≡ bigsize_bytes kind ++ after_kind → after_kind ≡ bigsize_bytes len ++ after_len → kind < 2 ^ 64
    → len < 2 ^ 64 → IsAbove last kind → len ≤ length after_len → IsBytes after_len
    → RecordSpelled last bytes (record { kind = kind; value = take len after_len }) (drop len after_len)
parts_spelled last bytes kind len after_kind after_len first second kind_fits len_fits above long fits =
    let value = take len after_len in
    let rest = drop len after_len in
    let size : length value ≡ len = omega (arith, length-take len after_len) in
    let third : after_len ≡ value ++ rest = sym (take-append-drop len after_len) in
    let behind : after_kind ≡ bigsize_bytes (length value) ++ (value ++ rest) =
    second ∙ ap (λ (s : List ℕ). bigsize_bytes len ++ s) third
    ∙ ap (λ (k : ℕ). bigsize_bytes k ++ (value ++ rest)) (sym size) in
    record {
      parts =
          first ∙ ap (λ (s : List ℕ). bigsize_bytes kind ++ s) behind
          ∙ sym (regrouped (bigsize_bytes kind) (bigsize_bytes (length value)) value rest);
      fits = record { kind = kind_fits; len = rw size len_fits };
      above = above;
      rest_fits = IsBytes-drop len after_len fits;
    }

-- how the reading of a record continues after its length, and after its type
abbrev behind_len : ℕ → ℕ × List ℕ → Result (TlvRecord × List ℕ) WireFault
behind_len kind len = cond (ltb (length len.1) len.0) (Err Cut) (Ok (record { kind = kind; value = take len.0 len.1 }, drop len.0 len.1))

abbrev behind_kind : Option ℕ → ℕ × List ℕ → Result (TlvRecord × List ℕ) WireFault
behind_kind last kind = cond (is_not_above last kind.0) (Err Order) (bigsize_at kind.1 >>= behind_len kind.0)

-- bytes that are read encode the value
pub record_spelled : (last : Option ℕ) (bytes : List ℕ) (r : TlvRecord) (rest : List ℕ) → IsBytes bytes
    → record_at last bytes ≡ Ok (r, rest) → RecordSpelled last bytes r rest
unfolding record_at
record_spelled last bytes r rest fits e =
    let a = bind_ok (bigsize_at bytes) (behind_kind last) (r, rest) e in
    let kind = a.0 in
    let t = bigsize_spelled bytes kind.0 kind.1 fits a.1 in
    elim (chosen (is_not_above last kind.0) (Err Order) (bigsize_at kind.1 >>= behind_len kind.0) (Ok (r, rest)) a.2) [
      | inl bad ↦ absurd cc
      | inr good ↦
          let b = bind_ok (bigsize_at kind.1) (behind_len kind.0) (r, rest) good.1 in
          let len = b.0 in
          let u = bigsize_spelled kind.1 len.0 len.1 t.rest_fits b.1 in
          let made : TlvRecord × List ℕ = (record { kind = kind.0; value = take len.0 len.1 }, drop len.0 len.1) in
          elim (chosen (ltb (length len.1) len.0) (Err Cut) (Ok made) (Ok (r, rest)) b.2) [
            | inl bad ↦ absurd cc
            | inr fine ↦ subst (λ (x : TlvRecord × List ℕ). RecordSpelled last bytes x.0 x.1) (ok_is made (r, rest) fine.1)
                (parts_spelled last bytes kind.0 len.0 kind.1 len.1 t.parts u.parts t.fits u.fits
                (above_of last kind.0 good.0) (ltb-false _ _ fine.0) u.rest_fits)
          ]
    ]

-- an encoding is read as its value
pub record_at-record_bytes : (last : Option ℕ) (r : TlvRecord) (rest : List ℕ) → Fits r → IsAbove last r.kind
    → record_at last (record_bytes r ++ rest) ≡ Ok (r, rest)
unfolding record_at
record_at-record_bytes last r rest fits above =
    let long : ltb (length (r.value ++ rest)) (length r.value) ≡ false = le-ltb _ _ (omega (arith, length-append r.value rest)) in
    let higher = not_above_of last r.kind above in
    ap (record_at last) (regrouped (bigsize_bytes r.kind) (bigsize_bytes (length r.value)) r.value rest)
    ∙ rw (
      bigsize_at-bigsize_bytes r.kind (bigsize_bytes (length r.value) ++ (r.value ++ rest)) fits.kind,
      higher,
      bigsize_at-bigsize_bytes (length r.value) (r.value ++ rest) fits.len,
      long,
      take_at r.value rest (length r.value) refl,
      drop_at r.value rest (length r.value) refl,
    ) refl

-- a record has at least two bytes
record_len : (r : TlvRecord) (rest : List ℕ) → 2 + length rest ≤ length (record_bytes r ++ rest)
record_len r rest =
    omega (
      arith,
      length-append (record_bytes r) rest,
      length-append (bigsize_bytes r.kind ++ bigsize_bytes (length r.value)) r.value,
      length-append (bigsize_bytes r.kind) (bigsize_bytes (length r.value)),
      length-bigsize_bytes r.kind,
      length-bigsize_bytes (length r.value),
    )

-- ---- a stream, record by record

-- the front was read, and the rest is left
pub record IsRead (bytes : List ℕ) (front : List TlvRecord) (rest : List ℕ) (last : Option ℕ) : Type 0 where
  pub fits : AllByRecursion Fits front
  pub rises : RisesFrom None front
  pub parts : bytes ≡ flat_map record_bytes front ++ rest
  pub last_is : last ≡ last_kind None front

-- one more record
fits-push : (xs : List TlvRecord) (r : TlvRecord) → AllByRecursion Fits xs → Fits r → AllByRecursion Fits (xs ++ r ∷ [])
fits-push [] r all one = (one, tt)
fits-push (x ∷ xs) r all one = (all.0, fits-push xs r all.1 one)

rises-push : (last : Option ℕ) (xs : List TlvRecord) (r : TlvRecord) → RisesFrom last xs
    → IsAbove (last_kind last xs) r.kind → RisesFrom last (xs ++ r ∷ [])
rises-push last [] r rises above = (above, tt)
rises-push last (x ∷ xs) r rises above = (rises.0, rises-push (Some x.kind) xs r rises.1 above)

last-push : (last : Option ℕ) (xs : List TlvRecord) (r : TlvRecord) → last_kind last (xs ++ r ∷ []) ≡ Some r.kind
last-push last [] r = refl
last-push last (x ∷ xs) r = last-push (Some x.kind) xs r

-- one more record was read
pub goes_on : (bytes : List ℕ) (front : List TlvRecord) (rest : List ℕ) (last : Option ℕ) (r : TlvRecord)
    (after : List ℕ) → IsBytes bytes → IsRead bytes front rest last → record_at last rest ≡ Ok (r, after)
    → IsRead bytes (front ++ r ∷ []) after (Some r.kind)
goes_on bytes front rest last r after small so_far e =
    let t = record_spelled last rest r after (IsBytes-back bytes (flat_map record_bytes front) rest so_far.parts small) e in
    record {
      fits = fits-push front r so_far.fits t.fits;
      rises = rises-push None front r so_far.rises (subst (λ (k : Option ℕ). IsAbove k r.kind) so_far.last_is t.above);
      parts =
          so_far.parts ∙ ap (λ (s : List ℕ). flat_map record_bytes front ++ s) t.parts
          ∙ sym (append_assoc (flat_map record_bytes front) (record_bytes r) after) ∙ ap (λ (s : List ℕ). s
          ++ after) (sym (flat_map-append record_bytes front (r ∷ []) ∙ ap (λ (s : List ℕ).
          flat_map record_bytes front ++ s) (flat_map-cons record_bytes r [] ∙ append-nil (record_bytes r))));
      last_is = sym (last-push None front r);
    }

-- and fewer bytes are left
pub shrinks : (bytes : List ℕ) (front : List TlvRecord) (rest : List ℕ) (last : Option ℕ) (r : TlvRecord)
    (after : List ℕ) → IsBytes bytes → IsRead bytes front rest last → record_at last rest ≡ Ok (r, after)
    → length after < length rest
shrinks bytes front rest last r after small so_far e =
    let t = record_spelled last rest r after (IsBytes-back bytes (flat_map record_bytes front) rest so_far.parts small) e in
    omega (arith, ap length t.parts, record_len r after)

-- a reading that reaches the end has read the stream
pub whole_stream : (bytes : List ℕ) (front : List TlvRecord) (rest : List ℕ) (last : Option ℕ)
    → IsRead bytes front rest last → length rest ≡ 0 → IsTlvStream front bytes
whole_stream bytes front rest last so_far ended = record {
  fits = so_far.fits;
  rises = so_far.rises;
  whole =
      so_far.parts ∙ ap (λ (s : List ℕ). flat_map record_bytes front ++ s) (nil_from_length rest ended)
      ∙ append-nil (flat_map record_bytes front);
}

-- a reading that meets a fault meets the first one
pub first_fault : (bytes : List ℕ) (front : List TlvRecord) (rest : List ℕ) (last : Option ℕ) (e : WireFault)
    → IsRead bytes front rest last → 0 < length rest → record_at last rest ≡ Err e → IsFirstFault bytes e
first_fault bytes front rest last e so_far some fault = record {
  before = front;
  rest = rest;
  fits = so_far.fits;
  rises = so_far.rises;
  parts = so_far.parts;
  more = some;
  is = ap (λ (k : Option ℕ). record_at k rest) (sym so_far.last_is) ∙ fault;
}

-- ---- the records of a stream as a function

-- one record of a stream that isn't empty
tlvs_more : (n : ℕ) (last : Option ℕ) (bytes : List ℕ) (r : TlvRecord) (rest : List ℕ) → 0 < length bytes
    → record_at last bytes ≡ Ok (r, rest)
    → tlvs_at (suc n) last bytes ≡ (tlvs_at n (Some r.kind) rest >>= λ others. Ok (r ∷ others))
unfolding tlvs_at
tlvs_more n last [] r rest some e = absurd (omega arith)
tlvs_more n last (b ∷ bs) r rest some e = rw e refl

-- a faulty record
tlvs_fault : (n : ℕ) (last : Option ℕ) (bytes : List ℕ) (f : WireFault) → 0 < length bytes
    → record_at last bytes ≡ Err f → tlvs_at (suc n) last bytes ≡ Err f
unfolding tlvs_at
tlvs_fault n last [] f some e = absurd (omega arith)
tlvs_fault n last (b ∷ bs) f some e = rw e refl

-- nothing
tlvs_nil : (n : ℕ) (last : Option ℕ) → tlvs_at n last [] ≡ Ok []
unfolding tlvs_at
tlvs_nil n last = refl

-- complete records and nothing after them
tlvs_whole : (n : ℕ) (last : Option ℕ) (l : List TlvRecord) → AllByRecursion Fits l → RisesFrom last l
    → length (flat_map record_bytes l) ≤ n → tlvs_at n last (flat_map record_bytes l) ≡ Ok l
tlvs_whole n last [] fits rises le = tlvs_nil n last
tlvs_whole zero last (r ∷ l) fits rises le =
    absurd (omega (arith, ap length (flat_map-cons record_bytes r l), record_len r (flat_map record_bytes l)))
tlvs_whole (suc n) last (r ∷ l) fits rises le =
    let text = flat_map-cons record_bytes r l in
    let len = record_len r (flat_map record_bytes l) in
    let room : length (flat_map record_bytes l) ≤ n = omega (arith, ap length text, len, le) in
    ap (tlvs_at (suc n) last) text
    ∙ tlvs_more n last (record_bytes r ++ flat_map record_bytes l) r (flat_map record_bytes l)
    (omega (arith, len)) (record_at-record_bytes last r (flat_map record_bytes l) fits.0 rises.0)
    ∙ rw (tlvs_whole n (Some r.kind) l fits.1 rises.1 room) refl

-- complete records and a faulty one after them
tlvs_broken : (n : ℕ) (last : Option ℕ) (m : List TlvRecord) (rest : List ℕ) (f : WireFault)
    → AllByRecursion Fits m → RisesFrom last m → 0 < length rest → record_at (last_kind last m) rest ≡ Err f
    → length (flat_map record_bytes m ++ rest) ≤ n → tlvs_at n last (flat_map record_bytes m ++ rest) ≡ Err f
tlvs_broken zero last m rest f fits rises some e le = absurd (omega (arith, length-append (flat_map record_bytes m) rest))
tlvs_broken (suc n) last [] rest f fits rises some e le = tlvs_fault n last rest f some e
tlvs_broken (suc n) last (r ∷ m) rest f fits rises some e le =
    let tail : List ℕ = flat_map record_bytes m ++ rest in
    let text : flat_map record_bytes (r ∷ m) ++ rest ≡ record_bytes r ++ tail =
    ap (λ (s : List ℕ). s ++ rest) (flat_map-cons record_bytes r m)
    ∙ append_assoc (record_bytes r) (flat_map record_bytes m) rest in
    let len = record_len r tail in
    let room : length tail ≤ n = omega (arith, ap length text, len, le) in
    ap (tlvs_at (suc n) last) text ∙ tlvs_more n last (record_bytes r
    ++ tail) r tail (omega (arith, len)) (record_at-record_bytes last r tail fits.0 rises.0)
    ∙ rw (tlvs_broken n (Some r.kind) m rest f fits.1 rises.1 some e room) refl

-- a stream is read as its records
pub whole_read : (l : List TlvRecord) (b : List ℕ) → IsTlvStream l b → tlvs_of b ≡ Ok l
unfolding tlvs_of
whole_read l b whole =
    ap (λ (s : List ℕ). tlvs_at (length s) None s) whole.whole
    ∙ tlvs_whole (length (flat_map record_bytes l)) None l whole.fits whole.rises (omega arith)

-- bytes with a fault are read as their first one
pub broken_read : (b : List ℕ) (f : WireFault) → IsFirstFault b f → tlvs_of b ≡ Err f
unfolding tlvs_of
broken_read b f broken =
    ap (λ (s : List ℕ). tlvs_at (length s) None s) broken.parts
    ∙ tlvs_broken (length (flat_map record_bytes broken.before ++ broken.rest)) None broken.before broken.rest
    f broken.fits broken.rises broken.more broken.is (omega arith)

-- ---- what is read as a stream is one

-- the records after one of the last type
pub record IsStream (last : Option ℕ) (bytes : List ℕ) (l : List TlvRecord) : Type 0 where
  pub fits : AllByRecursion Fits l
  pub rises : RisesFrom last l
  pub whole : bytes ≡ flat_map record_bytes l

tlvs_take : (n : ℕ) (last : Option ℕ) (bytes : List ℕ) (l : List TlvRecord) → IsBytes bytes → length bytes ≤ n
    → tlvs_at n last bytes ≡ Ok l → IsStream last bytes l
unfolding tlvs_at
tlvs_take n last [] l fits le e = subst (λ (x : List TlvRecord). IsStream last [] x) (ok_is [] l e) (record { fits = tt; rises = tt; whole = refl })
tlvs_take zero last (b ∷ bs) l fits le e = absurd (omega arith)
tlvs_take (suc n) last (b ∷ bs) l fits le e =
    let first = bind_ok (record_at last (b ∷ bs)) (λ x. tlvs_at n (Some x.0.kind) x.1 >>= λ others. Ok (x.0 ∷ others)) l e in
    let r = first.0.0 in
    let left = first.0.1 in
    let t = record_spelled last (b ∷ bs) r left fits first.1 in
    let others = bind_ok (tlvs_at n (Some r.kind) left) (λ others. Ok (r ∷ others)) l first.2 in
    let len : length left < length (b ∷ bs) = omega (arith, ap length t.parts, record_len r left) in
    let s = tlvs_take n (Some r.kind) left others.0 t.rest_fits (omega arith) others.1 in
    subst (λ (x : List TlvRecord). IsStream last (b ∷ bs) x) (ok_is (r ∷ others.0) l others.2) (record {
      fits = (t.fits, s.fits);
      rises = (t.above, s.rises);
      whole = t.parts ∙ ap (λ (x : List ℕ). record_bytes r ++ x) s.whole ∙ sym (flat_map-cons record_bytes r others.0);
    })

pub stream_takes : (l : List TlvRecord) (bytes : List ℕ) → IsBytes bytes → tlvs_of bytes ≡ Ok l → IsTlvStream l bytes
unfolding tlvs_of
stream_takes l bytes fits e =
    let s = tlvs_take (length bytes) None bytes l fits (omega arith) e in
    record { fits = s.fits; rises = s.rises; whole = s.whole }

-- ---- what has no record

pub two_bytes : (r : TlvRecord) (rest : List ℕ) → 2 ≤ length (record_bytes r ++ rest)
two_bytes r rest = omega (arith, record_len r rest)

-- so if one was read, there were at least two bytes
pub has_two_bytes : (bytes : List ℕ) (front : List TlvRecord) (rest : List ℕ) (last : Option ℕ)
    (r : TlvRecord) (after : List ℕ) → IsBytes bytes → IsRead bytes front rest last
    → record_at last rest ≡ Ok (r, after) → 2 ≤ length bytes
has_two_bytes bytes front rest last r after small so_far e =
    let t = record_spelled last rest r after (IsBytes-back bytes (flat_map record_bytes front) rest so_far.parts small) e in
    omega (arith, ap length so_far.parts, length-append (flat_map record_bytes front) rest, ap length t.parts, two_bytes r after)

-- ---- two readings of one stream

-- a reading that reaches the end is the only one
pub is_only : (front l : List TlvRecord) (bytes : List ℕ) → IsTlvStream front bytes → IsTlvStream l bytes → front ≡ l
is_only front l bytes whole other = ok_is front l (sym (whole_read front bytes whole) ∙ whole_read l bytes other)

-- and bytes with a fault have none
pub no_fault : (bytes : List ℕ) (f : WireFault) (l : List TlvRecord) → IsFirstFault bytes f → IsTlvStream l bytes → ⊥
no_fault bytes f l broken whole =
    let fault = broken_read bytes f broken in
    let found = whole_read l bytes whole in
    absurd cc
