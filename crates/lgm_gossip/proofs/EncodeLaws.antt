-- Segments that represent the fields of a message, and the result of joining them.
use Rattle.std.proofs.Common.{◌≡◌, ℕ, ◌^◌, ◌<◌, ◌≤◌, ◌↔◌, List, [], ◌∷◌, ◌++◌, length, Bor, Option, Some, None, Result}
use Rattle.std.proofs.Common.{Ok, Err, refl, sym, ap, subst, ◌∙◌, append_assoc, arith, inl, inr}
use Rattle.std.specs.Prelude.{IfOk}
use Rattle.std.specs.List.{flat_map, AllByRecursion}
use Rattle.std.specs.Int.{w8, w16, w32, w64, to_be_bytes}
use Rattle.std.proofs.lemmas.Bool.{cases_lt}
use Rattle.std.proofs.lemmas.List.{append-nil}
use Rattle.lgm_gossip.specs.declared.segment.Segment.{Segment}
use Rattle.lgm_gossip.specs.declared.segment.Segment.TheVariants as segments
use Rattle.lgm_gossip.specs.declared.encode_fault.EncodeFault.{EncodeFault}
use Rattle.lgm_gossip.specs.declared.encode_fault.EncodeFault.TheVariants.{TooLong}
use Rattle.lgm_gossip.specs.Streams.{TlvRecord, record_bytes, bigsize_bytes, IsBigSize}
use Rattle.lgm_gossip.specs.Fields.{Field, ◌⌢◌, Encloses, counted_text, fixed, number, counted, rest, dropped}
use Rattle.lgm_gossip.specs.Optional.{optional}
use Rattle.lgm_gossip.specs.inner.Segment.{text, texts, SegmentFits}
use Rattle.lgm_gossip.specs.declared.message.Message.{Message}
use Rattle.lgm_gossip.specs.declared.timestamps.Timestamps.{Timestamps}
use Rattle.lgm_gossip.specs.EncodedIds.{ids_text, encoded_ids}
use Rattle.lgm_gossip.specs.QueryFlags.{flags_text, IsQueryFlags}
use Rattle.lgm_gossip.specs.TimestampList.{pair_bytes, pairs_text, PairFits, IsTimestampList}
use Rattle.lgm_gossip.specs.Message.{Wire}
use Rattle.lgm_gossip.specs.reading.MessageReading.{message_at}
use Rattle.lgm_gossip.specs.Spelling.{typed, Encodes}
use Rattle.lgm_gossip.proofs.MessageLaws.{message_again}

-- the segments are the texts of the fields, one after the other, and if their numbers fit they encode the fields
pub record Says (ps : List Segment) (F : Field) : Type 0 where
  pub same : texts ps ≡ flat_map (λ t. t) F.texts
  pub is : AllByRecursion SegmentFits ps → F.Is (texts ps)

-- a segment that is one field
pub then_part : {p : Segment} {ps : List Segment} {t : List ℕ} {F : List ℕ → Type 0} {G : Field} → text p ≡ t
    → (SegmentFits p → F (text p)) → Says ps G → Says (p ∷ ps) (record { Is = F; texts = t ∷ [] } ⌢ G)
then_part {p} {ps} {t} {F} {G} same is others = record {
  same = ap (λ (s : List ℕ). s ++ texts ps) same ∙ ap (λ (s : List ℕ). t ++ s) others.same;
  is = λ fits. record { front = text p; back = texts ps; whole = refl; front_is = is fits.0; back_is = others.is fits.1 };
}

pub then_whole : {ps : List Segment} {G : Field} (n : ℕ) (p : Segment) (x : List ℕ) → (fixed n x).Is (text p) → Says ps G → Says (p ∷ ps) (fixed n x ⌢ G)
then_whole {ps} {G} n p x is others = then_part is.0 (λ fits. is) others

pub then_8 : {ps : List Segment} {G : Field} (n : ℕ) → Says ps G → Says (segments.Number8 n ∷ ps) (number w8 n ⌢ G)
then_8 {ps} {G} n others = then_part refl (λ fits. (refl, fits)) others

pub then_16 : {ps : List Segment} {G : Field} (n : ℕ) → Says ps G → Says (segments.Number16 n ∷ ps) (number w16 n ⌢ G)
then_16 {ps} {G} n others = then_part refl (λ fits. (refl, fits)) others

pub then_32 : {ps : List Segment} {G : Field} (n : ℕ) → Says ps G → Says (segments.Number32 n ∷ ps) (number w32 n ⌢ G)
then_32 {ps} {G} n others = then_part refl (λ fits. (refl, fits)) others

pub then_64 : {ps : List Segment} {G : Field} (n x : ℕ) → n ≡ x → Says ps G → Says (segments.Number64 n ∷ ps) (number w64 x ⌢ G)
then_64 {ps} {G} n x same others =
    then_part (ap (λ (k : ℕ). to_be_bytes w64 k) same)
    (λ fits. (ap (λ (k : ℕ). to_be_bytes w64 k) same, subst (λ (k : ℕ). k < 2 ^ 64) same fits)) others

-- a length, and the segment that it measures
pub then_counted : {ps : List Segment} {G : Field} (len : ℕ) (p : Segment) (x : List ℕ) → text p ≡ x
    → len ≡ length (texts (p ∷ [])) → Says ps G → Says (segments.Number16 len ∷ p ∷ ps) (counted x ⌢ G)
then_counted {ps} {G} len p x text_is measured others = record {
  same =
      ap (λ (s : List ℕ). to_be_bytes w16 len ++ (text p ++ s)) others.same
      ∙ sym (append_assoc (to_be_bytes w16 len) (text p) (flat_map (λ t. t) G.texts))
      ∙ ap (λ (s : List ℕ). s ++ flat_map (λ t. t) G.texts) front_is;
  is = λ fits. record {
    front = to_be_bytes w16 len ++ text p;
    back = texts ps;
    whole = sym (append_assoc (to_be_bytes w16 len) (text p) (texts ps));
    front_is = (front_is, subst (λ (k : ℕ). k < 2 ^ 16) len_is fits.0);
    back_is = others.is fits.1.1;
  };
}
  where
    len_is : len ≡ length x
    len_is = measured ∙ ap length (append-nil (text p) ∙ text_is)

    front_is : to_be_bytes w16 len ++ text p ≡ counted_text x
    front_is = ap (λ (k : ℕ). to_be_bytes w16 k ++ text p) len_is ∙ ap (λ (s : List ℕ). to_be_bytes w16 (length x) ++ s) text_is

-- the last field
pub says_rest : (p : Segment) (x : List ℕ) → text p ≡ x → Says (p ∷ []) (rest x)
says_rest p x text_is = record { same = ap (λ (s : List ℕ). s ++ []) text_is; is = λ fits. append-nil (text p) ∙ text_is }

-- a length, and two segments that it measures together
pub then_enclosed : {ps : List Segment} {F : List ℕ → Type 0} {G : Field} (len : ℕ) (p q : Segment) (x : List ℕ)
    → texts (p ∷ q ∷ []) ≡ x → len ≡ length (texts (p ∷ q ∷ [])) → (SegmentFits q → F x) → Says ps G
    → Says (segments.Number16 len ∷ p ∷ q ∷ ps) (record { Is = Encloses F; texts = counted_text x ∷ [] } ⌢ G)
then_enclosed {ps} {F} {G} len p q x text_is measured inner others = record {
  same = all (texts ps) ∙ ap (λ (s : List ℕ). counted_text x ++ s) others.same;
  is = λ fits. record {
    front = counted_text x;
    back = texts ps;
    whole = all (texts ps);
    front_is = record { text = x; whole = (refl, subst (λ (k : ℕ). k < 2 ^ 16) len_is fits.0); is = inner fits.1.1.0 };
    back_is = others.is fits.1.1.1;
  };
}
  where
    len_is : len ≡ length x
    len_is = measured ∙ ap length text_is

    pair_is : text p ++ text q ≡ x
    pair_is = ap (λ (s : List ℕ). text p ++ s) (sym (append-nil (text q))) ∙ text_is

    all : (left : List ℕ) → to_be_bytes w16 len ++ (text p ++ (text q ++ left)) ≡ counted_text x ++ left
    all left =
        ap (λ (s : List ℕ). to_be_bytes w16 len ++ s) (sym (append_assoc (text p) (text q) left)
        ∙ ap (λ (s : List ℕ). s ++ left) pair_is) ∙ ap (λ (k : ℕ). to_be_bytes w16 k
        ++ (x ++ left)) len_is ∙ sym (append_assoc (to_be_bytes w16 (length x)) x left)

-- no option, and no record
pub says_none : {A : Type 0} {F : A → List ℕ → Type 0} (value : A → List ℕ) → Says [] (optional F value None)
says_none {A} {F} value = record {
  same = refl;
  is = λ fits. record { records = []; stream = record { fits = tt; rises = tt; whole = refl }; odd = tt; value = tt };
}

-- an option under another name
pub says_same : {A : Type 0} {ps : List Segment} {F : A → List ℕ → Type 0} (value : A → List ℕ) {option same : Option A}
    → option ≡ same → Says ps (optional F value same) → Says ps (optional F value option)
says_same {A} {ps} {F} value {option} {same} is says = subst (λ (x : Option A). Says ps (optional F value x)) (sym is) says

-- an option as a record of type 1, after the length of its value
pub says_some : {A : Type 0} {F : A → List ℕ → Type 0} (value : A → List ℕ) (x : A) (len : ℕ) (qs : List Segment)
    → texts qs ≡ value x → len ≡ length (texts qs) → (AllByRecursion SegmentFits qs → F x (value x))
    → Says (segments.Big 1 ∷ segments.Big len ∷ qs) (optional F value (Some x))
says_some {A} {F} value x len qs text_is measured inner = record {
  same = all;
  is = λ fits. record {
    records = r ∷ [];
    stream =
        record {
          fits = (record { kind = omega arith; len = subst (λ (k : ℕ). k < 2 ^ 64) len_is fits.1.0 }, tt);
          rises = (tt, tt);
          whole = all;
        };
    odd = (refl, tt);
    value = inner fits.1.1;
  };
}
  where
    r : TlvRecord
    r = record { kind = 1; value = value x }

    len_is : len ≡ length (value x)
    len_is = measured ∙ ap length text_is

    all : bigsize_bytes 1 ++ (bigsize_bytes len ++ texts qs) ≡ flat_map (λ t. t) (record_bytes (record { kind = 1; value = value x }) ∷ [])
    all =
        ap (λ (s : List ℕ). bigsize_bytes 1 ++ (bigsize_bytes len ++ s)) text_is
        ∙ ap (λ (k : ℕ). bigsize_bytes 1 ++ (bigsize_bytes k ++ value x)) len_is
        ∙ sym (append_assoc (bigsize_bytes 1) (bigsize_bytes (length (value x))) (value x))
        ∙ sym (append-nil (record_bytes (record { kind = 1; value = value x })))

-- nothing after the last field
pub says_nothing : Says [] dropped
says_nothing = record { same = refl; is = λ fits. tt }

-- the result of joining segments
pub record Joins (ps : List Segment) (r : Result (List ℕ) EncodeFault) : Type 0 where
  pub too_long : (r ≡ Err TooLong) ↔ (65535 < length (texts ps))
  pub text : IfOk r (λ bytes. bytes ≡ texts ps)
  pub fits : IfOk r (λ _. AllByRecursion SegmentFits ps)

abbrev done : List ℕ → Result (List ℕ) EncodeFault
done bytes = Ok bytes

pub encodes : {ps : List Segment} {F : Field} (kind : ℕ) (r : Result (List ℕ) EncodeFault) → Says ps F
    → Joins (segments.Number16 kind ∷ ps) r → Encodes kind F r
encodes {ps} {F} kind (Ok b) says joins =
    let same : texts (segments.Number16 kind ∷ ps) ≡ typed kind F.texts = ap (λ (s : List ℕ). to_be_bytes w16 kind ++ s) says.same in
    record {
      too_long = subst (λ (s : List ℕ). (done b ≡ Err TooLong) ↔ (65535 < length s)) same joins.too_long;
      text = joins.text ∙ same;
      spelled = record { body = texts ps; whole = joins.text; fields = says.is joins.fits.1; len = short };
    }
  where
    short : length b ≤ 65535
    short = elim (cases_lt 65535 (length b)) [
      | inl long ↦ let bad = joins.too_long.1 (omega (arith, ap length joins.text)) in absurd cc
      | inr le ↦ le
    ]
encodes {ps} {F} kind (Err e) says joins =
    let same : texts (segments.Number16 kind ∷ ps) ≡ typed kind F.texts = ap (λ (s : List ℕ). to_be_bytes w16 kind ++ s) says.same in
    record {
      too_long = subst (λ (s : List ℕ). (failed e ≡ Err TooLong) ↔ (65535 < length s)) same joins.too_long;
      text = tt;
      spelled = tt;
    }
  where
    failed : EncodeFault → Result (List ℕ) EncodeFault
    failed e = Err e

pub two_parts : (p q : Segment) (x y : List ℕ) → text p ≡ x → text q ≡ y → texts (p ∷ q ∷ []) ≡ x ++ y
two_parts p q x y first second =
    ap (λ (s : List ℕ). text p ++ s) (append-nil (text q)) ∙ ap (λ (s : List ℕ). s ++ text q) first
    ∙ ap (λ (s : List ℕ). x ++ s) second

-- ---- ids, and the options of each message

pub then_ids : {ps : List Segment} {G : Field} (len : ℕ) (b : Bor (List ℕ)) (ids : List ℕ) → b.now ≡ ids
    → len ≡ length (texts (segments.Number8 0 ∷ segments.Ids b ∷ [])) → Says ps G
    → Says (segments.Number16 len ∷ segments.Number8 0 ∷ segments.Ids b ∷ ps) (encoded_ids ids ⌢ G)
then_ids {ps} {G} len b ids same measured others =
    then_enclosed len (segments.Number8 0) (segments.Ids b) (ids_text ids)
    (two_parts (segments.Number8 0) (segments.Ids b) (0 ∷ []) (flat_map (to_be_bytes w64) ids) refl
    (ap (λ (xs : List ℕ). flat_map (to_be_bytes w64) xs) same)) measured
    (λ fits. record { fits = subst (λ (xs : List ℕ). AllByRecursion (λ id. id < 2 ^ 64) xs) same fits; spelled = inl refl }) others

pub says_flags : (count len : ℕ) (b : Bor (List ℕ)) (flags : List ℕ) → b.now ≡ flags → length flags ≡ count
    → len ≡ length (texts (segments.Number8 0 ∷ segments.Bigs b ∷ []))
    → Says (segments.Big 1 ∷ segments.Big len ∷ segments.Number8 0 ∷ segments.Bigs b ∷ []) (optional (IsQueryFlags count) flags_text (Some flags))
says_flags count len b flags same one_each measured =
    says_some flags_text flags len (segments.Number8 0 ∷ segments.Bigs b ∷ [])
    (two_parts (segments.Number8 0) (segments.Bigs b) (0 ∷ []) (flat_map bigsize_bytes flags) refl
    (ap (λ (xs : List ℕ). flat_map bigsize_bytes xs) same)) measured
    (λ fits. record { fits = subst (λ (xs : List ℕ). AllByRecursion (λ f. f < 2 ^ 64) xs) same fits.1.0; one_each = one_each; spelled = refl })

pub says_options : (len v : ℕ) → len ≡ length (bigsize_bytes v)
    → Says (segments.Big 1 ∷ segments.Big len ∷ segments.Big v ∷ []) (optional IsBigSize bigsize_bytes (Some v))
says_options len v measured =
    says_some bigsize_bytes v len (segments.Big v ∷ []) (append-nil (bigsize_bytes v))
    (measured ∙ ap length (sym (append-nil (bigsize_bytes v)))) (λ fits. (fits.0, refl))

pub says_pairs : (count len : ℕ) (b : Bor (List Timestamps)) (pairs : List Timestamps) → b.now ≡ pairs
    → length pairs ≡ count → len ≡ length (texts (segments.Number8 0 ∷ segments.Pairs b ∷ []))
    → Says (segments.Big 1 ∷ segments.Big len ∷ segments.Number8 0 ∷ segments.Pairs b ∷ []) (optional (IsTimestampList count) pairs_text (Some pairs))
says_pairs count len b pairs same one_each measured =
    says_some pairs_text pairs len (segments.Number8 0 ∷ segments.Pairs b ∷ [])
    (two_parts (segments.Number8 0) (segments.Pairs b) (0 ∷ []) (flat_map pair_bytes pairs) refl
    (ap (λ (xs : List Timestamps). flat_map pair_bytes xs) same)) measured
    (λ fits. record { fits = subst (λ (xs : List Timestamps). AllByRecursion PairFits xs) same fits.1.0; one_each = one_each; spelled = refl })

-- what encodes the message is read as it
pub reads_back : (m : Message) (r : Result (List ℕ) EncodeFault) → IfOk r (λ bytes. Wire m bytes) → IfOk r (λ bytes. message_at bytes ≡ Ok m)
reads_back m (Ok bytes) wire = message_again bytes m wire
reads_back m (Err e) wire = tt
