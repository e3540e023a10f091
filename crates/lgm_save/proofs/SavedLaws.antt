-- The bytes of a saved map, part by part.
use Rattle.std.proofs.Common.{◌≡◌, ◌≢◌, ℕ, zero, suc, ◌+◌, ◌^◌, ◌<◌, ◌≤◌, List, [], ◌∷◌, ◌++◌, length, get_or, take, drop, refl, sym, ap, ◌∙◌, arith, append_assoc}
use Rattle.std.specs.List.{AllByRecursion, flat_map}
use Rattle.std.proofs.lemmas.List.{length-append, take_more, flat_map_more, take_at}
use Rattle.std.proofs.lemmas.List.Concat.{length-flat_map}
use Rattle.std.proofs.lemmas.List.Sums.{sum_by_more_le}
use Rattle.lgm_wire.specs.declared.chain_hash.ChainHash.{ChainHash}
use Rattle.lgm_save.specs.declared.record.Record.{Record}
use Rattle.lgm_save.specs.declared.record.Record.TheVariants as records
use Rattle.lgm_save.specs.Numbers.{in_eight}
use Rattle.lgm_save.specs.Checksum.{sums_of, in_bytes, checksum}
use Rattle.lgm_save.specs.Records.{IsRecord, bytes_of}
use Rattle.lgm_save.specs.declared.checksum.Sums.{Sums}
use Rattle.lgm_save.specs.inner.Filling.{IsFilled}
use Rattle.lgm_save.specs.Saved.{opening, headed, sealed, saved_as}
use Rattle.lgm_save.proofs.NumberLaws.{length-in_eight, in_eight-same, front_same, rest_same}
use Rattle.lgm_save.proofs.RecordLaws.{record_same}

pub length-checksum : (bytes : List ℕ) → length (checksum bytes) ≡ 16
length-checksum bytes =
    omega (
      arith,
      length-append (in_eight (sums_of bytes).first) (in_eight (sums_of bytes).second),
      length-in_eight (sums_of bytes).first,
      length-in_eight (sums_of bytes).second,
    )

pub length-opening : length opening ≡ 12
unfolding opening
length-opening = refl

pub length-headed : (chain : ChainHash) (body : List ℕ) → length (headed chain body) ≡ 20 + length chain.0 + length body
length-headed chain body =
    let behind = in_eight (length body) ++ body in
    let twelve : length opening ≡ 12 = length-opening in
    omega (arith, length-append opening (chain.0 ++ behind), length-append chain.0 behind, length-append (in_eight (length body)) body, length-in_eight (length body))

pub length-sealed : (content : List ℕ) → length (sealed content) ≡ length content + 16
length-sealed content = omega (arith, length-append content (checksum content), length-checksum content)

pub length-saved : (chain : ChainHash) (records : List Record) → length (saved_as chain records) ≡ 36 + length chain.0 + length (flat_map bytes_of records)
length-saved chain records =
    let body = flat_map bytes_of records in
    omega (arith, length-sealed (headed chain body), length-headed chain body)

-- ---- reading

-- what is behind the opening, and behind the chain
pub behind_opening : (content rest : List ℕ) (chain : ChainHash) (body : List ℕ) → content ≡ opening ++ rest → content ≡ headed chain body
    → rest ≡ chain.0 ++ (in_eight (length body) ++ body)
behind_opening content rest chain body parts e =
    rest_same opening opening rest (chain.0 ++ (in_eight (length body) ++ body)) refl (sym parts ∙ e)

pub behind_chain : (content rest behind : List ℕ) (chain : ChainHash) (body : List ℕ) → content ≡ opening ++ rest → rest ≡ chain.0 ++ behind
    → content ≡ headed chain body → behind ≡ in_eight (length body) ++ body
behind_chain content rest behind chain body parts more e =
    rest_same chain.0 chain.0 behind (in_eight (length body) ++ body) refl (sym more ∙ behind_opening content rest chain body parts e)

pub too_few : (behind body : List ℕ) → length behind < 8 → behind ≡ in_eight (length body) ++ body → ⊥
too_few behind body few e = absurd (omega (arith, ap length e, length-append (in_eight (length body)) body, length-in_eight (length body)))

pub other_length : (behind found body : List ℕ) (n : ℕ) → n < 2 ^ 64 → length body < 2 ^ 64 → behind ≡ in_eight n ++ found
    → n ≢ length found → behind ≡ in_eight (length body) ++ body → ⊥
other_length behind found body n small short parts differ e =
    let len : length (in_eight n) ≡ length (in_eight (length body)) = length-in_eight n ∙ sym (length-in_eight (length body)) in
    let both = sym parts ∙ e in
    differ (in_eight-same n (length body) small short (front_same _ _ found body len both)
    ∙ ap length (sym (rest_same (in_eight n) (in_eight (length body)) found body len both)))

pub head_found : (content rest behind found : List ℕ) (chain : ChainHash) (n : ℕ) → content ≡ opening ++ rest → rest ≡ chain.0 ++ behind
    → behind ≡ in_eight n ++ found → n ≡ length found → content ≡ headed chain found
head_found content rest behind found chain n a b c len =
    a ∙ ap (λ (s : List ℕ). opening ++ s) (b ∙ ap (λ (s : List ℕ). chain.0 ++ s) (c ∙ ap (λ (k : ℕ). in_eight k ++ found) len))

-- the content and the checksum of sealed bytes
pub sealed_parts : (bytes content sums whole : List ℕ) → bytes ≡ content ++ sums → length content + 16 ≡ length bytes → bytes ≡ sealed whole
    → (content ≡ whole) × (sums ≡ checksum whole)
sealed_parts bytes content sums whole parts len e =
    let same : length content ≡ length whole = omega (arith, ap length e, length-sealed whole) in
    let both = sym parts ∙ e in
    (front_same content whole sums (checksum whole) same both, rest_same content whole sums (checksum whole) same both)

-- bytes with their checksum are those of one content
pub sealed_same : (content whole : List ℕ) → sealed content ≡ sealed whole → content ≡ whole
sealed_same content whole e =
    let len : length content + 16 ≡ length (sealed content) = omega (arith, length-sealed content) in
    (sealed_parts (sealed content) content (checksum content) whole refl len e).0

pub sealed_found : (bytes content sums whole : List ℕ) → bytes ≡ content ++ sums → sums ≡ in_bytes (sums_of content) → content ≡ whole → bytes ≡ sealed whole
sealed_found bytes content sums whole parts is e = parts ∙ ap (λ (s : List ℕ). content ++ s) is ∙ ap sealed e

-- ---- records one by one

pub All-at : {X : Type 0} (P : X → Type 0) (xs : List X) (i : ℕ) (d : X) → AllByRecursion P xs → i < length xs → P (get_or xs i d)
All-at P [] i d all lt = absurd (omega arith)
All-at P (x ∷ xs) zero d all lt = all.0
All-at P (x ∷ xs) (suc i) d all lt = All-at P xs i d all.1 (omega arith)

pub fits_more : (records : List Record) (i : ℕ) (d : Record) → i < length records
    → length (flat_map bytes_of (take i records)) + length (bytes_of (get_or records i d)) ≤ length (flat_map bytes_of records)
fits_more records i d lt =
    omega (
      arith,
      length-flat_map bytes_of (take i records),
      length-flat_map bytes_of records,
      sum_by_more_le (λ (r : Record). length (bytes_of r)) records i d lt,
    )

-- each record has bytes
pub some_bytes : (r : Record) → 0 < length (bytes_of r)
some_bytes (records.Ban point) = omega arith
some_bytes (records.Channel sat message) = omega arith
some_bytes (records.Update message) = omega arith
some_bytes (records.Node message) = omega arith

-- bytes that begin with those of records are those of these and of others
pub parts_left : (done all : List Record) (rest : List ℕ) → AllByRecursion IsRecord done → AllByRecursion IsRecord all
    → flat_map bytes_of done ++ rest ≡ flat_map bytes_of all → (left : List Record) × AllByRecursion IsRecord left × (all ≡ done ++ left) × (rest ≡ flat_map bytes_of left)
parts_left [] all rest lawful lawful' e = (all, lawful', refl, e)
parts_left (d ∷ ds) [] rest lawful lawful' e =
    absurd (omega (arith, ap length e, length-append (bytes_of d ++ flat_map bytes_of ds) rest, length-append (bytes_of d) (flat_map bytes_of ds), some_bytes d))
parts_left (d ∷ ds) (a ∷ others) rest lawful lawful' e =
    let apart : bytes_of d ++ (flat_map bytes_of ds ++ rest) ≡ bytes_of a ++ flat_map bytes_of others =
    sym (append_assoc (bytes_of d) (flat_map bytes_of ds) rest) ∙ e in
    let both = record_same d a (flat_map bytes_of ds ++ rest) (flat_map bytes_of others) lawful.0 lawful'.0 apart in
    let more = parts_left ds others rest lawful.1 lawful'.1 both.1 in
    (more.0, more.1, ap (λ (r : Record). r ∷ others) (sym both.0) ∙ ap (λ (rs : List Record). d ∷ rs) more.2, more.3)

taken : (records : List Record) (i : ℕ) (item : Record) → i < length records → item ≡ get_or records i item
    → flat_map bytes_of (take (i + 1) records) ≡ flat_map bytes_of (take i records) ++ bytes_of item
taken records i item lt is =
    ap (flat_map bytes_of) (take_more records i item lt) ∙ ap (λ (r : Record). flat_map bytes_of (take i records ++ r ∷ [])) (sym is)
    ∙ sym (flat_map_more bytes_of [] (take i records) item)

pub taken_more : (front : List ℕ) (records : List Record) (i : ℕ) (item : Record) → i < length records → item ≡ get_or records i item
    → front ++ flat_map bytes_of (take (i + 1) records) ≡ (front ++ flat_map bytes_of (take i records)) ++ bytes_of item
taken_more front records i item lt is =
    ap (λ (s : List ℕ). front ++ s) (taken records i item lt is) ∙ sym (append_assoc front (flat_map bytes_of (take i records)) (bytes_of item))

pub behind_more : (records : List Record) (i : ℕ) (item : Record) (at behind : ℕ) → i < length records → item ≡ get_or records i item
    → behind ≡ at + length (flat_map bytes_of (take i records))
    → behind + length (bytes_of item) ≡ at + length (flat_map bytes_of (take (i + 1) records))
behind_more records i item at behind lt is place =
    omega (arith, place, ap length (taken records i item lt is), length-append (flat_map bytes_of (take i records)) (bytes_of item))

-- what was written in front of the records
pub head_written : (chain : ChainHash) (body : List ℕ) (n : ℕ) → n ≡ length body → ((([] ++ opening) ++ chain.0) ++ in_eight n) ++ body ≡ headed chain body
head_written chain body n is =
    append_assoc (opening ++ chain.0) (in_eight n) body ∙ append_assoc opening chain.0 (in_eight n ++ body)
    ∙ ap (λ (k : ℕ). opening ++ (chain.0 ++ (in_eight k ++ body))) is

pub all_written : (chain : ChainHash) (self items lent : List Record) (front digits : List ℕ) (n : ℕ) → front ≡ opening → digits ≡ in_eight n
    → n ≡ length (flat_map bytes_of items) → lent ≡ items → items ≡ self
    → ((([] ++ front) ++ chain.0) ++ digits) ++ flat_map bytes_of lent ≡ headed chain (flat_map bytes_of self)
all_written chain self items lent front digits n opened is len lends own =
    ap (λ (s : List ℕ). ((s ++ chain.0) ++ digits) ++ flat_map bytes_of lent) opened
    ∙ ap (λ (s : List ℕ). ((opening ++ chain.0) ++ s) ++ flat_map bytes_of lent) is
    ∙ ap (λ (rs : List Record). ((opening ++ chain.0) ++ in_eight n) ++ flat_map bytes_of rs) lends
    ∙ head_written chain (flat_map bytes_of items) n len
    ∙ ap (λ (rs : List Record). headed chain (flat_map bytes_of rs)) own

-- a buffer with sealed bytes in front
pub sealed_written : (start content a b room : List ℕ) (at : ℕ) (sums : Sums) → IsFilled start ((content ++ a) ++ b) at room → a ≡ in_eight sums.first
    → b ≡ in_eight sums.second → sums ≡ sums_of content → room ≡ sealed content ++ drop (length (sealed content)) start
sealed_written start content a b room at sums filled first second is =
    let seal : (content ++ a) ++ b ≡ sealed content =
    append_assoc content a b ∙ ap (λ (s : List ℕ). content ++ (s ++ b)) first ∙ ap (λ (s : List ℕ). content ++ (in_eight sums.first ++ s)) second
    ∙ ap (λ (t : Sums). content ++ in_bytes t) is in
    filled.bytes ∙ ap (λ (k : ℕ). ((content ++ a) ++ b) ++ drop k start) filled.place
    ∙ ap (λ (s : List ℕ). s ++ drop (length s) start) seal

-- what is in front of a filled buffer
pub front_filled : (start front room : List ℕ) (at : ℕ) → IsFilled start front at room → take at room ≡ front
front_filled start front room at filled =
    ap (take at) filled.bytes ∙ take_at front (drop at start) at (sym filled.place)
