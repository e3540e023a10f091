-- The bytes of records: what is in front of bytes is one record, or none.
use Rattle.std.proofs.Common.{◌≡◌, ◌≢◌, ℕ, ◌+◌, ◌^◌, ◌<◌, ◌≤◌, List, [], ◌∷◌, ◌++◌, length, take, drop, refl, sym, ap, subst, ◌∙◌, arith, append_assoc}
use Rattle.std.specs.Prelude.{Option, Some, None, IfSome, SomeIff}
use Rattle.std.proofs.lemmas.List.{length-append, length-take, take-append-drop}
use Rattle.lgm_gossip.specs.Layout.{IsAnnounce, IsUpdate, IsNodeAnnounce, IsLaidOut}
use Rattle.lgm_gossip.specs.declared.layout.Layout.{Layout}
use Rattle.lgm_gossip.specs.declared.layout.Layout.TheVariants as layouts
use Rattle.lgm_gossip.specs.declared.message.Message.TheVariants as messages
use Rattle.lgm_gossip.specs.reading.AnnounceReading.{announce_in}
use Rattle.lgm_gossip.specs.reading.NodeAnnounceReading.{node_in}
use Rattle.lgm_gossip.specs.reading.ChannelUpdateReading.{update_in}
use Rattle.lgm_gossip.proofs.MessageLaws.{message_again}
use Rattle.lgm_wire.specs.declared.point.Point.{Point}
use Rattle.lgm_save.specs.Numbers.{in_two, in_eight}
use Rattle.lgm_save.specs.declared.record.Record.{Record}
use Rattle.lgm_save.specs.declared.record.Record.TheVariants as records
use Rattle.lgm_save.specs.Records.{IsRecord, bytes_of, framed}
use Rattle.lgm_save.specs.inner.Reading.{Finds, FindsNone, IsKind}
use Rattle.lgm_save.proofs.NumberLaws.{length-in_two, length-in_eight, in_two-same, in_eight-same, front_same, rest_same}

-- ---- messages behind their lengths

pub no_length : (bytes message rest : List ℕ) → length bytes < 2 → bytes ≡ framed message ++ rest → ⊥
no_length bytes message rest few e =
    absurd (omega (arith, ap length e, length-append (framed message) rest, length-append (in_two (length message)) message, length-in_two (length message)))

-- the length and what is behind it
framed_parts : (n : ℕ) (behind message rest : List ℕ) → n < 2 ^ 16 → length message ≤ 65535
    → in_two n ++ behind ≡ framed message ++ rest → (n ≡ length message) × (behind ≡ message ++ rest)
framed_parts n behind message rest small short e =
    let parts : in_two n ++ behind ≡ in_two (length message) ++ (message ++ rest) = e ∙ append_assoc (in_two (length message)) message rest in
    let len : length (in_two n) ≡ length (in_two (length message)) = length-in_two n ∙ sym (length-in_two (length message)) in (
      in_two-same n (length message) small (omega arith) (front_same _ _ behind (message ++ rest) len parts),
      rest_same (in_two n) (in_two (length message)) behind (message ++ rest) len parts,
    )

pub too_short : (bytes behind message rest : List ℕ) (n : ℕ) → n < 2 ^ 16 → length message ≤ 65535 → bytes ≡ in_two n ++ behind
    → length behind < n → bytes ≡ framed message ++ rest → ⊥
too_short bytes behind message rest n small short parts few e =
    let both = framed_parts n behind message rest small short (sym parts ∙ e) in
    absurd (omega (arith, both.0, ap length both.1, length-append message rest))

-- two messages in front are the same
pub framed_same : (m m' t t' : List ℕ) → length m ≤ 65535 → length m' ≤ 65535 → framed m ++ t ≡ framed m' ++ t' → (m ≡ m') × (t ≡ t')
framed_same m m' t t' short short' e =
    let both = framed_parts (length m) (m ++ t) m' t' (omega arith) short' (sym (append_assoc (in_two (length m)) m t) ∙ e) in
    (front_same m m' t t' both.0 both.1, rest_same m m' t t' both.0 both.1)

-- ---- messages of a kind

pub kind_short : (layout : Layout) (message : List ℕ) → IsKind layout message → length message ≤ 65535
kind_short layouts.Announce message is = is.spelled.len
kind_short layouts.Update message is = is.spelled.len
kind_short layouts.Node message is = is.spelled.len
kind_short layouts.Other message is = absurd is

-- bytes have one layout
pub kind_only : (x y : Layout) (raw : List ℕ) → IsLaidOut x raw → IsKind y raw → x ≡ y
kind_only layouts.Announce layouts.Announce raw laid is = refl
kind_only layouts.Update layouts.Update raw laid is = refl
kind_only layouts.Node layouts.Node raw laid is = refl
kind_only layouts.Announce layouts.Update raw laid is = let other = sym laid.1 ∙ message_again raw (messages.ChannelUpdate (update_in raw)) is.spelled in absurd cc
kind_only layouts.Announce layouts.Node raw laid is = let other = sym laid.1 ∙ message_again raw (messages.NodeAnnounce (node_in raw)) is.spelled in absurd cc
kind_only layouts.Update layouts.Announce raw laid is = let other = sym laid.1 ∙ message_again raw (messages.Announce (announce_in raw)) is.spelled in absurd cc
kind_only layouts.Update layouts.Node raw laid is = let other = sym laid.1 ∙ message_again raw (messages.NodeAnnounce (node_in raw)) is.spelled in absurd cc
kind_only layouts.Node layouts.Announce raw laid is = let other = sym laid.1 ∙ message_again raw (messages.Announce (announce_in raw)) is.spelled in absurd cc
kind_only layouts.Node layouts.Update raw laid is = let other = sym laid.1 ∙ message_again raw (messages.ChannelUpdate (update_in raw)) is.spelled in absurd cc
kind_only layouts.Other layouts.Announce raw laid is = let nothing : ⊥ = rw (message_again raw (messages.Announce (announce_in raw)) is.spelled) at laid in absurd nothing
kind_only layouts.Other layouts.Update raw laid is = let nothing : ⊥ = rw (message_again raw (messages.ChannelUpdate (update_in raw)) is.spelled) at laid in absurd nothing
kind_only layouts.Other layouts.Node raw laid is = let nothing : ⊥ = rw (message_again raw (messages.NodeAnnounce (node_in raw)) is.spelled) at laid in absurd nothing
kind_only x layouts.Other raw laid is = absurd is

-- a layout that is laid out is of its kind
pub laid_is_kind : (x : Layout) (raw : List ℕ) → IsLaidOut x raw → (x ≢ layouts.Other) → IsKind x raw
laid_is_kind layouts.Announce raw laid not = laid.0
laid_is_kind layouts.Update raw laid not = laid.0
laid_is_kind layouts.Node raw laid not = laid.0
laid_is_kind layouts.Other raw laid not = absurd (not refl)

-- ---- a record in front

-- two records in front are the same
pub record_same : (r r' : Record) (t t' : List ℕ) → IsRecord r → IsRecord r' → bytes_of r ++ t ≡ bytes_of r' ++ t' → (r ≡ r') × (t ≡ t')
record_same (records.Ban p) (records.Ban q) t t' is is' e =
    let parts : p.0 ++ t ≡ q.0 ++ t' = ap (drop 1) e in
    let same = front_same p.0 q.0 t t' (is ∙ sym is') parts in
    (ap (λ (bytes : List ℕ). let point : Point = record { 0 = bytes } in records.Ban point) same, rest_same p.0 q.0 t t' (is ∙ sym is') parts)
record_same (records.Channel n m) (records.Channel n' m') t t' is is' e =
    let parts : (in_eight n ++ framed m) ++ t ≡ (in_eight n' ++ framed m') ++ t' = ap (drop 1) e in
    let apart : in_eight n ++ (framed m ++ t) ≡ in_eight n' ++ (framed m' ++ t') =
    sym (append_assoc (in_eight n) (framed m) t) ∙ parts ∙ append_assoc (in_eight n') (framed m') t' in
    let len : length (in_eight n) ≡ length (in_eight n') = length-in_eight n ∙ sym (length-in_eight n') in
    let number = in_eight-same n n' is.0 is'.0 (front_same _ _ _ _ len apart) in
    let both = framed_same m m' t t' is.1.spelled.len is'.1.spelled.len (rest_same (in_eight n) (in_eight n') _ _ len apart) in
    (ap (λ (k : ℕ). records.Channel k m) number ∙ ap (λ (s : List ℕ). records.Channel n' s) both.0, both.1)
record_same (records.Update m) (records.Update m') t t' is is' e =
    let both = framed_same m m' t t' is.spelled.len is'.spelled.len (ap (drop 1) e) in
    (ap (λ (s : List ℕ). records.Update s) both.0, both.1)
record_same (records.Node m) (records.Node m') t t' is is' e =
    let both = framed_same m m' t t' is.spelled.len is'.spelled.len (ap (drop 1) e) in
    (ap (λ (s : List ℕ). records.Node s) both.0, both.1)
record_same (records.Ban p) (records.Channel n' m') t t' is is' e = absurd cc
record_same (records.Ban p) (records.Update m') t t' is is' e = absurd cc
record_same (records.Ban p) (records.Node m') t t' is is' e = absurd cc
record_same (records.Channel n m) (records.Ban q) t t' is is' e = absurd cc
record_same (records.Channel n m) (records.Update m') t t' is is' e = absurd cc
record_same (records.Channel n m) (records.Node m') t t' is is' e = absurd cc
record_same (records.Update m) (records.Ban q) t t' is is' e = absurd cc
record_same (records.Update m) (records.Channel n' m') t t' is is' e = absurd cc
record_same (records.Update m) (records.Node m') t t' is is' e = absurd cc
record_same (records.Node m) (records.Ban q) t t' is is' e = absurd cc
record_same (records.Node m) (records.Channel n' m') t t' is is' e = absurd cc
record_same (records.Node m) (records.Update m') t t' is is' e = absurd cc

-- ---- no record in front

pub no_ban : (bytes : List ℕ) → length bytes < 33 → FindsNone (1 ∷ bytes)
no_ban bytes few (records.Ban p) rest is e = absurd (omega (arith, ap length e, length-append p.0 rest, is))
no_ban bytes few (records.Channel n m) rest is e = absurd cc
no_ban bytes few (records.Update m) rest is e = absurd cc
no_ban bytes few (records.Node m) rest is e = absurd cc

pub no_channel : (bytes : List ℕ) → ((sat : ℕ) (message rest : List ℕ) → sat < 2 ^ 64 → IsAnnounce message
    → bytes ≢ (in_eight sat ++ framed message) ++ rest) → FindsNone (2 ∷ bytes)
no_channel bytes none (records.Channel n m) rest is e = none n m rest is.0 is.1 (ap (drop 1) e)
no_channel bytes none (records.Ban p) rest is e = absurd cc
no_channel bytes none (records.Update m) rest is e = absurd cc
no_channel bytes none (records.Node m) rest is e = absurd cc

pub no_update : (bytes : List ℕ) → ((message rest : List ℕ) → IsUpdate message → bytes ≢ framed message ++ rest) → FindsNone (3 ∷ bytes)
no_update bytes none (records.Update m) rest is e = none m rest is (ap (drop 1) e)
no_update bytes none (records.Ban p) rest is e = absurd cc
no_update bytes none (records.Channel n m) rest is e = absurd cc
no_update bytes none (records.Node m) rest is e = absurd cc

pub no_node : (bytes : List ℕ) → ((message rest : List ℕ) → IsNodeAnnounce message → bytes ≢ framed message ++ rest) → FindsNone (4 ∷ bytes)
no_node bytes none (records.Node m) rest is e = none m rest is (ap (drop 1) e)
no_node bytes none (records.Ban p) rest is e = absurd cc
no_node bytes none (records.Channel n m) rest is e = absurd cc
no_node bytes none (records.Update m) rest is e = absurd cc

pub no_kind : (kind : ℕ) (bytes : List ℕ) → kind ≢ 1 → kind ≢ 2 → kind ≢ 3 → kind ≢ 4 → FindsNone (kind ∷ bytes)
no_kind kind bytes n1 n2 n3 n4 (records.Ban p) rest is e = n1 (cc)
no_kind kind bytes n1 n2 n3 n4 (records.Channel n m) rest is e = n2 (cc)
no_kind kind bytes n1 n2 n3 n4 (records.Update m) rest is e = n3 (cc)
no_kind kind bytes n1 n2 n3 n4 (records.Node m) rest is e = n4 (cc)

-- a channel whose message isn't in front
pub channel_not : (bytes behind : List ℕ) (n : ℕ) → bytes ≡ in_eight n ++ behind
    → ((message rest : List ℕ) → IsAnnounce message → behind ≢ framed message ++ rest)
    → (sat : ℕ) (message rest : List ℕ) → sat < 2 ^ 64 → IsAnnounce message → bytes ≢ (in_eight sat ++ framed message) ++ rest
channel_not bytes behind n parts none sat message rest small is e =
    none message rest is (rest_same (in_eight n) (in_eight sat) behind (framed message ++ rest)
    (length-in_eight n ∙ sym (length-in_eight sat)) (sym parts ∙ e ∙ append_assoc (in_eight sat) (framed message) rest))

pub channel_few : (bytes : List ℕ) → length bytes < 8
    → (sat : ℕ) (message rest : List ℕ) → sat < 2 ^ 64 → IsAnnounce message → bytes ≢ (in_eight sat ++ framed message) ++ rest
channel_few bytes few sat message rest small is e =
    absurd (omega (arith, ap length e, length-append (in_eight sat ++ framed message) rest, length-append (in_eight sat) (framed message), length-in_eight sat))

pub ban_found : (bytes digits rest : List ℕ) → digits ≡ take 33 bytes → rest ≡ drop 33 bytes → length rest + 33 ≡ length bytes
    → Finds (1 ∷ bytes) (records.Ban (record { 0 = digits })) rest
ban_found bytes digits rest front behind len = record {
  lawful = ap length front ∙ omega (arith, length-take 33 bytes);
  parts =
      ap (λ (s : List ℕ). 1 ∷ s) (sym (take-append-drop 33 bytes) ∙ ap (λ (s : List ℕ). s ++ drop 33 bytes) (sym front)
      ∙ ap (λ (s : List ℕ). digits ++ s) (sym behind));
}

-- another message is in front
pub message_not : (bytes found rest : List ℕ) (layout : Layout) (message behind : List ℕ) → bytes ≡ framed found ++ rest → length found ≤ 65535
    → (IsKind layout found → ⊥) → IsKind layout message → bytes ≡ framed message ++ behind → ⊥
message_not bytes found rest layout message behind parts short not is e =
    let both = framed_same found message rest behind short (kind_short layout message is) (sym parts ∙ e) in
    not (subst (λ (m : List ℕ). IsKind layout m) (sym both.0) is)

pub length-framed : (message : List ℕ) → length (framed message) ≡ length message + 2
length-framed message = omega (arith, length-append (in_two (length message)) message, length-in_two (length message))

-- no message of a kind is in front of bytes of another layout
pub not_kind : (found layout : Layout) (message : List ℕ) → IsLaidOut found message → (layout ≡ found → ⊥) → IsKind layout message → ⊥
not_kind found layout message laid differ is = differ (sym (kind_only found layout message laid is))

pub other_kind : (layout : Layout) (message : List ℕ) → IsLaidOut layouts.Other message → IsKind layout message → ⊥
other_kind layouts.Announce message laid is = let bad = kind_only layouts.Other layouts.Announce message laid is in absurd cc
other_kind layouts.Update message laid is = let bad = kind_only layouts.Other layouts.Update message laid is in absurd cc
other_kind layouts.Node message laid is = let bad = kind_only layouts.Other layouts.Node message laid is in absurd cc
other_kind layouts.Other message laid is = is

-- a tag and a message behind bytes
pub tagged : (front found message bytes : List ℕ) (kind : ℕ) → found ≡ message → bytes ≡ kind ∷ framed message
    → (front ++ kind ∷ []) ++ framed found ≡ front ++ bytes
tagged front found message bytes kind same is =
    append_assoc front (kind ∷ []) (framed found) ∙ ap (λ (m : List ℕ). front ++ kind ∷ framed m) same ∙ ap (λ (s : List ℕ). front ++ s) (sym is)

-- ---- lengths

pub ban_length : (r : Record) (p : Point) → r ≡ records.Ban p → IsRecord r → 34 ≡ length (bytes_of r)
ban_length r p is lawful =
    let len : length p.0 ≡ 33 = subst IsRecord is lawful in
    omega (arith, ap (λ (x : Record). length (bytes_of x)) is)

pub channel_length : (r : Record) (sat : ℕ) (message : List ℕ) → r ≡ records.Channel sat message → length (bytes_of r) ≡ length (framed message) + 9
channel_length r sat message is =
    ap (λ (x : Record). length (bytes_of x)) is ∙ omega (arith, length-append (in_eight sat) (framed message), length-in_eight sat)

pub update_length : (r : Record) (message : List ℕ) → r ≡ records.Update message → length (bytes_of r) ≡ length (framed message) + 1
update_length r message is = ap (λ (x : Record). length (bytes_of x)) is ∙ omega arith

-- a sum that fits
pub sums : (P : Type 0) (o : Option ℕ) (sum n : ℕ) → SomeIff o P sum → sum ≡ n → IfSome o (λ found. found ≡ n)
sums P None sum n some is = tt
sums P (Some x) sum n some is = some.1 ∙ is
