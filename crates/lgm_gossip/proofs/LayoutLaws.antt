-- Bytes that are long enough are read at the offsets of their fields, and others announce nothing.
use Rattle.std.proofs.Common.{◌≡◌, ℕ, ◌<◌, ◌≤◌, true, false, List, [], ◌∷◌, length, drop, Result, Ok, Err, refl, sym, ap, subst, ◌∙◌, arith}
use Rattle.std.specs.Prelude.{nat_le, nat_lt}
use Rattle.std.specs.Int.{w16, from_be_bytes, to_be_bytes}
use Rattle.std.proofs.lemmas.Bool.{le-ltb, lt-ltb, leb-true, le-leb}
use Rattle.std.proofs.lemmas.List.{take_at, drop_at}
use Rattle.lgm_gossip.specs.declared.fault.DecodeFault.{DecodeFault}
use Rattle.lgm_gossip.specs.declared.announce.Announce.{Announce}
use Rattle.lgm_gossip.specs.declared.channel_update.ChannelUpdate.{ChannelUpdate}
use Rattle.lgm_gossip.specs.declared.node_announce.NodeAnnounce.{NodeAnnounce}
use Rattle.lgm_gossip.specs.declared.layout.Layout.TheVariants as layouts
use Rattle.lgm_gossip.specs.declared.message.Message.{Message}
use Rattle.lgm_gossip.specs.declared.message.Message.TheVariants as messages
use Rattle.lgm_gossip.specs.Fields.{Field}
use Rattle.lgm_gossip.specs.Message.{Spells, Wire}
use Rattle.lgm_gossip.specs.Places.{number_in}
use Rattle.lgm_gossip.specs.Layout.{AnnouncesNothing, IsLaidOut, IsAnnounce, IsUpdate, IsNodeAnnounce}
use Rattle.lgm_gossip.specs.reading.AnnounceReading.{announce_len, announce_in, announce_at}
use Rattle.lgm_gossip.specs.reading.NodeAnnounceReading.{node_len, node_in, node_announce_at}
use Rattle.lgm_gossip.specs.reading.ChannelUpdateReading.{update_in, channel_update_at}
use Rattle.lgm_gossip.specs.reading.MessageReading.{kind_at, message_at}
use Rattle.lgm_gossip.proofs.WireLaws.{IsBytes}
use Rattle.lgm_gossip.proofs.MessageLaws.{message_takes}
use Rattle.lgm_gossip.proofs.AnnounceLaws as announces
use Rattle.lgm_gossip.proofs.NodeAnnounceLaws as nodes
use Rattle.lgm_gossip.proofs.ChannelUpdateLaws as updates

-- what a test of lengths says
pub is_long : (a b : ℕ) → true ≡ nat_le a b → a ≤ b
is_long a b e = leb-true a b (sym e)

pub is_short : (a b : ℕ) → false ≡ nat_le a b → a ≤ b → ⊥
is_short a b e le = let bad : true ≡ false = sym (le-leb a b le) ∙ sym e in absurd cc

-- bytes of a message, which is read by its type
pub record IsShort (raw : List ℕ) : Type 0 where
  pub fits : IsBytes raw
  pub two : 2 ≤ length raw
  pub short : length raw ≤ 65535

typed : (raw : List ℕ) → 2 ≤ length raw → length raw ≤ 65535 → message_at raw ≡ kind_at (number_in w16 0 raw) raw
unfolding message_at
typed [] long short = absurd (omega arith)
typed (high ∷ []) long short = absurd (omega arith)
typed (high ∷ low ∷ body) long short =
    let within : nat_lt 65535 (length (high ∷ low ∷ body)) ≡ false = le-ltb _ _ short in
    rw within refl

-- ---- a message of one of the three types

pub announce_laid : (raw : List ℕ) → IsShort raw → number_in w16 0 raw ≡ 256 → announce_len raw ≤ length raw → IsLaidOut layouts.Announce raw
unfolding kind_at announce_at
announce_laid raw is kind long =
    let at : message_at raw ≡ Ok (messages.Announce (announce_in raw)) = typed raw is.two is.short ∙ rw (kind, le-leb _ _ long) refl in
    (record { long = long; spelled = message_takes raw (messages.Announce (announce_in raw)) is.fits at }, at)

pub update_laid : (raw : List ℕ) → IsShort raw → number_in w16 0 raw ≡ 258 → 138 ≤ length raw → IsLaidOut layouts.Update raw
unfolding kind_at channel_update_at
update_laid raw is kind long =
    let at : message_at raw ≡ Ok (messages.ChannelUpdate (update_in raw)) = typed raw is.two is.short ∙ rw (kind, le-leb _ _ long) refl in
    (record { long = long; spelled = message_takes raw (messages.ChannelUpdate (update_in raw)) is.fits at }, at)

pub node_laid : (raw : List ℕ) → IsShort raw → number_in w16 0 raw ≡ 257 → node_len raw ≤ length raw → IsLaidOut layouts.Node raw
unfolding kind_at node_announce_at
node_laid raw is kind long =
    let at : message_at raw ≡ Ok (messages.NodeAnnounce (node_in raw)) = typed raw is.two is.short ∙ rw (kind, le-leb _ _ long) refl in
    (record { long = long; spelled = message_takes raw (messages.NodeAnnounce (node_in raw)) is.fits at }, at)

-- ---- other bytes

pub few : (raw : List ℕ) → length raw < 2 → AnnouncesNothing (message_at raw)
unfolding message_at
few [] lt = tt
few (high ∷ []) lt = tt
few (high ∷ low ∷ body) lt = absurd (omega arith)

pub many : (raw : List ℕ) → 65535 < length raw → AnnouncesNothing (message_at raw)
unfolding message_at
many raw lt = rw (lt-ltb _ _ lt) tt

-- the type of an encoding, and the fields after it
type_is : {F : Field} (kind : ℕ) (raw : List ℕ) → from_be_bytes w16 (to_be_bytes w16 kind) ≡ kind → Spells kind F raw → number_in w16 0 raw ≡ kind
type_is {F} kind raw again s =
    ap (λ (b : List ℕ). number_in w16 0 b) s.whole ∙ ap (from_be_bytes w16) (take_at (to_be_bytes w16 kind) s.body 2 refl) ∙ again

fields_are : {F : Field} (kind : ℕ) (raw : List ℕ) → Spells kind F raw → F.Is (drop 2 raw)
fields_are {F} kind raw s = subst F.Is (sym (ap (drop 2) s.whole ∙ drop_at (to_be_bytes w16 kind) s.body 2 refl)) s.fields

-- bytes that encode a message encode the one at their offsets
pub announce_is : (m : Announce) (raw : List ℕ) → Wire (messages.Announce m) raw → IsAnnounce raw × (announce_in raw ≡ m)
announce_is m raw wire =
    let r = announces.read m raw (fields_are 256 raw wire) in
    (record { long = r.long; spelled = subst (λ (n : Announce). Wire (messages.Announce n) raw) (sym r.is) wire }, r.is)

pub update_is : (m : ChannelUpdate) (raw : List ℕ) → Wire (messages.ChannelUpdate m) raw → IsUpdate raw × (update_in raw ≡ m)
update_is m raw wire =
    let r = updates.read m raw (fields_are 258 raw wire) in
    (record { long = r.long; spelled = subst (λ (n : ChannelUpdate). Wire (messages.ChannelUpdate n) raw) (sym r.is) wire }, r.is)

pub node_is : (m : NodeAnnounce) (raw : List ℕ) → Wire (messages.NodeAnnounce m) raw → IsNodeAnnounce raw × (node_in raw ≡ m)
node_is m raw wire =
    let r = nodes.read m raw (fields_are 257 raw wire) in
    (record { long = r.long; spelled = subst (λ (n : NodeAnnounce). Wire (messages.NodeAnnounce n) raw) (sym r.is) wire }, r.is)

-- what is of none of the three types and long enough announces nothing
pub nothing : (raw : List ℕ) → IsBytes raw → (number_in w16 0 raw ≡ 256 → announce_len raw ≤ length raw → ⊥)
    → (number_in w16 0 raw ≡ 258 → 138 ≤ length raw → ⊥) → (number_in w16 0 raw ≡ 257 → node_len raw ≤ length raw → ⊥)
    → AnnouncesNothing (message_at raw)
nothing raw fits no_announce no_update no_node = by (message_at raw) refl
  where
    by : (read : Result Message DecodeFault) → message_at raw ≡ read → AnnouncesNothing read
    by (Ok (messages.Announce m)) at =
        let wire = message_takes raw (messages.Announce m) fits at in
        no_announce (type_is 256 raw refl wire) (announce_is m raw wire).0.long
    by (Ok (messages.ChannelUpdate m)) at =
        let wire = message_takes raw (messages.ChannelUpdate m) fits at in
        no_update (type_is 258 raw refl wire) (update_is m raw wire).0.long
    by (Ok (messages.NodeAnnounce m)) at =
        let wire = message_takes raw (messages.NodeAnnounce m) fits at in
        no_node (type_is 257 raw refl wire) (node_is m raw wire).0.long
    by (Ok (messages.IdsQuery m)) at = tt
    by (Ok (messages.IdsEnd m)) at = tt
    by (Ok (messages.RangeQuery m)) at = tt
    by (Ok (messages.RangeReply m)) at = tt
    by (Ok (messages.FilterMsg m)) at = tt
    by (Err fault) at = tt
