-- Validation of a message without a map: the row, or the first refusal.
use Rattle.std.specs.Prelude.{ℕ, ◌/◌, ◌%◌, ◌==◌, List, Bool, false, not, ◌&&◌}
use Rattle.std.specs.Prelude.{nat_eq, nat_le, Result, Ok, Err, if◌then◌else◌}
use Rattle.std.specs.Cmp.Lexicographic.{pointwise, slice_cmp}
use Rattle.std.specs.Ordering.{is_lt, nat_cmp}
use Rattle.lgm_wire.specs.reading.Reading.{◌>>=◌}
use Rattle.lgm_gossip.specs.declared.fault.DecodeFault.{DecodeFault}
use Rattle.lgm_gossip.specs.declared.message.Message.{Message}
use Rattle.lgm_gossip.specs.declared.message.Message.TheVariants as messages
use Rattle.lgm_gossip.specs.declared.announce.Announce.{Announce}
use Rattle.lgm_gossip.specs.declared.channel_update.ChannelUpdate.{ChannelUpdate}
use Rattle.lgm_gossip.specs.declared.node_announce.NodeAnnounce.{NodeAnnounce}
use Rattle.lgm_wire.specs.declared.point.Point.{Point}
use Rattle.lgm_wire.specs.declared.chain_hash.ChainHash.{ChainHash}
use Rattle.lgm_wire.specs.Point.{is_lawful}
use Rattle.lgm_gossip.specs.reading.MessageReading.{message_at}
use Rattle.lgm_check.specs.declared.evidence.Evidence.{Evidence}
use Rattle.lgm_check.specs.declared.evidence.Sig.{Sig}
use Rattle.lgm_check.specs.declared.evidence.Sig.TheVariants as sigs
use Rattle.lgm_check.specs.declared.evidence.Funding.{Funding}
use Rattle.lgm_check.specs.declared.evidence.Funding.TheVariants as fundings
use Rattle.lgm_check.specs.declared.row.Checked.{Checked}
use Rattle.lgm_check.specs.declared.row.Checked.TheVariants as checked
use Rattle.lgm_check.specs.declared.refusal.Refusal.{Refusal}
use Rattle.lgm_check.specs.declared.refusal.Refusal.TheVariants as refusals
use Rattle.lgm_check.specs.Refusal.{refusal_of}

-- continue if the test holds, else refuse
abbrev pub require : Bool → Refusal → Result (Unit {0}) Refusal
require holds refusal = if holds then Ok tt else Err refusal

-- the node ids and bitcoin keys
abbrev pub has_lawful_points : Announce → Bool
has_lawful_points m =
    is_lawful m.node_id_1 && is_lawful m.node_id_2 && is_lawful m.bitcoin_key_1 && is_lawful m.bitcoin_key_2

-- node_id_1 is the lesser in byte order
abbrev pub are_in_order : Announce → Bool
are_in_order m = is_lt (slice_cmp nat_cmp m.node_id_1.0 m.node_id_2.0)

-- an unspent output that pays to the two keys, and has no more satoshi than exist
abbrev pub capacity_of : Funding → Result ℕ Refusal
capacity_of (fundings.Unspent sat) = if nat_le sat 2100000000000000 then Ok sat else Err refusals.Funding
capacity_of _ = Err refusals.Funding

abbrev pub is_all_four : Sig → Bool
is_all_four (sigs.AllFour right) = right
is_all_four _ = false

-- the rows of messages with these bytes
abbrev pub announced_channel : Announce → ℕ → List ℕ → Checked
announced_channel m sat bytes = checked.Channel (record { message = m; sat = sat; raw = bytes })

abbrev pub signed_update : ChannelUpdate → Point → List ℕ → Checked
signed_update m signer bytes = checked.Update (record { message = m; raw = bytes }) signer

abbrev pub announced_node : NodeAnnounce → List ℕ → Checked
announced_node m bytes = checked.Node (record { message = m; raw = bytes })

-- a channel_announcement: each line is the next refusal in the order
unfoldable pub checked_announce : ChainHash → Announce → List ℕ → Evidence → Result Checked Refusal
checked_announce chain m bytes evidence = do
  this_chain ← require (pointwise nat_eq m.chain_hash.0 chain.0) refusals.Chain
  points ← require (has_lawful_points m) refusals.Point
  node_order ← require (are_in_order m) refusals.NodeOrder
  sat ← capacity_of evidence.funding
  signed ← require (is_all_four evidence.sig) refusals.Signature
  Ok (announced_channel m sat bytes)

-- bit 1 of the message flags, dont_forward
abbrev pub is_private : ChannelUpdate → Bool
is_private m = m.message_flags / 2 % 2 == 1

-- the point that signed
abbrev pub signer_of : Sig → Result Point Refusal
signer_of (sigs.By point) = Ok point
signer_of _ = Err refusals.Signature

-- a channel_update
unfoldable pub checked_update : ChainHash → ChannelUpdate → List ℕ → Evidence → Result Checked Refusal
checked_update chain m bytes evidence = do
  this_chain ← require (pointwise nat_eq m.chain_hash.0 chain.0) refusals.Chain
  public ← require (not (is_private m)) refusals.Private
  signer ← signer_of evidence.sig
  Ok (signed_update m signer bytes)

-- a node_announcement
unfoldable pub checked_node : NodeAnnounce → List ℕ → Evidence → Result Checked Refusal
checked_node m bytes evidence = do
  point ← require (is_lawful m.node_id) refusals.Point
  signer ← signer_of evidence.sig
  signed ← require (pointwise nat_eq signer.0 m.node_id.0) refusals.Signature
  Ok (announced_node m bytes)

-- by type
abbrev pub checked_message : ChainHash → Message → List ℕ → Evidence → Result Checked Refusal
checked_message chain (messages.Announce m) bytes evidence = checked_announce chain m bytes evidence
checked_message chain (messages.ChannelUpdate m) bytes evidence = checked_update chain m bytes evidence
checked_message chain (messages.NodeAnnounce m) bytes evidence = checked_node m bytes evidence
checked_message chain _ bytes evidence = Err refusals.NotGossip

-- bytes that aren't a message are refused for their first fault
abbrev pub checked_read : ChainHash → Result Message DecodeFault → List ℕ → Evidence → Result Checked Refusal
checked_read chain (Ok m) bytes evidence = checked_message chain m bytes evidence
checked_read chain (Err fault) bytes evidence = Err (refusal_of fault)

unfoldable pub checked_of : ChainHash → List ℕ → Evidence → Result Checked Refusal
checked_of chain bytes evidence = checked_read chain (message_at bytes) bytes evidence
