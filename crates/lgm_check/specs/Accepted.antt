-- What an accepted message is, one record per type: this is what `precheck` promises.
use Rattle.std.specs.Prelude.{◌≡◌, ℕ, ◌/◌, ◌%◌, ◌≤◌, List, true, IsTrue}
use Rattle.lgm_gossip.specs.declared.message.Message.TheVariants as messages
use Rattle.lgm_wire.specs.declared.chain_hash.ChainHash.{ChainHash}
use Rattle.lgm_wire.specs.declared.point.Point.{Point}
use Rattle.lgm_wire.specs.Point.{is_lawful}
use Rattle.lgm_gossip.specs.Message.{Wire}
use Rattle.lgm_check.specs.declared.evidence.Evidence.{Evidence}
use Rattle.lgm_check.specs.declared.evidence.Sig.TheVariants as sigs
use Rattle.lgm_check.specs.declared.evidence.Funding.TheVariants as fundings
use Rattle.lgm_check.specs.declared.row.ChannelRow.{ChannelRow}
use Rattle.lgm_check.specs.declared.row.UpdateRow.{UpdateRow}
use Rattle.lgm_check.specs.declared.row.NodeRow.{NodeRow}
use Rattle.lgm_check.specs.declared.row.Checked.{Checked}
use Rattle.lgm_check.specs.declared.row.Checked.TheVariants as checked
use Rattle.lgm_check.specs.Precheck.{has_lawful_points, are_in_order}

-- a channel_announcement: nodes in order, of this chain, an unspent output that has no more satoshi than exist, and
-- four valid signatures
pub record IsChannel (ours : ChainHash) (bytes : List ℕ) (evidence : Evidence)
    (row : ChannelRow) : Type 0 where
  pub spelled : Wire (messages.Announce row.message) bytes
  pub chain : row.message.chain_hash ≡ ours
  pub points : IsTrue (has_lawful_points row.message)
  pub order : IsTrue (are_in_order row.message)
  pub funding : evidence.funding ≡ fundings.Unspent row.sat
  pub limit : row.sat ≤ 2100000000000000
  pub signature : evidence.sig ≡ sigs.AllFour true
  pub raw : row.raw ≡ bytes

-- a channel_update: of this chain, may be forwarded (bit 1 of its message flags is 0), with a valid signature of some
-- node
pub record IsUpdate (ours : ChainHash) (bytes : List ℕ) (evidence : Evidence) (row : UpdateRow)
    (signer : Point) : Type 0 where
  pub spelled : Wire (messages.ChannelUpdate row.message) bytes
  pub chain : row.message.chain_hash ≡ ours
  pub public : row.message.message_flags / 2 % 2 ≡ 0
  pub signature : evidence.sig ≡ sigs.By signer
  pub raw : row.raw ≡ bytes

-- a node_announcement: a well-formed point, with a valid signature of that node
pub record IsNode (bytes : List ℕ) (evidence : Evidence) (row : NodeRow) : Type 0 where
  pub spelled : Wire (messages.NodeAnnounce row.message) bytes
  pub point : IsTrue (is_lawful row.message.node_id)
  pub signature : evidence.sig ≡ sigs.By row.message.node_id
  pub raw : row.raw ≡ bytes

-- bytes and evidence are accepted as this row
abbrev pub IsAccepted : ChainHash → List ℕ → Evidence → Checked → Type 0
IsAccepted ours bytes evidence (checked.Channel row) = IsChannel ours bytes evidence row
IsAccepted ours bytes evidence (checked.Update row signer) = IsUpdate ours bytes evidence row signer
IsAccepted ours bytes evidence (checked.Node row) = IsNode bytes evidence row
