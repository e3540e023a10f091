-- Rows whose bytes encode their messages.
use Rattle.std.specs.Prelude.{List}
use Rattle.std.specs.List.{AllByRecursion}
use Rattle.lgm_gossip.specs.Message.{Wire}
use Rattle.lgm_gossip.specs.declared.message.Message.TheVariants as wired
use Rattle.lgm_check.specs.declared.row.ChannelRow.{ChannelRow}
use Rattle.lgm_check.specs.declared.row.UpdateRow.{UpdateRow}
use Rattle.lgm_check.specs.declared.row.NodeRow.{NodeRow}
use Rattle.lgm_check.specs.declared.row.Checked.{Checked}
use Rattle.lgm_check.specs.declared.row.Checked.TheVariants as messages
use Rattle.lgm_store.specs.Rows.{Rows}

-- the bytes of the row encode its message
abbrev pub IsSpelled : Checked → Type 0
IsSpelled (messages.Channel row) = Wire (wired.Announce row.message) row.raw
IsSpelled (messages.Update row signer) = Wire (wired.ChannelUpdate row.message) row.raw
IsSpelled (messages.Node row) = Wire (wired.NodeAnnounce row.message) row.raw

-- the same of each row
pub record AllSpelled (some : List ChannelRow) (others : List UpdateRow) (last : List NodeRow) : Type 0 where
  pub channels : AllByRecursion (λ row. Wire (wired.Announce row.message) row.raw) some
  pub updates : AllByRecursion (λ row. Wire (wired.ChannelUpdate row.message) row.raw) others
  pub nodes : AllByRecursion (λ row. Wire (wired.NodeAnnounce row.message) row.raw) last

abbrev pub AreSpelled : Rows → Type 0
AreSpelled rows = AllSpelled rows.channels rows.updates rows.nodes
