-- What the row of a message has in addition to its bytes, and the row of both.
use Rattle.std.specs.Prelude.{ℕ, List}
use Rattle.lgm_check.specs.declared.row.Checked.{Checked}
use Rattle.lgm_check.specs.declared.row.Checked.TheVariants as rows
use Rattle.lgm_check.specs.declared.row.CheckedKind.{CheckedKind}
use Rattle.lgm_check.specs.declared.row.CheckedKind.TheVariants as kinds
use Rattle.lgm_gossip.specs.Layout.{IsAnnounce, IsUpdate, IsNodeAnnounce}
use Rattle.lgm_check.specs.Row.{channel_row, update_row, node_row}

-- the row
abbrev pub row_of : CheckedKind → List ℕ → Checked
row_of (kinds.Channel sat) bytes = rows.Channel (channel_row sat bytes)
row_of (kinds.Update signer) bytes = rows.Update (update_row bytes) signer
row_of kinds.Node bytes = rows.Node (node_row bytes)

-- the bytes encode a message of its type
abbrev pub Fits : CheckedKind → List ℕ → Type 0
Fits (kinds.Channel sat) bytes = IsAnnounce bytes
Fits (kinds.Update signer) bytes = IsUpdate bytes
Fits kinds.Node bytes = IsNodeAnnounce bytes
