-- The records of a saved map: their bytes, and the operations that they stand for.
use Rattle.std.specs.Prelude.{◌≡◌, ℕ, ◌<◌, ◌^◌, List, ◌∷◌, ◌++◌, length, map}
use Rattle.lgm_wire.specs.declared.point.Point.{Point}
use Rattle.lgm_gossip.specs.Layout.{IsAnnounce, IsUpdate, IsNodeAnnounce}
use Rattle.lgm_check.specs.Row.{channel_row, update_row, node_row}
use Rattle.lgm_check.specs.declared.row.ChannelRow.{ChannelRow}
use Rattle.lgm_check.specs.declared.row.UpdateRow.{UpdateRow}
use Rattle.lgm_check.specs.declared.row.NodeRow.{NodeRow}
use Rattle.lgm_check.specs.declared.row.BanRow.{BanRow}
use Rattle.lgm_store.specs.declared.op.Op.{Op}
use Rattle.lgm_store.specs.declared.op.Op.TheVariants as ops
use Rattle.lgm_store.specs.Rows.{Rows}
use Rattle.lgm_save.specs.Numbers.{in_two, in_eight}
use Rattle.lgm_save.specs.declared.record.Record.{Record}
use Rattle.lgm_save.specs.declared.record.Record.TheVariants as records

-- a message after its length, which has two bytes
abbrev pub framed : List ℕ → List ℕ
framed message = in_two (length message) ++ message

-- a record: its kind, and what it has
abbrev pub bytes_of : Record → List ℕ
bytes_of (records.Ban point) = 1 ∷ point.0
bytes_of (records.Channel sat message) = 2 ∷ (in_eight sat ++ framed message)
bytes_of (records.Update message) = 3 ∷ framed message
bytes_of (records.Node message) = 4 ∷ framed message

-- a capacity of 64 bits, and bytes that encode a message of its kind
abbrev pub IsRecord : Record → Type 0
IsRecord (records.Ban point) = length point.0 ≡ 33
IsRecord (records.Channel sat message) = (sat < 2 ^ 64) × IsAnnounce message
IsRecord (records.Update message) = IsUpdate message
IsRecord (records.Node message) = IsNodeAnnounce message

-- the ban of one node
abbrev pub ban_of : Point → BanRow
ban_of point = record { held1 = point; held2 = point; new1 = point; new2 = point }

-- the operation that a record stands for
abbrev pub op_of : Record → Op
op_of (records.Ban point) = ops.Ban (ban_of point)
op_of (records.Channel sat message) = ops.Channel (channel_row sat message)
op_of (records.Update message) = ops.Update (update_row message)
op_of (records.Node message) = ops.Node (node_row message)

-- the records of rows
abbrev pub ban_record : Point → Record
ban_record point = records.Ban point

abbrev pub channel_record : ChannelRow → Record
channel_record row = records.Channel row.sat row.raw

abbrev pub update_record : UpdateRow → Record
update_record row = records.Update row.raw

abbrev pub node_record : NodeRow → Record
node_record row = records.Node row.raw

-- the records of a map: its bans, its channels, their updates, and its nodes
abbrev pub ban_records : Rows → List Record
ban_records rows = map ban_record rows.banned

abbrev pub channel_records : Rows → List Record
channel_records rows = map channel_record rows.channels

abbrev pub update_records : Rows → List Record
update_records rows = map update_record rows.updates

abbrev pub node_records : Rows → List Record
node_records rows = map node_record rows.nodes

abbrev pub records_of : Rows → List Record
records_of rows = ((ban_records rows ++ channel_records rows) ++ update_records rows) ++ node_records rows
