-- The operation of a message, from what is decided of it.
use Rattle.std.specs.Prelude.{Option, Some, None, Result, Ok, Err}
use Rattle.lgm_check.specs.declared.row.ChannelRow.{ChannelRow}
use Rattle.lgm_check.specs.declared.row.UpdateRow.{UpdateRow}
use Rattle.lgm_check.specs.declared.row.NodeRow.{NodeRow}
use Rattle.lgm_check.specs.declared.row.BanRow.{BanRow}
use Rattle.lgm_check.specs.declared.refusal.Refusal.{Refusal}
use Rattle.lgm_store.specs.declared.op.Op.{Op}
use Rattle.lgm_store.specs.declared.op.Op.TheVariants as ops

-- the operation that is decided: a ban, or else the channel is added
abbrev pub channel_op : ChannelRow → Result (Option BanRow) Refusal → Result Op Refusal
channel_op row (Ok (Some ban)) = Ok (ops.Ban ban)
channel_op row (Ok None) = Ok (ops.Channel row)
channel_op row (Err refusal) = Err refusal

-- the same of an update
abbrev pub update_op : UpdateRow → Result (Unit {0}) Refusal → Result Op Refusal
update_op row (Ok _) = Ok (ops.Update row)
update_op row (Err refusal) = Err refusal

-- the same of a node announcement
abbrev pub node_op : NodeRow → Result (Unit {0}) Refusal → Result Op Refusal
node_op row (Ok _) = Ok (ops.Node row)
node_op row (Err refusal) = Err refusal
