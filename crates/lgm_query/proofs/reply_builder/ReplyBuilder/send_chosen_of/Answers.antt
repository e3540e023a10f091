use Rattle.lgm_query.proofs.Sendings.{Sends-chosen}
use Rattle.lgm_query.proofs.reply_builder.ReplyBuilder.send_chosen_of.Goals as goal

pub returns : goal.returns
returns c =
    Sends-chosen c.args.map.now.nodes c.args.flags c.args.stored.now c.args.self.now c.send_channel.new.self
    c.send_update.new.self c.send_update-2.new.self c.send_node.new.self c.send_node-2.new.self
    (rw c.is_set.ensures at c.in_ok-send_channel.ensures)
    (rw c.is_set-2.ensures at c.in_ok-send_update.ensures)
    (rw c.is_set-3.ensures at c.in_ok-send_update-2.ensures)
    (rw (c.is_set-4.ensures, c.node.ensures) at c.in_ok-send_node.ensures)
    (rw (c.is_set-5.ensures, c.node-2.ensures) at c.in_ok-send_node-2.ensures)
