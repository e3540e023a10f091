use Rattle.lgm_query.proofs.Sendings.{OnOk-channel}
use Rattle.lgm_query.proofs.reply_builder.ReplyBuilder.send_channel.Goals as goal

pub returns : goal.returns
returns c =
    rw c.if-not-wanted.false
    (OnOk-channel c.push.result c.args.stored.now.channel c.raw.result.now c.args.self.now c.push.new.self
    c.raw.ensures c.push.ensures.messages c.push.ensures.nodes)
