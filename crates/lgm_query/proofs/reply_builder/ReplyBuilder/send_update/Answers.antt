use Rattle.lgm_store.specs.ChannelInfo.{update_in}
use Rattle.lgm_query.proofs.Sendings.{OnOk-update}
use Rattle.lgm_query.proofs.reply_builder.ReplyBuilder.send_update.Goals as goal

pub returns-in-Some : goal.returns-in-Some
returns-in-Some c =
    rw c.if-not-wanted.false
    (OnOk-update c.push.result c.in-Some.raw.now (update_in c.args.second c.args.stored.now) c.args.self.now
    c.push.new.self c.in-Some.ensures c.push.ensures.messages c.push.ensures.nodes)
