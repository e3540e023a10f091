use Rattle.std.proofs.Common.{rules}
use Rattle.lgm_save.proofs.PushLaws.{update_pushed}
use Rattle.lgm_save.proofs.records.push_update.Goals as goal

pub returns-in_ok-push : goal.returns-in_ok-push
returns-in_ok-push c = update_pushed c.args.row c.in-Some.row c.args.records.now.items c.push.new.self.items c.in-Some.is (search rules)
