use Rattle.std.proofs.Common.{sym}
use Rattle.std.proofs.lemmas.Result.{on_ok_weaker, on_err_weaker}
use Rattle.lgm_store.specs.inner.ChannelsByNode.{with_id}
use Rattle.lgm_store.proofs.NodeIdListLaws.{Lists-change_same, Lists-change, Lists-undo}
use Rattle.lgm_store.proofs.channels_by_node.ChannelsByNode.add.Goals as goal

pub returns-then-eq-clause-ok : goal.returns-then-eq-clause-ok
returns-then-eq-clause-ok c ids lists =
    Lists-change_same (λ list. with_id list c.args.scid) c.args.self.now c.add_one.new.self c.args.first
    c.args.second ids (sym c.if-eq.ensures) c.in_ok-add_one.ensures.ok lists

pub returns-then-is_err-clause-err : goal.returns-then-is_err-clause-err
returns-then-is_err-clause-err c =
    on_err_weaker c.add_one-added.result
    (λ same ids lists lacks. Lists-undo c.args.scid c.args.self.now c.add_one.new.self
    c.add_one-added.new.self c.remove_one.new.self c.args.first ids c.in_ok-add_one.ensures.ok same
    c.remove_one.ensures.sets lacks lists)
    c.add_one-added.ensures.err

pub returns-else-is_err-clause-ok : goal.returns-else-is_err-clause-ok
returns-else-is_err-clause-ok c =
    on_ok_weaker c.add_one-added.result
    (λ sets ids lists. Lists-change (λ list. with_id list c.args.scid) c.args.self.now c.add_one.new.self
    c.add_one-added.new.self c.args.first c.args.second ids (sym c.if-eq.ensures)
    c.in_ok-add_one.ensures.ok sets lists)
    c.add_one-added.ensures.ok
