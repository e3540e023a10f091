use Rattle.std.proofs.Common.{◌∙◌, sym}
use Rattle.lgm_graph.proofs.OverrideLaws.{applied_at, unheard}
use Rattle.lgm_graph.proofs.overlay_view.touched_nodes.TouchedNodes.apply_at.Goals as goal

pub returns-in_ok-apply-clause-applied : goal.returns-in_ok-apply-clause-applied
returns-in_ok-apply-clause-applied c =
    applied_at c.args.points.now c.len.ensures.distinct c.args.point.now c.args.change c.args.self.now c.apply.new.self c.in-Some.number
    (sym c.number.ensures ∙ c.in-Some.is) c.in_ok-apply.ensures.own c.in_ok-apply.ensures.others

pub returns-in_default-clause-applied : goal.returns-in_default-clause-applied
returns-in_default-clause-applied c =
    unheard c.args.points.now c.len.ensures.distinct c.args.point.now c.args.change c.args.self.now c.args.self.now
    (sym c.number.ensures ∙ c.in_default.is)
