use Rattle.std.proofs.Common.{◌∙◌, ◌+◌, Some, sym, ap}
use Rattle.std.specs.List.{position}
use Rattle.lgm_store.specs.Rows.{is_point}
use Rattle.lgm_graph.proofs.Further.{position_left, position_right, position_neither}
use Rattle.lgm_graph.proofs.overlay_view.points.Points.number.Goals as goal

pub returns-in-Some : goal.returns-in-Some
returns-in-Some c =
    sym (ap (position (is_point c.args.point.now)) (sym c.self.view_is) ∙ position_left c.self.inside.view.now.points c.self.inside.added.value.keys c.args.point.now
    c.in-Some.number (sym c.node_number.ensures ∙ c.in-Some.is))

pub returns-in_err-place : goal.returns-in_err-place
returns-in_err-place c =
    c.from_residual.ensures ∙ sym (ap (position (is_point c.args.point.now)) (sym c.self.view_is) ∙ position_neither c.self.inside.view.now.points
    c.self.inside.added.value.keys c.args.point.now (sym c.node_number.ensures ∙ c.in_default.is)
    (ap (λ set. position (is_point c.args.point.now) set.keys) (sym c.deref.ensures) ∙ sym c.get_index_of.ensures.index ∙ c.in_err-place.was))

pub returns : goal.returns
returns c =
    ap (λ n. Some (n + c.in_ok-place.place)) c.nodes.ensures.count ∙ sym (ap (position (is_point c.args.point.now)) (sym c.self.view_is)
    ∙ position_right c.self.inside.view.now.points c.self.inside.added.value.keys c.args.point.now c.in_ok-place.place
    (sym c.node_number.ensures ∙ c.in_default.is) (ap (λ set. position (is_point c.args.point.now) set.keys) (sym c.deref.ensures) ∙ sym c.get_index_of.ensures.index ∙ c.in_ok-place.was))
