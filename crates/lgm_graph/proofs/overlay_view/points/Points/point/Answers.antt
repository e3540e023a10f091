use Rattle.std.proofs.Common.{◌<◌, ◌≤◌, ◌∙◌, ◌-◌, List, length, arith, sym, ap}
use Rattle.std.specs.List.{slice_get}
use Rattle.lgm_wire.specs.declared.point.Point.{Point}
use Rattle.lgm_graph.proofs.Further.{slice_left, slice_right}
use Rattle.lgm_graph.proofs.overlay_view.points.Points.point.Goals as goal

pub returns-then-number-nodes : goal.returns-then-number-nodes
returns-then-number-nodes c =
    let points = c.self.inside.view.now.points in
    let lt : c.args.number < length points = omega (arith, c.if-number-nodes.true, c.nodes-nodes.ensures.count) in
    c.point.ensures ∙ sym (slice_left points c.self.inside.added.value.keys c.args.number lt)
    ∙ ap (λ (ps : List Point). slice_get ps c.args.number) c.self.view_is

pub returns : goal.returns
returns c =
    let points = c.self.inside.view.now.points in
    let added = c.self.inside.added.value.keys in
    let le : length points ≤ c.args.number = omega (arith, c.if-number-nodes.false, c.nodes-nodes.ensures.count) in
    c.get_index.ensures.key ∙ ap (λ set. slice_get set.keys (c.args.number - c.nodes-nodes.result)) c.deref.ensures
    ∙ ap (λ n. slice_get added (c.args.number - n)) c.nodes-nodes.ensures.count
    ∙ sym (slice_right points added c.args.number le) ∙ ap (λ (ps : List Point). slice_get ps c.args.number) c.self.view_is
