use Rattle.std.proofs.Common.{◌≤◌, ◌<◌, ◌∙◌, true, false, length, arith, sym, ap}
use Rattle.std.proofs.lemmas.Bool.{le-leb}
use Rattle.std.proofs.lemmas.List.{get_or_past, get_or_default}
use Rattle.lgm_graph.specs.Graph.{Graph, GraphNode, bare_node, takes_at}
use Rattle.lgm_graph.proofs.ByNumber.{get_by}
use Rattle.lgm_graph.proofs.overlay_view.OverlayView.takes_payments.Goals as goal

pub returns-then-nodes-number : goal.returns-then-nodes-number
returns-then-nodes-number c =
    let over = c.self.inside in
    let nodes = over.view.now.nodes in
    let n = c.args.number in
    let within : n < length over.points = omega (arith, c.if-number-len.true, c.len.ensures.count) in
    let past : length nodes ≤ n = omega (arith, c.if-nodes-number.true, c.nodes.ensures.count, c.nodes.ensures.listed.long) in
    le-leb c.nodes.result n c.if-nodes-number.true
    ∙ sym (ap (λ (node : GraphNode). node.accepts_payments) (get_or_past nodes n (bare_node true) past))
    ∙ sym (ap (λ (node : GraphNode). node.accepts_payments) (get_by _ over.points n (bare_node false) within))
    ∙ ap (λ (g : Graph). takes_at g n) c.self.view_is

pub returns-else-nodes-number : goal.returns-else-nodes-number
returns-else-nodes-number c =
    let over = c.self.inside in
    let nodes = over.view.now.nodes in
    let n = c.args.number in
    let within : n < length over.points = omega (arith, c.if-number-len.true, c.len.ensures.count) in
    let there : n < length nodes = omega (arith, c.if-nodes-number.false, c.nodes.ensures.count, c.nodes.ensures.listed.long) in
    c.takes_payments.ensures
    ∙ ap (λ (node : GraphNode). node.accepts_payments) (get_or_default nodes n (bare_node false) (bare_node true) there)
    ∙ sym (ap (λ (node : GraphNode). node.accepts_payments) (get_by _ over.points n (bare_node false) within))
    ∙ ap (λ (g : Graph). takes_at g n) c.self.view_is
