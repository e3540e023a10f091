use Rattle.std.proofs.Common.{◌∙◌, ◌<◌, sym, refl, false, arith, length}
use Rattle.lgm_graph.specs.Graph.{bare_node}
use Rattle.lgm_graph.specs.inner.Sound.{is_allowed, looked_at}
use Rattle.lgm_graph.proofs.Numbers.{number_some}
use Rattle.lgm_graph.proofs.NewNumberLaws.{position_none}
use Rattle.lgm_graph.proofs.ChangeLaws.{map_change, map_absent}
use Rattle.lgm_graph.proofs.Places.{node_edit}
use Rattle.lgm_graph.proofs.nodes.Nodes.ban_at.Goals as goal

pub returns-in-Some-clause-nodes : goal.returns-in-Some-clause-nodes
returns-in-Some-clause-nodes c = λ before nodes.
    let place = number_some c.args.self.now.points.keys c.args.node.now c.in-Some.number (sym c.get_index_of.ensures.index ∙ c.in-Some.is) in
    let there = rw (← place.0) at place.1 in
    let within : c.in-Some.number < length c.args.self.now.nodes.items = omega (arith, place.1, c.requires) in
    let change = looked_at c.args.known.now c.args.map.now.nodes (is_allowed c.args.self.now.points.keys c.args.map.now.banned) in
    node_edit c.args.self.now.nodes.items c.in-Some.number c.index_mut.result.now c.ban.new.self within
    c.index_mut.ensures.value (change c.args.node.now) (c.ban.ensures ∙ rw c.takes_payments.ensures refl)
    ∙ rw (nodes, ← place.0) (map_change before change c.args.self.now.points.keys c.args.node.now (bare_node false) c.len.ensures.unique there)

pub returns-in_default-clause-nodes : goal.returns-in_default-clause-nodes
returns-in_default-clause-nodes c = λ before nodes.
    nodes ∙ map_absent before (looked_at c.args.known.now c.args.map.now.nodes (is_allowed c.args.self.now.points.keys c.args.map.now.banned))
    c.args.self.now.points.keys c.args.node.now
    (position_none c.args.self.now.points.keys c.args.node.now (sym c.get_index_of.ensures.index ∙ c.in_default.is))
