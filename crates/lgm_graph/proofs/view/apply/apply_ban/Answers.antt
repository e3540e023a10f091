use Rattle.std.proofs.Common.{rules, ◌≡◌, ◌∙◌, ap, take}
use Rattle.std.proofs.lemmas.List.{take_all}
use Rattle.lgm_wire.specs.declared.point.Point.{Point}
use Rattle.lgm_store.specs.History.{absorbed, with_banned}
use Rattle.lgm_graph.specs.Edges.{takes_payments, carrying}
use Rattle.lgm_graph.specs.Graph.{GraphNode, no_point, node_with}
use Rattle.lgm_graph.specs.inner.Sound.{is_allowed, looked_at, nodes_in}
use Rattle.lgm_graph.proofs.ChangeLaws.{looked_twice}
use Rattle.lgm_graph.proofs.BanLaws.{changed_among, next_at, node_banned}
use Rattle.lgm_graph.proofs.view.apply.apply_ban.Goals as goal

pub loop-node-preserved : goal.loop-node-preserved
loop-node-preserved c =
    let items = c.as_slice-node-items.result.now in
    let i = c.loop-node.node-index in
    let keys = c.args.nodes.now.points.keys in
    let same = c.loop-node.invariant.points in
    let change : Point → GraphNode → GraphNode = looked_at c.args.known.now c.absorb.new.self.nodes (is_allowed keys c.absorb.new.self.banned) in
    record {
      points = c.ban_at.ensures.points ∙ same;
      long = c.ban_at.ensures.long ∙ c.loop-node.invariant.long;
      nodes =
          λ before nodes. next_at change (looked_twice c.args.known.now c.absorb.new.self.nodes (is_allowed keys c.absorb.new.self.banned))
          before items i no_point c.loop-node-test.true c.ban_at.new.self.points.keys (nodes_in c.ban_at.new.self)
          (rw same at (c.ban_at.ensures.nodes (changed_among change (take i items) before) (c.loop-node.invariant.nodes before nodes)));
    }

pub returns : goal.returns
returns c = record {
  map = search rules;
  beside =
      let after = c.in_ok-absorb.ensures.ok ∙ ap (absorbed c.args.map.now) c.requires.op in
      let items = c.as_slice-node-items.result.now in
      let whole : take c.loop-node.node-index items ≡ c.in_ok-affected_nodes.affected_nodes.keys =
      take_all c.loop-node.node-index items c.loop-node-test.false ∙ c.as_slice-node-items.ensures.keys in
      node_banned c.args.known.now c.args.map.now (with_banned c.args.map.now.banned c.args.ban.now)
      c.rows_are_lawful.ensures c.in_ok-affected_nodes.affected_nodes.keys c.in_ok-affected_nodes.ensures c.absorb.new.self after
      c.args.nodes.now c.loop-node.nodes c.requires.beside c.loop-node.invariant.points
      (rw whole at (c.loop-node.invariant.nodes
      (node_with (takes_payments c.args.known.now c.args.map.now.nodes) c.args.nodes.now.points.keys (carrying c.args.map.now))
      c.requires.beside.shows.nodes_are));
  few = search rules;
}
