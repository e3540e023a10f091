use Rattle.std.proofs.Common.{rules, ◌∙◌, ap}
use Rattle.lgm_store.specs.History.{absorbed}
use Rattle.lgm_graph.specs.Edges.{carrying, takes_payments}
use Rattle.lgm_graph.proofs.AnnouncedNodeLaws.{noded}
use Rattle.lgm_graph.proofs.PushedEdgeLaws.{nodes_long}
use Rattle.lgm_graph.proofs.view.apply.apply_node.Goals as goal

pub refresh_features-requires : goal.refresh_features-requires
refresh_features-requires c = nodes_long (takes_payments c.args.known.now c.args.map.now.nodes) (carrying c.args.map.now) c.args.nodes.now c.requires.beside.shows

pub returns : goal.returns
returns c = record {
  map = search rules;
  beside =
      let after = c.in_ok-absorb.ensures.ok ∙ ap (absorbed c.args.map.now) c.requires.op in
      noded c.args.known.now c.args.map.now c.args.row.now c.absorb.new.self c.node.result c.args.nodes.now
      c.refresh_features.new.self after c.node.ensures c.requires.beside
      c.refresh_features.ensures.points (c.refresh_features.ensures.nodes _ c.requires.beside.shows.nodes_are);
  few = search rules;
}
