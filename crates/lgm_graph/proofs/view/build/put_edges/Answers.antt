use Rattle.std.proofs.Common.{◌≡◌, ◌∙◌, [], ap, subst, arith, length, List, ◌∷◌, ◌++◌}
use Rattle.lgm_graph.specs.declared.edge.Edge.{Edge}
use Rattle.std.proofs.lemmas.List.{length-map, take_all}
use Rattle.lgm_graph.specs.Graph.{numbered_in}
use Rattle.lgm_graph.specs.inner.Sound.{nodes_in, ShowsIn}
use Rattle.lgm_graph.proofs.PushedEdgeLaws.{same_points, same_nodes, same_shows, seen_long}
use Rattle.lgm_graph.proofs.ChangeLaws.{changed_long}
use Rattle.lgm_graph.proofs.WrittenEdgeLaws.{edge_within, edge_put}
use Rattle.lgm_graph.proofs.view.build.put_edges.Goals as goal

pub loop-edge-init : goal.loop-edge-init
loop-edge-init c =
    let same = c.reserve_for.ensures.same in
    let points = same_points c.args.nodes.now c.reserve_for.new.self same in
    let nodes = ap length (same_nodes c.args.nodes.now c.reserve_for.new.self same) in
    record {
      points = points;
      long = omega (arith, c.requires.long, nodes, ap length points, seen_long c.args.nodes.now, seen_long c.reserve_for.new.self);
      shows = λ accepts bare point_edges are. same_shows c.args.nodes.now c.reserve_for.new.self same accepts [] bare;
    }

pub reserve_edges-requires : goal.reserve_edges-requires
reserve_edges-requires c =
    let inv = c.loop-edge.invariant in
    let ends =
    edge_within c.args.nodes.now.points.keys c.args.edges.now c.loop-edge.edge-index c.edge-item.result c.loop-edge-test.true c.edge-item.is
    c.requires.edges.0 c.requires.edges.1 in
    let points = ap length inv.points in
    record { from = omega (arith, ends.0, inv.long, points); to = omega (arith, ends.1, inv.long, points) }

pub push_edge-requires : goal.push_edge-requires
push_edge-requires c =
    let inv = c.loop-edge.invariant in
    let ends =
    edge_within c.args.nodes.now.points.keys c.args.edges.now c.loop-edge.edge-index c.edge-item.result c.loop-edge-test.true c.edge-item.is
    c.requires.edges.0 c.requires.edges.1 in
    let points = ap length inv.points in
    record {
      from = omega (arith, ends.0, inv.long, points, c.reserve_edges.ensures.long);
      to = omega (arith, ends.1, inv.long, points, c.reserve_edges.ensures.long);
      into = c.in_ok-reserve_edges.ensures.into;
      leaving = c.in_ok-reserve_edges.ensures.leaving;
    }

pub loop-edge-preserved : goal.loop-edge-preserved
loop-edge-preserved c =
    let inv = c.loop-edge.invariant in
    let same = c.reserve_edges.ensures.same in
    let next = c.edge-item.result in
    let points = c.push_edge.ensures.points ∙ same_points c.loop-edge.nodes c.reserve_edges.new.self same in
    let change : List Edge → List Edge = λ edges. edges ++ next ∷ [] in
    let nodes = ap length c.push_edge.ensures.nodes ∙ changed_long next.from next.to change (nodes_in c.reserve_edges.new.self) in
    record {
      points = points ∙ inv.points;
      long = omega (
        arith,
        inv.long,
        nodes,
        ap length points,
        c.reserve_edges.ensures.long,
        seen_long c.push_edge.new.self,
        seen_long c.reserve_edges.new.self,
      );
      shows = λ accepts bare point_edges are.
          edge_put c.args.nodes.now.points.keys c.args.edges.now c.loop-edge.edge-index next c.loop-edge-test.true c.edge-item.is
          accepts point_edges c.loop-edge.nodes c.reserve_edges.new.self c.push_edge.new.self are inv.points c.len.ensures.unique same
          c.push_edge.ensures.points c.push_edge.ensures.nodes (inv.shows accepts bare point_edges are);
    }

pub returns-clause-shows : goal.returns-clause-shows
returns-clause-shows c = λ accepts bare point_edges are.
    let long : length c.args.edges.now ≡ length point_edges = ap length are.edges_are ∙ length-map point_edges (numbered_in c.args.nodes.now.points.keys) in
    subst (λ es. ShowsIn accepts es c.loop-edge.nodes)
    (take_all c.loop-edge.edge-index point_edges (omega (arith, long, c.loop-edge-test.false)))
    (c.loop-edge.invariant.shows accepts bare point_edges are)
