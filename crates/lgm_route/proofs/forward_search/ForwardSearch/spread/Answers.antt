use Rattle.std.proofs.Common.{◌≡◌, ◌∙◌, subst, arith}
use Rattle.std.proofs.lemmas.List.{get_or_default}
use Rattle.lgm_route.specs.inner.Searching.{edge_at, no_edge}
use Rattle.lgm_route.specs.inner.Bounding.{IsLooked}
use Rattle.lgm_route.proofs.ForwardStates.{same_pass-trans, near_next, near_all}
use Rattle.lgm_route.proofs.forward_search.ForwardSearch.spread.Goals as goal

pub loop-edge-preserved : goal.loop-edge-preserved
loop-edge-preserved g c =
    let before = c.loop-edge.self in
    let after = c.look.new.self in
    let run = c.edges_leaving-edge-items.result.now in
    let place = c.loop-edge.edge-index in
    let same : c.edge-item.result ≡ edge_at run place = c.edge-item.is ∙ get_or_default run place c.edge-item.result no_edge c.loop-edge-test.true in
    let looked = subst (λ e. IsLooked before.measure before.request c.distance_to-start.result e before.dist before.closed after.dist after.closed) same c.in_ok-look.ensures.looked in
    record {
      same = same_pass-trans c.args.self.now before after c.loop-edge.invariant.same c.in_ok-look.ensures.same;
      start = looked.stays c.args.node c.loop-edge.invariant.start;
      near =
          near_next c.args.self.now before after c.distance_to-start.result place run c.loop-edge.invariant.same
          c.loop-edge.invariant.near looked;
    }

pub close-requires : goal.close-requires
close-requires g c =
    near_all c.args.self.now c.loop-edge.self c.distance_to-start.result c.loop-edge.edge-index c.args.node
    c.edges_leaving-edge-items.result.now c.loop-edge.invariant.same c.edges_leaving-edge-items.ensures
    (omega (arith, c.loop-edge-test.false)) c.loop-edge.invariant.start c.loop-edge.invariant.near
