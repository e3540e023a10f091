use Rattle.std.proofs.Common.{◌≡◌, ◌+◌, ◌∙◌, ap, sym, subst, arith}
use Rattle.std.proofs.lemmas.List.{get_or_default}
use Rattle.lgm_graph.specs.Graph.{edges_into}
use Rattle.lgm_route.specs.inner.Searching.{edge_at, no_edge}
use Rattle.lgm_route.specs.inner.SearchState.{bound_in, IsRelaxationAt}
use Rattle.lgm_route.proofs.RelaxationLaws.{AreLeadsTo, leads_next, leads_all}
use Rattle.lgm_route.proofs.label_search.LabelSearch.relaxations.Goals as goal

pub loop-at-preserved : goal.loop-at-preserved
loop-at-preserved g c =
    let s = c.args.self.now in
    let run = c.edges_into-edges.result.now in
    let same : c.index-edges-at.result ≡ edge_at run c.loop-at.at =
    c.index-edges-at.is
    ∙ get_or_default run c.loop-at.at c.index-edges-at.result no_edge c.loop-at-test.true in
    subst (AreLeadsTo s.ground.graph s.ground.request s.ground.low (bound_in s) s.labels c.args.i run (c.loop-at.at + 1)) (sym c.in_ok-push.ensures)
    (leads_next s.ground.graph s.ground.request s.ground.low (bound_in s) s.labels c.args.i run c.loop-at.at
    c.loop-at.relaxations.items c.relaxation.result c.loop-at.invariant
    (subst (λ edge. IsRelaxationAt s c.args.i edge c.relaxation.result) same c.relaxation.ensures))

pub returns : goal.returns
returns g c =
    let s = c.args.self.now in
    leads_all s.ground.graph s.ground.request s.ground.low (bound_in s) s.labels c.args.i
    c.edges_into-edges.result.now c.loop-at.at c.loop-at.relaxations.items
    (c.edges_into-edges.ensures ∙ ap (λ l. edges_into s.ground.graph l.node) c.label-label.ensures.label)
    (omega (arith, c.loop-at-test.false)) c.loop-at.invariant
