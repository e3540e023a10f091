use Rattle.std.proofs.Common.{ap, sym, subst, arith}
use Rattle.lgm_graph.specs.Graph.{edges}
use Rattle.lgm_route.specs.inner.Searching.{IsUpperBound}
use Rattle.lgm_route.specs.inner.SearchState.{Ground}
use Rattle.lgm_route.proofs.walks.begin.Goals as goal

pub returns : goal.returns
returns g c =
    let ground = c.in_ok-search.ensures.ground in
    record {
      graph_is = ap (λ (g : Ground). g.graph) ground;
      request_is = ap (λ (g : Ground). g.request) ground;
      budget_is = ap (λ (g : Ground). g.budget) ground;
      paid = record { few = λ low. omega (arith, c.in_ok-search.ensures.unspent) };
      upper_bound = subst (λ (g : Ground). IsUpperBound (edges g.graph) g.request g.upper_bound) (sym ground) c.most_sent-upper_bound.ensures.upper_bound;
    }
