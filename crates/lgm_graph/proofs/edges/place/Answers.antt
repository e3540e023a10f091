use Rattle.std.proofs.Common.{rules}
use Rattle.std.proofs.lemmas.Fn.{always_returns_same}
use Rattle.std.proofs.Common.{of_calls}
use Rattle.lgm_graph.specs.inner.Lists.{edge_key}
use Rattle.lgm_graph.proofs.Cuts.{place_found}
use Rattle.lgm_graph.proofs.edges.place.Goals as goal

pub returns : goal.returns
returns c = record {
  found = place_found (edge_key c.args.scid c.args.second) c.args.edges.now c.binary_search_by.result c.requires c.binary_search_by.ensures.bound
      (c.binary_search_by.ensures.position (edge_key c.args.scid c.args.second) (always_returns_same _ _ _ (λ a r f k. search (rules, of_calls))));
}
