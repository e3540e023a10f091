-- The parts of a view, read through its box.
use Rattle.std.proofs.Common.{◌≡◌, ap, sym, subst, ◌∙◌}
use Rattle.lgm_graph.specs.declared.view.Parts.{Parts}
use Rattle.lgm_graph.specs.Graph.{Graph}
use Rattle.lgm_graph.specs.inner.Sound.{IsSound, graph_in}

-- the graph of a view's parts
abbrev pub graph_of : Parts → Graph
graph_of parts = graph_in parts.known parts.nodes

-- what is known of parts that have been read
pub record AreOpened (parts : Parts) (graph : Graph) : Type 0 where
  pub sound : IsSound (graph_of parts)
  pub seen : graph_of parts ≡ graph

pub opened : {boxed parts : Parts} {graph : Graph} → parts ≡ boxed → IsSound (graph_of boxed) → graph_of boxed ≡ graph → AreOpened parts graph
opened is sound seen = record { sound = subst (λ parts. IsSound (graph_of parts)) (sym is) sound; seen = ap graph_of is ∙ seen }
