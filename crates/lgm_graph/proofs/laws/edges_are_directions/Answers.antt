use Rattle.lgm_graph.proofs.ViewEdgeLaws.{are_directions, are_keyed}
use Rattle.lgm_graph.proofs.laws.edges_are_directions.Goals as goal

pub returns-clause-directions : goal.returns-clause-directions
returns-clause-directions c = are_directions

pub returns-clause-keyed : goal.returns-clause-keyed
returns-clause-keyed c = are_keyed
