use Rattle.lgm_graph.proofs.Cuts.{set_parts}
use Rattle.lgm_graph.proofs.edges.replace.Goals as goal

pub returns-in-Some : goal.returns-in-Some
returns-in-Some c = rw c.in-Some.is (set_parts c.args.edges.now.items c.args.place c.in-Some.edge c.requires)
