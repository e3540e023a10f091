use Rattle.lgm_graph.proofs.Numbers.{number_none, number_some}
use Rattle.std.proofs.Common.{sym, ◌∙◌}
use Rattle.lgm_graph.proofs.nodes.Nodes.number_of.Goals as goal

pub unreachable-requires : goal.unreachable-requires
unreachable-requires c = number_none c.args.self.now.points.keys c.args.point.now c.requires (sym c.get_index_of.ensures.index ∙ c.in-None.is)

pub returns-clause-number : goal.returns-clause-number
returns-clause-number c =
    sym (number_some c.args.self.now.points.keys c.args.point.now c.in-Some.number
    (sym c.get_index_of.ensures.index ∙ c.in-Some.is)).0

pub returns-clause-less : goal.returns-clause-less
returns-clause-less c =
    (number_some c.args.self.now.points.keys c.args.point.now c.in-Some.number
    (sym c.get_index_of.ensures.index ∙ c.in-Some.is)).1
