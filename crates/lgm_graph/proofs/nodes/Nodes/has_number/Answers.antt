use Rattle.std.proofs.Common.{◌∙◌, sym}
use Rattle.lgm_graph.proofs.NewNumberLaws.{number_at}
use Rattle.lgm_graph.proofs.nodes.Nodes.has_number.Goals as goal

pub returns-in-Some-clause-number : goal.returns-in-Some-clause-number
returns-in-Some-clause-number c = λ is.
    (number_at c.args.self.now.points.keys c.args.number c.args.point.now c.in-Some.stored.now
    c.len.ensures.unique (sym c.in-Some.ensures.key) (sym c.eq.ensures ∙ is)).0

pub returns-in-Some-clause-numbered : goal.returns-in-Some-clause-numbered
returns-in-Some-clause-numbered c = λ is.
    (number_at c.args.self.now.points.keys c.args.number c.args.point.now c.in-Some.stored.now
    c.len.ensures.unique (sym c.in-Some.ensures.key) (sym c.eq.ensures ∙ is)).1
