use Rattle.std.proofs.Common.{◌∙◌, sym, refl}
use Rattle.lgm_graph.proofs.NewNumberLaws.{any_numbered, has_numbered, was_numbered}
use Rattle.lgm_graph.proofs.nodes.Nodes.number.Goals as goal

pub returns-then-contains-clause-numbered : goal.returns-then-contains-clause-numbered
returns-then-contains-clause-numbered c =
    was_numbered _ _ c.args.point c.args.self.now
    (any_numbered c.args.self.now.points.keys c.args.point (sym c.contains.ensures ∙ c.if-contains.true))

pub returns-clause-numbered : goal.returns-clause-numbered
returns-clause-numbered c =
    has_numbered c.args.self.now c.args.self.now c.add.new.self c.args.point c.takes_payments-accepts_payments.result
    (sym c.contains.ensures ∙ c.if-contains.false) (λ k. refl) c.add.ensures.points c.add.ensures.nodes
    c.args.known.now c.args.stored.now.nodes c.takes_payments-accepts_payments.ensures
