use Rattle.lgm_graph.proofs.FilterLaws.{covers_less}
use Rattle.lgm_graph.proofs.estimates.Estimates.forget.Goals as goal

pub invariant_of-self : goal.invariant_of-self
invariant_of-self c =
    let removed = c.swap_remove.ensures.updates in
    covers_less c.self.inside.filter c.self.inside.entries.entries c.swap_remove.new.self.entries c.args.scid c.args.from.now
    c.self.invariant removed.1 removed.2
