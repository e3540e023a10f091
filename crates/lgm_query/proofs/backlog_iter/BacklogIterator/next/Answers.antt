use Rattle.std.proofs.Common.{refl, sym, ◌∙◌}
use Rattle.lgm_query.proofs.Idle.{no_rows}
use Rattle.lgm_query.proofs.backlog_iter.BacklogIterator.next.Goals as goal

pub returns-then-self-eq0-clause-steps : goal.returns-then-self-eq0-clause-steps
returns-then-self-eq0-clause-steps c =
    let rows = c.rows.self-inside in
    let none = no_rows rows.filter rows.channels rows.nodes c.if-self-eq0.true in
    let before = c.in_default.ensures.steps in
    (sym c.rows.invariant ∙ rw (before.0, none) refl, rw (before.1, none) refl)
