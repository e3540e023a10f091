use Rattle.std.proofs.Common.{refl, sym, ◌∙◌}
use Rattle.std.specs.Slice.Iter.{iter_rest}
use Rattle.lgm_query.proofs.Idle.{no_news}
use Rattle.lgm_query.proofs.news_iter.NewsIterator.next.Goals as goal

pub returns-then-self-eq0-clause-steps : goal.returns-then-self-eq0-clause-steps
returns-then-self-eq0-clause-steps c =
    let rows = c.rows.self-inside in
    let none = no_news rows.filter (iter_rest rows.channels) (iter_rest rows.nodes) c.if-self-eq0.true in
    let before = c.in_default.ensures.steps in
    (sym c.rows.invariant ∙ rw (before.0, none) refl, rw (before.1, none) refl)
