use Rattle.std.proofs.Common.{arith, inl, inr}
use Rattle.std.proofs.lemmas.List.{length-append}
use Rattle.std.proofs.lemmas.Result.{err_from_is_err_and}
use Rattle.lgm_payer_state.proofs.ListLaws.{onto_none, onto_more, onto_all, more_exact}
use Rattle.lgm_payer_state.proofs.lists.times.Goals as goal

pub returns-in_err-item-clause-given : goal.returns-in_err-item-clause-given
returns-in_err-item-clause-given g c =
    let p = err_from_is_err_and c.from_residual.result c.from_residual.ensures.1 in
    rw (p.1, p.2) (elim c.in_err-item.ensures.given [
      | inl none ↦ inl none
      | inr fault ↦ inr (onto_none g.T.Stored.read_at c.args.count c.args.count c.loop.counter c.args.bytes.now _ _ _ c.loop-test.true
          c.loop.invariant.same fault)
    ])

pub loop-preserved : goal.loop-preserved
loop-preserved g c =
    let items = c.in_ok-push.ensures in
    record {
      same = rw items (onto_more g.T.Stored.read_at c.args.count c.args.count c.loop.counter c.args.bytes.now _ _ _ _ c.loop-test.true
          c.loop.invariant.same c.in_ok-item.ensures.given);
      exact = rw items (more_exact g.T.Stored.bytes_of c.args.bytes.now _ _ _ _ c.loop.invariant.exact c.in_ok-item.ensures.exact);
      many = rw items (omega (arith, length-append {A = g.row.T.Denot}));
    }

pub returns-clause-given : goal.returns-clause-given
returns-clause-given g c =
    onto_all g.T.Stored.read_at c.args.count c.args.count c.loop.counter c.args.bytes.now _ _ c.loop-test.false c.loop.invariant.same
