use Rattle.std.proofs.Common.{inr, sym}
use Rattle.std.proofs.lemmas.Bool.{eqb-true, eqb-false}
use Rattle.std.proofs.lemmas.Result.{err_from_is_err_and}
use Rattle.lgm_gossip.proofs.QueryFlagsLaws.{flag_on, flag_fails, flags_end, flags_left}
use Rattle.lgm_gossip.proofs.query_flags.all_flags.Goals as goal

pub returns-in_err-one : goal.returns-in_err-one
returns-in_err-one c =
    let p = err_from_is_err_and c.from_residual-in_err-one.result c.from_residual-in_err-one.ensures.1 in
    rw (p.1, p.2) (inr (flag_fails c.loop.flags.items c.args.count c.loop.counter c.loop.rest.now
    c.in_err-one.field-0.0 _ c.loop-test.true c.in_err-one.ensures c.loop.invariant))

pub loop-preserved : goal.loop-preserved
loop-preserved c =
    rw (c.push.ensures.items, c.in-Ok.is) (flag_on c.loop.flags.items c.args.count c.loop.counter c.loop.rest.now
    c.in_ok-one.one c.in_ok-one.after.now _ c.loop-test.true c.in_ok-one.ensures c.loop.invariant)

pub returns-then-is_empty : goal.returns-then-is_empty
returns-then-is_empty c =
    flags_end c.loop.flags.items c.args.count c.loop.counter c.loop.rest.now _ c.loop-test.false
    (eqb-true _ _ (sym c.if-is_empty.ensures)) c.loop.invariant

pub returns-else-is_empty : goal.returns-else-is_empty
returns-else-is_empty c =
    inr (flags_left c.loop.flags.items c.args.count c.loop.counter c.loop.rest.now _ c.loop-test.false
    (eqb-false _ _ (sym c.if-is_empty.ensures)) c.loop.invariant)
