use Rattle.std.proofs.Common.{arith}
use Rattle.lgm_route.proofs.Searches.{extends-trans, marked_more, finished}
use Rattle.lgm_route.proofs.label_search.LabelSearch.sweep.Goals as goal

pub returns-then-len-i-clause-finished : goal.returns-then-len-i-clause-finished
returns-then-len-i-clause-finished g c = (
  c.loop-i.invariant.extends.ground,
  finished c.loop-i.self c.len.ensures.search (λ i within. c.loop-i.invariant.marked i (omega (arith, within, c.if-len-i.true, c.len.ensures.count))),
)

pub loop-i-preserved : goal.loop-i-preserved
loop-i-preserved g c = record {
  extends = extends-trans c.args.self.now c.loop-i.self c.settle.new.self c.loop-i.invariant.extends c.in_ok-settle.ensures.extends;
  pays = λ paid. c.in_ok-settle.ensures.pays (c.loop-i.invariant.pays paid);
  marked =
      marked_more c.loop-i.self c.settle.new.self c.loop-i.i c.in_ok-settle.ensures.extends
      c.loop-i.invariant.marked c.in_ok-settle.ensures.here;
}

pub returns-clause-finished : goal.returns-clause-finished
returns-clause-finished g c = (
  c.loop-i.invariant.extends.ground,
  finished c.loop-i.self c.len-len.ensures.search (λ i within. c.loop-i.invariant.marked i
      (omega (arith, within, c.loop-i-test.false, c.len-len.ensures.count, c.len-len.type_inv))),
)
