use Rattle.std.proofs.Common.{arith}
use Rattle.lgm_route.specs.declared.label.Label.{Label}
use Rattle.lgm_route.specs.inner.Searching.{label_at, first_of}
use Rattle.lgm_route.proofs.Searches.{extends-trans, led_at_later, led_self, passed_self, passed_more, left_taken, settled_led}
use Rattle.lgm_route.proofs.label_search.LabelSearch.merge.Goals as goal

pub insert-requires : goal.insert-requires
insert-requires g c =
    let first = c.args.self.now in
    let new : Label = label_at c.args.relaxations.now c.loop-new.new-index in
    let edge = first_of first.ground.graph first.labels new in
    led_self c.loop-new.self c.args.i edge new
    (led_at_later first c.loop-new.self c.args.i edge new c.loop-new.invariant.extends c.requires.label
    (c.requires.relaxations.led c.loop-new.new-index c.loop-new-test.true))

pub loop-new-preserved : goal.loop-new-preserved
loop-new-preserved g c =
    let first = c.args.self.now in
    let before = c.loop-new.self in
    let after = c.insert.new.self in
    let new : Label = label_at c.args.relaxations.now c.loop-new.new-index in
    let edge = first_of first.ground.graph first.labels new in
    let led =
    led_at_later first before c.args.i edge new c.loop-new.invariant.extends c.requires.label
    (c.requires.relaxations.led c.loop-new.new-index c.loop-new-test.true) in
    record {
      extends = extends-trans first before after c.loop-new.invariant.extends c.in_ok-insert.ensures.extends;
      taken =
          passed_more first before after (λ k. first_of first.ground.graph first.labels
          (label_at c.args.relaxations.now k)) c.args.i c.loop-new.new-index c.requires.label
          c.loop-new.invariant.extends c.in_ok-insert.ensures.extends c.loop-new.invariant.taken
          (passed_self before after c.args.i edge new led c.in_ok-insert.ensures.passed);
    }

pub mark-requires-clause-settled : goal.mark-requires-clause-settled
mark-requires-clause-settled g c =
    let first = c.args.self.now in
    let last = c.loop-new.self in
    settled_led first last c.args.i c.len-len.ensures.search c.loop-new.invariant.extends c.requires.label
    (left_taken first last c.args.i c.args.relaxations.now c.len-len.ensures.search.ground c.loop-new.invariant.extends c.requires.relaxations
    (λ k to. c.loop-new.invariant.taken k (omega (arith, to, c.loop-new-test.false))))
