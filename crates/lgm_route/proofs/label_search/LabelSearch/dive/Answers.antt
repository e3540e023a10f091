use Rattle.std.proofs.Common.{arith}
use Rattle.lgm_route.proofs.Searches.{extends-trans}
use Rattle.lgm_route.proofs.SpentSearches.{adds-trans}
use Rattle.lgm_route.proofs.SpentDives.{diving-next, diving-ends, diving-ended}
use Rattle.lgm_route.proofs.label_search.LabelSearch.dive.Goals as goal

pub loop-step-preserved : goal.loop-step-preserved
loop-step-preserved g c =
    let first = c.args.self.now in
    let before = c.loop-step.self in
    let after = c.dive_on.new.self in
    let is = c.loop-step.invariant in
    record {
      extends = extends-trans first before after is.extends c.in_ok-dive_on.ensures.extends;
      adds = adds-trans first before after is.adds c.dive_on.ensures.adds;
      within = omega (arith, c.len-last.ensures.count, c.in_ok-dive_on.ensures.added c.if-not-branch.false);
      diving = diving-next first before after c.args.i c.loop-step.here c.len-last.result c.len-last.ensures.count c.requires is.within is.adds
          c.dive_on.ensures.adds is.diving c.dive_on.ensures.spends;
    }

pub returns-in_err-dive_on-clause-spends : goal.returns-in_err-dive_on-clause-spends
returns-in_err-dive_on-clause-spends g c =
    diving-ends c.args.self.now c.loop-step.self c.dive_on.new.self c.args.i c.loop-step.here c.requires c.loop-step.invariant.within c.loop-step.invariant.adds
    c.dive_on.ensures.adds c.loop-step.invariant.diving c.dive_on.ensures.spends

pub returns-then-not-branch-clause-spends : goal.returns-then-not-branch-clause-spends
returns-then-not-branch-clause-spends g c =
    diving-ends c.args.self.now c.loop-step.self c.dive_on.new.self c.args.i c.loop-step.here c.requires c.loop-step.invariant.within c.loop-step.invariant.adds
    c.dive_on.ensures.adds c.loop-step.invariant.diving c.dive_on.ensures.spends

pub returns-after-loop-step-clause-spends : goal.returns-after-loop-step-clause-spends
returns-after-loop-step-clause-spends g c =
    diving-ended c.args.self.now c.loop-step.self c.args.i c.loop-step.here c.loop-step.invariant.within c.loop-step.invariant.adds c.loop-step.invariant.diving
