use Rattle.std.proofs.Common.{rules, ◌+◌, ◌∙◌, ap}
use Rattle.lgm_route.specs.inner.SearchState.{SearchState, IsHalted, IsStopped}
use Rattle.lgm_route.proofs.SpentDives.{dive-halts, dive-pays, dives-pay, map_halt}
use Rattle.lgm_route.proofs.label_search.LabelSearch.dive_both.Goals as goal

pub returns-in_err-dive-clause-halted : goal.returns-in_err-dive-clause-halted
returns-in_err-dive-clause-halted g c =
    let first = c.args.self.now in
    let began = c.may_dive.new.self in
    let once = c.dive.new.self in
    let may = c.may_dive.ensures.first c.if-not-may_dive.false in
    map_halt c.from_residual.result (IsStopped began once) (IsHalted first once) (search rules)
    (λ halt stopped. dive-halts first once halt (c.dive.ensures.adds.ground ∙ ap (λ (s : SearchState). s.ground) may.1) stopped.reached
    (dive-pays first began once c.args.i c.requires may.0 may.1 c.dive.ensures.adds c.dive.ensures.spends))

pub returns-in_err-dive-2-clause-halted : goal.returns-in_err-dive-2-clause-halted
returns-in_err-dive-2-clause-halted g c =
    let first = c.args.self.now in
    let began = c.may_dive.new.self in
    let once = c.dive.new.self in
    let twice = c.dive-2.new.self in
    let may = c.may_dive.ensures.first c.if-not-may_dive.false in
    map_halt c.from_residual-in_err-dive-2.result (IsStopped once twice) (IsHalted first twice) (search rules)
    (λ halt stopped. dive-halts first twice halt (c.dive-2.ensures.adds.ground ∙ c.dive.ensures.adds.ground ∙ ap (λ (s : SearchState). s.ground) may.1) stopped.reached
    (dives-pay first began once twice c.args.i c.requires may.0 may.1 c.dive.ensures.adds c.dive.ensures.spends c.dive-2.ensures.adds c.dive-2.ensures.spends))

pub returns-clause-pays : goal.returns-clause-pays
returns-clause-pays g c =
    let may = c.may_dive.ensures.first c.if-not-may_dive.false in
    dives-pay c.args.self.now c.may_dive.new.self c.dive.new.self c.dive-2.new.self c.args.i c.requires may.0 may.1 c.dive.ensures.adds c.dive.ensures.spends
    c.dive-2.ensures.adds c.dive-2.ensures.spends
