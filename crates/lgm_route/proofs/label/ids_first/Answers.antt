use Rattle.std.proofs.Common.{◌≡◌, ◌-◌, ◌+◌, ◌∙◌, ap, sym, subst, arith}
use Rattle.std.proofs.Math.Nat.{sub-zero}
use Rattle.lgm_route.specs.inner.Searching.{label_at}
use Rattle.lgm_route.proofs.Chains.{AreBeside, beside_start, one, two, beside_less, beside_more, beside_later, beside_next, beside_same, beside_end}
use Rattle.lgm_route.proofs.label.ids_first.Goals as goal

pub loop-step-init : goal.loop-step-init
loop-step-init g c =
    subst (λ n. AreBeside (g.V.RoutingGraph.graph c.args.view.now) c.args.labels.now c.args.label.now c.args.other.now c.args.label.now
    c.args.other.now n) (sym (sub-zero c.args.label.now.hops))
    (beside_start (g.V.RoutingGraph.graph c.args.view.now) c.args.labels.now c.args.label.now c.args.other.now c.requires.spelled c.requires.also c.requires.equal)

pub bounds-labels-here : goal.bounds-labels-here
bounds-labels-here g c = (one c.loop-step.invariant (omega (arith, c.loop-step-test.true))).begins.parent

pub offset_bounds-labels-here : goal.offset_bounds-labels-here
offset_bounds-labels-here g c =
    let h = (one c.loop-step.invariant (omega (arith, c.loop-step-test.true))).begins.parent in
    omega arith

pub bounds-labels-there : goal.bounds-labels-there
bounds-labels-there g c = (two c.loop-step.invariant (omega (arith, c.loop-step-test.true))).begins.parent

pub offset_bounds-labels-there : goal.offset_bounds-labels-there
offset_bounds-labels-there g c =
    let h = (two c.loop-step.invariant (omega (arith, c.loop-step-test.true))).begins.parent in
    omega arith

pub returns-then-id-also-clause-first : goal.returns-then-id-also-clause-first
returns-then-id-also-clause-first g c = λ e.
    let id = c.to_u64-id.ensures ∙ ap (λ l. l.scid) c.first_of.ensures in
    let also = c.to_u64-also.ensures ∙ ap (λ l. l.scid) c.first_of-in-loop-step.ensures in
    beside_less c.loop-step.invariant (omega (arith, c.loop-step-test.true)) (omega (arith, id, also, c.if-id-also.true))

pub returns-then-also-id-clause-after : goal.returns-then-also-id-clause-after
returns-then-also-id-clause-after g c = λ e.
    let id = c.to_u64-id.ensures ∙ ap (λ l. l.scid) c.first_of.ensures in
    let also = c.to_u64-also.ensures ∙ ap (λ l. l.scid) c.first_of-in-loop-step.ensures in
    beside_more c.loop-step.invariant (omega (arith, c.loop-step-test.true)) (omega (arith, id, also, c.if-also-id.true))

pub returns-then-also-id-clause-strictly : goal.returns-then-also-id-clause-strictly
returns-then-also-id-clause-strictly g c = λ e.
    let id = c.to_u64-id.ensures ∙ ap (λ l. l.scid) c.first_of.ensures in
    let also = c.to_u64-also.ensures ∙ ap (λ l. l.scid) c.first_of-in-loop-step.ensures in
    beside_later c.loop-step.invariant (omega (arith, c.loop-step-test.true)) (omega (arith, id, also, c.if-also-id.true))

pub returns-then-here-there-clause-first : goal.returns-then-here-there-clause-first
returns-then-here-there-clause-first g c = λ e.
    let id = c.to_u64-id.ensures ∙ ap (λ l. l.scid) c.first_of.ensures in
    let also = c.to_u64-also.ensures ∙ ap (λ l. l.scid) c.first_of-in-loop-step.ensures in
    beside_same c.loop-step.invariant (omega (arith, c.loop-step-test.true)) (omega (arith, id, also, c.if-id-also.false, c.if-also-id.false)) c.if-here-there.true

pub loop-step-preserved : goal.loop-step-preserved
loop-step-preserved g c =
    let id = c.to_u64-id.ensures ∙ ap (λ l. l.scid) c.first_of.ensures in
    let also = c.to_u64-also.ensures ∙ ap (λ l. l.scid) c.first_of-in-loop-step.ensures in
    let next : c.args.label.now.hops - c.loop-step.step - 1
    ≡ c.args.label.now.hops - (c.loop-step.step + 1) =
    omega (arith, c.loop-step-test.true) in
    subst (λ n. AreBeside (g.V.RoutingGraph.graph c.args.view.now) c.args.labels.now c.args.label.now c.args.other.now (label_at
    c.args.labels.now c.loop-step.here.parent) (label_at c.args.labels.now c.loop-step.there.parent) n) next
    (beside_next c.loop-step.invariant (omega (arith, c.loop-step-test.true)) (omega (arith, id, also, c.if-id-also.false, c.if-also-id.false)))

pub returns-clause-first : goal.returns-clause-first
returns-clause-first g c = λ e.
    beside_end c.loop-step.invariant (omega (arith, c.loop-step-test.false))

pub first_of-requires : goal.first_of-requires
first_of-requires g c = (one c.loop-step.invariant (omega (arith, c.loop-step-test.true))).begins

pub first_of-requires-in-loop-step : goal.first_of-requires-in-loop-step
first_of-requires-in-loop-step g c = (two c.loop-step.invariant (omega (arith, c.loop-step-test.true))).begins
