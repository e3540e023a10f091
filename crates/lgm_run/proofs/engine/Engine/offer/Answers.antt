use Rattle.std.proofs.Common.{◌≡◌, ◌+◌, ◌<◌, ◌^◌, ap, subst, arith}
use Rattle.std.specs.Prelude.{OnOk}
use Rattle.lgm_wire.specs.reading.Reading.{Gives}
use Rattle.lgm_check.specs.declared.refusal.Refusal.TheVariants as refusals
use Rattle.lgm_timeline.specs.Timeline.{newest}
use Rattle.lgm_answers.specs.Script.{ScriptState}
use Rattle.lgm_run.specs.inner.CheckedItem.{admitted_item, settled}
use Rattle.lgm_run.specs.inner.Engine.{state_by_parts}
use Rattle.lgm_run.specs.inner.Steps.{state_behind}
use Rattle.lgm_run.proofs.OfferLaws.{offer_gives, offer_leaves, offer_few}
use Rattle.lgm_run.proofs.engine.Engine.offer.Goals as goal

pub invariant_of-self : goal.invariant_of-self
invariant_of-self c =
    let old = c.self.inside.timeline in
    let count = ap (λ s. s.accepted) c.self.view_is in
    let more : old.version + 1 < 2 ^ 64 = omega (arith, count, c.requires) in
    offer_few c.offer_to.result (admitted_item old.network.rows c.in-Ok.item) old c.offer_to.new.timeline c.self.invariant more
    c.offer_to.ensures.accepted c.offer_to.ensures.stays c.offer_to.ensures.marked

pub returns-in-Ok-clause-outcome : goal.returns-in-Ok-clause-outcome
returns-in-Ok-clause-outcome c =
    let old = c.self.inside.timeline in
    rw c.in-Ok.is
    (subst (λ (s : ScriptState). Gives refusals.NoMemory (λ done. done) c.offer_to.result (settled (admitted_item s.rows c.in-Ok.item))) c.self.view_is
    (offer_gives c.offer_to.result (admitted_item old.network.rows c.in-Ok.item) (newest old) (newest c.offer_to.new.timeline)
    c.offer_to.ensures.accepted c.offer_to.ensures.refused))

pub returns-in-Ok-clause-state : goal.returns-in-Ok-clause-state
returns-in-Ok-clause-state c =
    let old = c.self.inside.timeline in
    let filters = c.self.inside.filters in
    let count = ap (λ s. s.accepted) c.self.view_is in
    let more : old.version + 1 < 2 ^ 64 = omega (arith, count, c.requires) in
    rw c.in-Ok.is
    (subst (λ (s : ScriptState). OnOk c.offer_to.result
    (state_by_parts c.offer_to.new.timeline filters ≡ state_behind s (admitted_item s.rows c.in-Ok.item))) c.self.view_is
    (offer_leaves c.offer_to.result (admitted_item old.network.rows c.in-Ok.item) old c.offer_to.new.timeline filters more
    c.offer_to.ensures.accepted c.offer_to.ensures.marked))
