-- The state between two lines after an offer to its timeline.
use Rattle.std.proofs.Common.{◌≡◌, ℕ, ◌+◌, ◌<◌, ◌^◌, List, Result, Ok, Err, inl, inr, refl, ap, arith, length}
use Rattle.std.specs.Prelude.{OnOk, OnErr, IfErr}
use Rattle.lgm_wire.specs.reading.Reading.{Gives}
use Rattle.lgm_check.specs.declared.refusal.Refusal.{Refusal}
use Rattle.lgm_check.specs.declared.refusal.Refusal.TheVariants as refusals
use Rattle.lgm_store.specs.declared.op.Op.{Op}
use Rattle.lgm_store.proofs.ChannelCountLaws.{absorbed_few}
use Rattle.lgm_timeline.specs.History.{Moment}
use Rattle.lgm_timeline.specs.Timeline.{TimelineState, newest, Advances, RefusesOrRunsOut}
use Rattle.lgm_answers.specs.declared.filters.PeerFilter.{PeerFilter}
use Rattle.lgm_answers.specs.Script.{ScriptState}
use Rattle.lgm_run.specs.inner.CheckedItem.{settled}
use Rattle.lgm_run.specs.inner.Engine.{IsFew, state_by_parts}
use Rattle.lgm_run.specs.inner.Steps.{state_behind}

-- what it returns
pub offer_gives : (result : Result (Unit {0}) Refusal) (admission : Result Op Refusal) (old new : Moment)
    → OnOk result (Advances admission old new) → IfErr result (RefusesOrRunsOut admission)
    → Gives refusals.NoMemory (λ done. done) result (settled admission)
offer_gives (Ok done) admission old new advances refused = ap settled advances.accepts
offer_gives (Err refusal) admission old new advances refused =
    elim refused [ inl none ↦ inl none | inr refuses ↦ inr (ap settled refuses) ]

module _ {T : Type 0} where
  -- the state of an accepted item
  pub offer_leaves : (result : Result T Refusal) (admission : Result Op Refusal) (old new : TimelineState) (filters : List PeerFilter)
      → old.version + 1 < 2 ^ 64 → OnOk result (Advances admission (newest old) (newest new)) → new.marked ≡ old.marked
      → OnOk result (state_by_parts new filters ≡ state_behind (state_by_parts old filters) admission)
  offer_leaves (Err refusal) admission old new filters more advances marked = tt
  offer_leaves (Ok done) admission old new filters more advances marked =
      let known = ap (λ m. m.known) advances.becomes in
      let rows = ap (λ m. m.rows) advances.becomes in
      let version = ap (λ m. m.at) advances.becomes in
      let counted : new.version ≡ old.version + 1 = omega (arith, version) in
      rw advances.accepts (rw (known, rows, counted, marked) refl)

  -- no more channels are there than items were accepted
  pub offer_few : (result : Result T Refusal) (admission : Result Op Refusal) (old new : TimelineState) → IsFew old → old.version + 1 < 2 ^ 64
      → OnOk result (Advances admission (newest old) (newest new)) → OnErr result (newest new ≡ newest old) → new.marked ≡ old.marked → IsFew new
  offer_few (Err refusal) admission old new few more advances stays marked =
      let rows = ap (λ m. length m.rows.channels) stays in
      let version = ap (λ m. m.at) stays in
      let same = ap (λ m. length m.channels) marked in
      record { rows = omega (arith, few.rows, rows, version); committed = omega (arith, few.committed, same, version) }
  offer_few (Ok done) admission old new few more advances stays marked =
      let rows = ap (λ m. length m.rows.channels) advances.becomes in
      let version = ap (λ m. m.at) advances.becomes in
      let same = ap (λ m. length m.channels) marked in
      record {
        rows = omega (arith, few.rows, rows, version, absorbed_few old.network.rows advances.op);
        committed = omega (arith, few.committed, same, version);
      }
