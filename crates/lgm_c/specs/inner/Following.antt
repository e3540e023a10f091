-- What an outcome does to the newest map.
use Rattle.std.specs.Prelude.{◌≡◌, ◌⊎◌, Result, Ok, Err}
use Rattle.lgm_check.specs.declared.refusal.Refusal.{Refusal}
use Rattle.lgm_check.specs.declared.refusal.Refusal.TheVariants as refusals
use Rattle.lgm_store.specs.declared.op.Op.{Op}
use Rattle.lgm_timeline.specs.History.{Moment}
use Rattle.lgm_timeline.specs.Timeline.{Advances}
use Rattle.lgm_c.specs.Status.{MayRunOut}

-- this is the refusal of an outcome, or out of memory
abbrev pub Refuses : Type 0 → Result Op Refusal → Refusal → Type 0
Refuses takes outcome refusal = (MayRunOut takes outcome × (refusal ≡ refusals.NoMemory)) ⊎ (outcome ≡ Err refusal)

-- the same of a call that takes no more memory if it accepts
abbrev pub Fails : Type 0 → Result Op Refusal → Refusal → Type 0
Fails takes outcome refusal = (takes × (refusal ≡ refusals.NoMemory)) ⊎ (outcome ≡ Err refusal)

-- nothing was applied
pub record Stays (takes : Type 0) (outcome : Result Op Refusal) (refusal : Refusal) (old new : Moment) : Type 0 where
  pub refuses : Refuses takes outcome refusal
  pub same : new ≡ old

-- an accepted operation was applied, or the call returned the refusal or out of memory and changed nothing
abbrev pub Follows : {T : Type 0} → Type 0 → Result Op Refusal → Result T Refusal → Moment → Moment → Type 0
Follows takes outcome (Ok t) old new = Advances outcome old new
Follows takes outcome (Err refusal) old new = Stays takes outcome refusal old new
