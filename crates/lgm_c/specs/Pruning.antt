-- Channels that are closed since they are old.
use Rattle.std.specs.Prelude.{◌≡◌, ◌⊎◌, ℕ, ◌<◌, ◌≤◌, Bool, true, false, List, [], ◌∷◌, length, take, map, Option, Some, None, Ok}
use Rattle.lgm_store.specs.declared.op.Op.TheVariants as ops
use Rattle.lgm_sync.specs.declared.pruning.StaleChannel.{StaleChannel}
use Rattle.lgm_sync.specs.Pruning.{prunable_of}
use Rattle.lgm_c.specs.declared.pruning.LgmPruned.{LgmPruned}
use Rattle.lgm_c.specs.declared.fault.Fault.TheVariants as faults
use Rattle.lgm_c.specs.MapState.{MapState}
use Rattle.lgm_c.specs.Offering.{state_behind}
use Rattle.lgm_c.specs.Status.{number_of, no_memory}
use Rattle.lgm_c.specs.Writing.{in_front}

-- a channel, as C gets it
abbrev pub c_pruned : StaleChannel → LgmPruned
c_pruned stale = record { scid = stale.scid; timestamp = stale.time }

-- without these channels: each was closed, in their order
abbrev pub without_each : MapState → List StaleChannel → MapState
without_each state [] = state
without_each state (stale ∷ others) = without_each (state_behind state (Ok (ops.Close stale.scid))) others

-- the caller's entries, and the number beside them
pub record Entries : Type 0 where
  pub room : List LgmPruned
  pub needed : ℕ

abbrev pub entries : List LgmPruned → ℕ → Entries
entries room needed = record { room = room; needed = needed }

-- the first of some channels were closed and told, as many as the number says
pub record AreTold (stale : List StaleChannel) (AreClosed : List StaleChannel → Type 0) (old new : Entries) : Type 0 where
  pub few : new.needed ≤ length stale
  pub closed : AreClosed (take new.needed stale)
  pub told : new.room ≡ in_front (map c_pruned (take new.needed stale)) old.room

-- all of some channels were closed, or as many as memory sufficed for; or there is no room for them, and the number alone was
-- written
abbrev pub ClosesEach : List StaleChannel → (List StaleChannel → Type 0) → ℕ → Entries → Entries → Type 0
ClosesEach stale AreClosed status old new =
    ((status ≡ 0) × (new.needed ≡ length stale) × AreTold stale AreClosed old new)
    ⊎ ((status ≡ no_memory) × AreTold stale AreClosed old new)
    ⊎ ((status ≡ number_of faults.Room) × (length old.room < length stale) × AreClosed []
    × (new ≡ entries old.room (length stale)))

-- a map that was published is unchanged
abbrev pub PrunesUnless : Bool → ℕ → ℕ → MapState → ℕ → Option MapState → Entries → Entries → Type 0
PrunesUnless true before block state status new told now =
    (status ≡ number_of faults.Published) × (new ≡ Some state) × (now ≡ told)
PrunesUnless false before block state status new told now =
    ClosesEach (prunable_of state.rows before block) (λ these. new ≡ Some (without_each state these)) status told now

-- the channels of a map whose latest updates are from before a time, and those without one below a block, are closed and told;
-- a closed handle has only its fault
abbrev pub Prunes : ℕ → ℕ → ℕ → Option MapState → Option MapState → Entries → Entries → Type 0
Prunes before block status None new told now = (status ≡ number_of faults.Closed) × (new ≡ None) × (now ≡ told)
Prunes before block status (Some state) new told now =
    PrunesUnless state.is_published before block state status new told now
