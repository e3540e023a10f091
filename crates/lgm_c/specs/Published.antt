-- Published maps: each has what a map had, for good.
use Rattle.std.specs.Prelude.{◌≡◌, ℕ, Bool, true, false, Option, Some, None}
use Rattle.lgm_c.specs.declared.argument_fault.ArgumentFault.TheVariants as wrong
use Rattle.lgm_c.specs.declared.fault.Fault.TheVariants as faults
use Rattle.lgm_c.specs.MapState.{MapState, published}
use Rattle.lgm_c.specs.Opening.{Opens}
use Rattle.lgm_c.specs.Status.{number_of}

-- a closed handle is opened with a map as it is now, for good, unless memory runs out; if there is none, since the other
-- handle is closed, it is unchanged, and so is an open one
abbrev pub Publishes : Option MapState → ℕ → Option MapState → Option MapState → Type 0
Publishes None status old new = (status ≡ number_of faults.Closed) × (new ≡ old)
Publishes (Some state) status old new = Opens (published state) status old new

-- one more handle has a map if that is a published one; one that changes isn't shared
abbrev pub SharesIf : Bool → MapState → ℕ → Option MapState → Option MapState → Type 0
SharesIf true state status old new = Opens state status old new
SharesIf false state status old new = (status ≡ number_of (faults.Argument wrong.Published)) × (new ≡ old)

abbrev pub Shares : Option MapState → ℕ → Option MapState → Option MapState → Type 0
Shares None status old new = (status ≡ number_of faults.Closed) × (new ≡ old)
Shares (Some state) status old new = SharesIf state.is_published state status old new

-- the version of a map: 0 of a closed handle
abbrev pub version_of : Option MapState → ℕ
version_of None = 0
version_of (Some state) = state.version

-- an earlier and a later map, if both handles are open
abbrev pub both_open : Option MapState → Option MapState → Option (MapState × MapState)
both_open (Some before) (Some after) = Some (before, after)
both_open _ _ = None
