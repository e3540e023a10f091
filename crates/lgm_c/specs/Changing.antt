-- Calls that change a map.
use Rattle.std.specs.Prelude.{◌≡◌, ℕ, Bool, true, false, Option, Some, None}
use Rattle.lgm_c.specs.declared.fault.Fault.TheVariants as faults
use Rattle.lgm_c.specs.MapState.{MapState}
use Rattle.lgm_c.specs.Status.{number_of}

-- a published map has only its fault, and is unchanged
abbrev pub ChangesUnless : Bool → (MapState → ℕ → Option MapState → Type 0) → MapState → ℕ → Option MapState → Type 0
ChangesUnless true Does old status new = (status ≡ number_of faults.Published) × (new ≡ Some old)
ChangesUnless false Does old status new = Does old status new

-- what a call does to the map of a handle; a closed one has only its fault
abbrev pub Changes : (MapState → ℕ → Option MapState → Type 0) → ℕ → Option MapState → Option MapState → Type 0
Changes Does status None new = (status ≡ number_of faults.Closed) × (new ≡ None)
Changes Does status (Some old) new = ChangesUnless old.is_published Does old status new
