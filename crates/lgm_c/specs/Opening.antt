-- Opening a handle, and moving a mark.
use Rattle.std.specs.Prelude.{◌≡◌, ◌⊎◌, ℕ, Bool, if◌then◌else◌, List, Option, Some, None}
use Rattle.lgm_c.specs.declared.fault.Fault.TheVariants as faults
use Rattle.lgm_c.specs.Changing.{Changes}
use Rattle.lgm_c.specs.MapState.{MapState}
use Rattle.lgm_c.specs.Status.{number_of, no_memory}

-- the known feature bits of nodes: all, or these
abbrev pub known_of : Bool → List ℕ → Option (List ℕ)
known_of all bits = if all then None else Some bits

-- a closed handle is opened with this, unless memory runs out; an open one is unchanged
abbrev pub Opens : {H : Type 0} → H → ℕ → Option H → Option H → Type 0
Opens state status None new = ((status ≡ 0) × (new ≡ Some state)) ⊎ ((status ≡ no_memory) × (new ≡ None))
Opens state status (Some old) new = (status ≡ number_of faults.Open) × (new ≡ Some old)

-- the mark moves to the rows
abbrev pub MovesMark : ℕ → Option MapState → Option MapState → Type 0
MovesMark = Changes (λ old status new. (status ≡ 0) × (new ≡ Some (record old { marked = old.rows })))
