-- What was learnt fades, as C has it.
use Rattle.std.specs.Prelude.{◌≡◌, ◌⊎◌, ℕ, Option, Some, None}
use Rattle.lgm_store.specs.Rows.{Rows}
use Rattle.lgm_c.specs.declared.fault.Fault.TheVariants as faults
use Rattle.lgm_c.specs.MapState.{MapState}
use Rattle.lgm_c.specs.Status.{number_of, no_memory}

-- it fades beside a map, unless memory runs out; with a closed handle, either, nothing does
abbrev pub FadesIn : {H : Type 0} → (Rows → H → H → Type 0) → ℕ → Option MapState → H → H → Type 0
FadesIn Faded status None old new = (status ≡ number_of faults.Closed) × (new ≡ old)
FadesIn Faded status (Some state) old new =
    ((status ≡ 0) × Faded state.rows old new) ⊎ ((status ≡ no_memory) × (new ≡ old))

abbrev pub Fades : {H : Type 0} → (Rows → H → H → Type 0) → ℕ → Option MapState → Option H → Option H → Type 0
Fades Faded status map None new = (status ≡ number_of faults.Closed) × (new ≡ None)
Fades Faded status map (Some old) None = ⊥
Fades Faded status map (Some old) (Some new) = FadesIn Faded status map old new
