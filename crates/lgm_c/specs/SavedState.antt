-- The bytes of a payer or of estimates, and what is opened of bytes, as C has them.
use Rattle.std.specs.Prelude.{◌≡◌, ◌⊎◌, ℕ, List, Option, Some, None}
use Rattle.lgm_c.specs.declared.fault.Fault.TheVariants as faults
use Rattle.lgm_c.specs.Status.{number_of, no_memory}
use Rattle.lgm_c.specs.Writing.{Buffer, IsWritten}

-- its bytes were written, from which it comes back, or their length alone; or memory ran out
abbrev pub SavesIn : {H : Type 0} → (H → List ℕ) → (H → Type 0) → H → ℕ → Buffer → Buffer → Type 0
SavesIn bytes_of ComesBack held status old new =
    (ComesBack held × IsWritten (bytes_of held) status old new) ⊎ ((status ≡ no_memory) × (new ≡ old))

abbrev pub Saves : {H : Type 0} → (H → List ℕ) → (H → Type 0) → Option H → ℕ → Buffer → Buffer → Type 0
Saves bytes_of ComesBack None status old new = (status ≡ number_of faults.Closed) × (new ≡ old)
Saves bytes_of ComesBack (Some held) status old new = SavesIn bytes_of ComesBack held status old new

-- a closed handle is opened with what has these bytes; or they are of nothing, or memory ran out, and it stays closed
abbrev pub LoadsNew : {H : Type 0} → (H → List ℕ) → List ℕ → ℕ → Option H → Type 0
LoadsNew bytes_of bytes status None = (status ≡ number_of faults.NotSaved) ⊎ (status ≡ no_memory)
LoadsNew bytes_of bytes status (Some held) = (status ≡ 0) × (bytes ≡ bytes_of held)

abbrev pub Loads : {H : Type 0} → (H → List ℕ) → List ℕ → ℕ → Option H → Option H → Type 0
Loads bytes_of bytes status (Some old) new = (status ≡ number_of faults.Open) × (new ≡ Some old)
Loads bytes_of bytes status None new = LoadsNew bytes_of bytes status new

-- it is opened with this, unless memory ran out
abbrev pub LoadsBack : {H : Type 0} → H → ℕ → Option H → Type 0
LoadsBack held status new = ((status ≡ 0) × (new ≡ Some held)) ⊎ ((status ≡ no_memory) × (new ≡ None))
