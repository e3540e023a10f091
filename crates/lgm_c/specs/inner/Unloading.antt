-- Why no map is loaded.
use Rattle.std.specs.Prelude.{◌≡◌, ◌⊎◌, ℕ, List}
use Rattle.lgm_save.specs.Loaded.{IsNotSaved}
use Rattle.lgm_c.specs.declared.fault.Fault.{Fault}
use Rattle.lgm_c.specs.declared.fault.Fault.TheVariants as faults

-- the bytes are of none of this chain, or memory ran out
abbrev pub IsUnloaded : List ℕ → List ℕ → Fault → Type 0
IsUnloaded chain bytes fault =
    ((fault ≡ faults.NotSaved) × IsNotSaved (record { 0 = chain }) bytes) ⊎ (fault ≡ faults.NoMemory)
