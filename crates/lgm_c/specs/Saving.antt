-- The bytes of a map, and a map of bytes, as C has them.
use Rattle.std.specs.Prelude.{◌≡◌, ◌⊎◌, ℕ, List, Option, Some, None}
use Rattle.lgm_wire.specs.declared.chain_hash.ChainHash.{ChainHash}
use Rattle.lgm_store.specs.Rows.{Rows}
use Rattle.lgm_save.specs.Saved.{saved}
use Rattle.lgm_save.specs.Loaded.{IsLoaded, IsNotSaved}
use Rattle.lgm_c.specs.declared.fault.Fault.TheVariants as faults
use Rattle.lgm_c.specs.MapState.{MapState, begun}
use Rattle.lgm_c.specs.Status.{number_of, no_memory}
use Rattle.lgm_c.specs.Writing.{Buffer, IsWritten}

-- nothing but these rows is loaded of the bytes, which are never refused
pub record LoadsOnly (chain : ChainHash) (bytes : List ℕ) (rows : Rows) : Type 0 where
  pub same : (loaded : Rows) → IsLoaded chain bytes loaded → loaded ≡ rows
  pub taken : IsNotSaved chain bytes → ⊥

-- the bytes of a map were written, of which it is loaded again, or their length alone; or memory ran out
abbrev pub SavesIn : ChainHash → Rows → ℕ → Buffer → Buffer → Type 0
SavesIn chain rows status old new =
    (LoadsOnly chain (saved chain rows) rows × IsWritten (saved chain rows) status old new)
    ⊎ ((status ≡ no_memory) × (new ≡ old))

abbrev pub Saves : Option MapState → ℕ → Buffer → Buffer → Type 0
Saves None status old new = (status ≡ number_of faults.Closed) × (new ≡ old)
Saves (Some state) status old new = SavesIn state.chain state.rows status old new

-- a map of a chain, opened with rows that are loaded of these bytes
pub record IsOpened (chain : List ℕ) (known : Option (List ℕ)) (bytes : List ℕ) (state : MapState) : Type 0 where
  pub rows : Rows
  pub loaded : IsLoaded (record { 0 = chain }) bytes rows
  pub state_is : state ≡ begun chain known rows

-- a closed handle is opened with a map of these bytes; or they are of none, or memory ran out, and it stays closed
abbrev pub LoadsNew : List ℕ → Option (List ℕ) → List ℕ → ℕ → Option MapState → Type 0
LoadsNew chain known bytes status None =
    ((status ≡ number_of faults.NotSaved) × IsNotSaved (record { 0 = chain }) bytes) ⊎ (status ≡ no_memory)
LoadsNew chain known bytes status (Some state) = (status ≡ 0) × IsOpened chain known bytes state

abbrev pub Loads : List ℕ → Option (List ℕ) → List ℕ → ℕ → Option MapState → Option MapState → Type 0
Loads chain known bytes status None new = LoadsNew chain known bytes status new
Loads chain known bytes status (Some old) new = (status ≡ number_of faults.Open) × (new ≡ Some old)
