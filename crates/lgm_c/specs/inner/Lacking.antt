-- What writing channels may do.
use Rattle.std.specs.Prelude.{◌≡◌, ◌⊎◌, ℕ, List}
use Rattle.lgm_c.specs.declared.syncing.LgmLacking.{LgmLacking}
use Rattle.lgm_c.specs.Status.{no_memory}
use Rattle.lgm_c.specs.Syncing.{Channels, AreWritten}

-- channels were written, or how many there are alone, or the call ran out of memory and changed nothing
abbrev pub MayList : List LgmLacking → ℕ → Channels → Channels → Type 0
MayList found status old new = AreWritten found status old new ⊎ ((status ≡ no_memory) × (new ≡ old))
