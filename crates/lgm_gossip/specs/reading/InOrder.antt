-- Reading fields in order, in a `do` block: each line reads and names a field, and the last line makes the message.
use Rattle.std.specs.Prelude.{ℕ, List, Result}
use Rattle.lgm_gossip.specs.declared.fault.DecodeFault.{DecodeFault}
use Rattle.lgm_gossip.specs.reading.FieldReading.{read_on}

infixl 10 ◌>>=◌
abbrev pub ◌>>=◌ : {A M : Type 0} → (List ℕ → Result (A × List ℕ) DecodeFault)
    → (A → List ℕ → Result M DecodeFault) → List ℕ → Result M DecodeFault
field >>= others = read_on field others
