-- Reading values in order, in a `do` block: each line reads and names a value, and the last line says what they make.
use Rattle.lgm_payer_state.specs.reading.Reading.{Reader, read_on}

infixl 10 ◌>>=◌
abbrev pub ◌>>=◌ : {A B : Type 0} → Reader A → (A → Reader B) → Reader B
field >>= others = read_on field others
