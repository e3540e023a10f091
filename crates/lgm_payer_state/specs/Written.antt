-- What is written.
use Rattle.std.specs.Prelude.{◌≡◌, ℕ, Bool, List, ◌++◌, length, Ok, if◌then◌else◌}
use Rattle.std.specs.List.{flat_map}
use Rattle.std.specs.Int.{Width, w8, w64, to_be_bytes}
use Rattle.lgm_payer_state.specs.reading.Reading.{Reader}

-- the bytes of a value are read as it, whatever is behind them
abbrev pub IsBack : {A : Type 0} → (A → List ℕ) → Reader A → A → Type 0
IsBack bytes_of read_at x = (rest : List ℕ) → read_at (bytes_of x ++ rest) ≡ Ok (x, rest)

-- the bytes of a value were written behind what was there, and are read as it
pub record IsWritten {A : Type 0} (bytes_of : A → List ℕ) (read_at : Reader A) (x : A) (old new : List ℕ) : Type 0 where
  pub written : new ≡ old ++ bytes_of x
  pub back : IsBack bytes_of read_at x

-- a number of fixed width, big-endian, as in BOLT 1
unfoldable pub number_bytes : Width → ℕ → List ℕ
number_bytes w number = to_be_bytes w number

-- whether something is so: 1, or else 0
unfoldable pub flag_bytes : Bool → List ℕ
flag_bytes flag = number_bytes w8 (if flag then 1 else 0)

-- how many bytes there are, and then these
unfoldable pub counted_bytes : List ℕ → List ℕ
counted_bytes bytes = number_bytes w64 (length bytes) ++ bytes

-- how many there are, and then each
unfoldable pub list_bytes : {A : Type 0} → (A → List ℕ) → List A → List ℕ
list_bytes bytes_of xs = number_bytes w64 (length xs) ++ flat_map bytes_of xs
