-- Reading from left to right: a value at the front of bytes and the bytes behind it, or a fault.
use Rattle.std.specs.Prelude.{ℕ, zero, suc, Bool, true, false, ◌==◌, List, [], ◌∷◌, length, take, drop, Result, Ok, Err, nat_lt, if◌then◌else◌}
use Rattle.std.specs.Int.{Width, w8, w64, byte_len, from_be_bytes}
use Rattle.lgm_wire.specs.reading.Reading.{◌>>=◌}
use Rattle.lgm_payer_state.specs.declared.state_fault.StateFault.{StateFault}
use Rattle.lgm_payer_state.specs.declared.state_fault.StateFault.TheVariants.{Damaged}

abbrev pub Reader : Type 0 → Type 0
Reader A = List ℕ → Result (A × List ℕ) StateFault

-- so many bytes
unfoldable pub fixed_at : ℕ → Reader (List ℕ)
fixed_at n bytes = if nat_lt (length bytes) n then Err Damaged else Ok (take n bytes, drop n bytes)

-- a number of fixed width, big-endian
unfoldable pub number_at : Width → Reader ℕ
number_at w bytes =
    if nat_lt (length bytes) (byte_len w) then Err Damaged
    else Ok (from_be_bytes w (take (byte_len w) bytes), drop (byte_len w) bytes)

-- one value, and then others, which may depend on it
abbrev pub read_on : {A B : Type 0} → Reader A → (A → Reader B) → Reader B
read_on field others = λ bytes. field bytes >>= λ x. others x.0 x.1

-- the value that those before make
abbrev pub made : {A : Type 0} → A → Reader A
made x = λ bytes. Ok (x, bytes)

-- no value
abbrev pub refused : {A : Type 0} → Reader A
refused = λ bytes. Err Damaged

-- a value, if it passes a test
abbrev pub made_if : {A : Type 0} → Bool → A → Reader A
made_if passes x = if passes then made x else refused

-- what a check of values leaves
abbrev pub made_of : {A : Type 0} → Result A StateFault → Reader A
made_of checked = λ bytes. checked >>= λ x. Ok (x, bytes)

abbrev pub flag_of : ℕ → Reader Bool
flag_of number = if number == 0 then made false else made_if (number == 1) true

-- whether something is so
unfoldable pub flag_at : Reader Bool
flag_at = read_on (number_at w8) flag_of

-- bytes behind their number
unfoldable pub counted_at : Reader (List ℕ)
counted_at = read_on (number_at w64) fixed_at

-- so many values
abbrev pub times_at : {A : Type 0} → Reader A → ℕ → Reader (List A)
times_at read zero bytes = Ok ([], bytes)
times_at read (suc n) bytes = read bytes >>= λ x. times_at read n x.1 >>= λ xs. Ok (x.0 ∷ xs.0, xs.1)

-- values behind their number
unfoldable pub list_at : {A : Type 0} → Reader A → Reader (List A)
list_at read = read_on (number_at w64) (times_at read)
