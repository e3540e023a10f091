-- Reading leading fields: a value and the bytes after it, or the first fault.
use Rattle.std.specs.Prelude.{ℕ, List, [], length, take, drop, Result, Ok, Err, nat_lt, nat_le, if◌then◌else◌}
use Rattle.std.specs.Int.{Width, w16, byte_len, from_be_bytes}
use Rattle.lgm_wire.specs.reading.Reading.{◌>>=◌}
use Rattle.lgm_gossip.specs.declared.fault.DecodeFault.{DecodeFault}
use Rattle.lgm_gossip.specs.declared.fault.DecodeFault.TheVariants.{Cut}

-- a field of n bytes
abbrev pub fixed_at : ℕ → List ℕ → Result (List ℕ × List ℕ) DecodeFault
fixed_at n bytes = if nat_lt (length bytes) n then Err Cut else Ok (take n bytes, drop n bytes)

-- a number of fixed width
abbrev pub number_at : Width → List ℕ → Result (ℕ × List ℕ) DecodeFault
number_at w bytes =
    if nat_lt (length bytes) (byte_len w) then Err Cut
    else Ok (from_be_bytes w (take (byte_len w) bytes), drop (byte_len w) bytes)

-- a field after its length of two bytes
abbrev pub counted_at : List ℕ → Result (List ℕ × List ℕ) DecodeFault
counted_at bytes = do
  n ← number_at w16 bytes
  fixed_at n.0 n.1

-- the same, whose bytes are read in turn
abbrev pub enclosed_at : {A : Type 0} → (List ℕ → Result A DecodeFault) → List ℕ
    → Result (A × List ℕ) DecodeFault
enclosed_at read bytes = counted_at bytes >>= λ text. read text.0 >>= λ x. Ok (x, text.1)

-- all remaining bytes
abbrev pub rest_at : List ℕ → Result (List ℕ × List ℕ) DecodeFault
rest_at bytes = Ok (bytes, [])

-- a field, and then the others, which may depend on its value
abbrev pub read_on : {A M : Type 0} → (List ℕ → Result (A × List ℕ) DecodeFault)
    → (A → List ℕ → Result M DecodeFault) → List ℕ → Result M DecodeFault
read_on field others = λ bytes. field bytes >>= λ x. others x.0 x.1

-- the message that the fields make; remaining bytes are dropped
abbrev pub made : {M : Type 0} → M → List ℕ → Result M DecodeFault
made m = λ bytes. Ok m

-- the message whose fields are at their offsets, if the bytes are as long as all of them
abbrev pub laid_out : {M : Type 0} → ℕ → M → List ℕ → Result M DecodeFault
laid_out len m raw = if nat_le len (length raw) then Ok m else Err Cut
