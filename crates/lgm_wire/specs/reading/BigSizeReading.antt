-- How a BigSize is read (exact, for readers built on it): from left to right, up to the first
-- fault.
use Rattle.std.specs.Prelude.{ℕ, List, [], ◌∷◌, ◌-◌, length, take, drop, Result}
use Rattle.std.specs.Prelude.{Ok, Err, nat_lt, ◌==◌, if◌then◌else◌}
use Rattle.std.specs.Int.{Width, w16, w32, w64, byte_len, from_be_bytes}
use Rattle.lgm_wire.specs.declared.fault.WireFault.{WireFault}
use Rattle.lgm_wire.specs.declared.fault.WireFault.TheVariants.{Cut, NotMinimal}
use Rattle.lgm_wire.specs.reading.Reading.{◌>>=◌}

-- after the first byte of a long form: a number of at least the given value, and the bytes after it
abbrev pub long_form_at : Width → ℕ → List ℕ → Result (ℕ × List ℕ) WireFault
long_form_at w least bytes =
    if nat_lt (length bytes) (byte_len w) then Err Cut
    else if nat_lt (from_be_bytes w (take (byte_len w) bytes)) least then Err NotMinimal
    else Ok (from_be_bytes w (take (byte_len w) bytes), drop (byte_len w) bytes)

-- the leading number, and the bytes after it
unfoldable pub bigsize_at : List ℕ → Result (ℕ × List ℕ) WireFault
bigsize_at [] = Err Cut
bigsize_at (first ∷ rest) =
    if nat_lt first 0xfd then Ok (first, rest)
    else if first == 0xfd then long_form_at w16 0xfd rest
    else if first == 0xfe then long_form_at w32 0x10000 rest
    else long_form_at w64 0x100000000 rest

-- the leading number, and its length in bytes
abbrev pub bigsize_with_len : List ℕ → Result (ℕ × ℕ) WireFault
bigsize_with_len bytes = do
  x ← bigsize_at bytes
  Ok (x.0, length bytes - length x.1)
