-- Feature bits (BOLT 9, "Assigned feature flags").
use Rattle.std.specs.Prelude.{ℕ, Bool, not, nat_eq, List, bit_and}
use Rattle.std.specs.List.{list_any}

-- whether an even bit is set: bits are numbered from the least significant bit of the last byte, so the even ones are
-- those of 0x55 in each byte
abbrev pub has_even_bit : List ℕ → Bool
has_even_bit features = list_any (λ byte. not (nat_eq (bit_and byte 0x55) 0)) features
