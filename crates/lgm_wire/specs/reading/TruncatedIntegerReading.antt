-- How a truncated integer is read (exact, for readers built on it), with the order of its faults.
use Rattle.std.specs.Prelude.{ℕ, Bool, false, List, [], ◌∷◌, length, Result}
use Rattle.std.specs.Prelude.{Ok, Err, nat_lt, ◌==◌, if◌then◌else◌}
use Rattle.lgm_wire.specs.declared.fault.WireFault.{WireFault}
use Rattle.lgm_wire.specs.declared.fault.WireFault.TheVariants.{TooLong, NotMinimal}
use Rattle.lgm_wire.specs.TruncatedInteger.{number_of}

abbrev pub starts_with_zero : List ℕ → Bool
starts_with_zero [] = false
starts_with_zero (digit ∷ digits) = digit == 0

-- the number that all of the bytes encode, at most the given number of bytes
abbrev pub truncated_of : ℕ → List ℕ → Result ℕ WireFault
truncated_of most bytes =
    if nat_lt most (length bytes) then Err TooLong
    else if starts_with_zero bytes then Err NotMinimal
    else Ok (number_of bytes)
