-- What options say, from the digits that a command line has for them.
use Rattle.std.specs.Prelude.{◌≡◌, ◌≤◌, ◌<◌, ◌⊎◌, ℕ, List, Option, Some, None, Ok, IsErr, length}
use Rattle.std.specs.Str.Parse.{IsNumeral, digits_value, without_leading_plus}
use Rattle.hex.specs.Hex.{decode_of, decode_sized}
use Rattle.lgm_wire.specs.declared.chain_hash.ChainHash.{ChainHash}

-- the digits spell the chain
abbrev pub AreChain : List ℕ → ChainHash → Type 0
AreChain digits chain = decode_sized digits 32 ≡ Ok chain.0

-- the digits spell no chain
abbrev pub AreNoChain : List ℕ → Type 0
AreNoChain digits = IsErr (decode_sized digits 32)

-- the digits, 2 to 512, spell the bits that are known, all of which are where there are none
abbrev pub AreKnown : Option (List ℕ) → Option (List ℕ) → Type 0
AreKnown None known = known ≡ None
AreKnown (Some digits) known = (bits : List ℕ) × (known ≡ Some bits) × (decode_of digits ≡ Ok bits)
    × (2 ≤ length digits) × (length digits ≤ 512)

-- there are digits, and they are too few, too many, or spell nothing
abbrev pub AreNotKnown : Option (List ℕ) → Type 0
AreNotKnown None = ⊥
AreNotKnown (Some digits) = (length digits < 2) ⊎ (512 < length digits) ⊎ IsErr (decode_of digits)

-- as many workers as a text says, from 1 to 64; four if there is none
abbrev pub AreWorkers : Option (List ℕ) → ℕ → Type 0
AreWorkers None workers = workers ≡ 4
AreWorkers (Some text) workers =
    let digits = without_leading_plus text in
    let number = digits_value 10 digits in
    IsNumeral 10 digits → 1 ≤ number → number ≤ 64 → workers ≡ number
