-- Encodings (the promise): a BigSize is a number in the shortest of four forms: one byte below
-- 0xfd, or a first byte 0xfd, 0xfe or 0xff with two, four or eight bytes.
use Rattle.std.specs.Prelude.{◌≡◌, ℕ, ◌<◌, ◌^◌, List, [], ◌∷◌, take, nat_lt, ◌==◌, if◌then◌else◌}
use Rattle.std.specs.Int.{w16, w32, w64, from_be_bytes, to_be_bytes}

-- the encoding of a number, one line per form
abbrev pub bigsize_bytes : ℕ → List ℕ
bigsize_bytes number =
    if nat_lt number 0xfd then number ∷ []
    else if nat_lt number 0x10000 then 0xfd ∷ to_be_bytes w16 number
    else if nat_lt number 0x100000000 then 0xfe ∷ to_be_bytes w32 number
    else 0xff ∷ to_be_bytes w64 number

-- the bytes are the encoding of the number
abbrev pub IsBigSize : ℕ → List ℕ → Type 0
IsBigSize number bytes = (number < 2 ^ 64) × (bytes ≡ bigsize_bytes number)

-- the length that the first byte calls for
abbrev pub form_len : List ℕ → ℕ
form_len [] = 1
form_len (first ∷ rest) =
    if nat_lt first 0xfd then 1 else if first == 0xfd then 3 else if first == 0xfe then 5 else 9

-- the number in that form, which may not be the shortest
abbrev pub form_value : List ℕ → ℕ
form_value [] = 0
form_value (first ∷ rest) =
    if nat_lt first 0xfd then first
    else if first == 0xfd then from_be_bytes w16 (take 2 rest)
    else if first == 0xfe then from_be_bytes w32 (take 4 rest)
    else from_be_bytes w64 (take 8 rest)
