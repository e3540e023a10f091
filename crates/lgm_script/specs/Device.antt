-- What contracts see of a device, and the effect of a read or a write on it.
use Rattle.std.specs.Prelude.{◌≡◌, ℕ, ◌≤◌, List, [], ◌∷◌, ◌++◌, length, take, drop}
use Rattle.std.specs.Prelude.{Option, Result, Ok, Err, IfSome, ◌==◌, if◌then◌else◌}
use Rattle.std.specs.Option.{option_map}
use Rattle.lgm_script.specs.declared.devices.device.Failed.{Failed}

-- a source: the bytes left, if the device specifies them, and how often it failed
pub record Input : Type 0 where
  pub left : Option (List ℕ)
  pub failures : ℕ

-- a sink: the bytes accepted so far, if the device specifies them, and how often it failed
pub record Written : Type 0 where
  pub taken : Option (List ℕ)
  pub failures : ℕ

-- the first n of the remaining bytes were moved to the start of the buffer; an Err moves nothing
abbrev pub Reads : Option (List ℕ) → Option (List ℕ) → Result ℕ Failed → List ℕ → Type 0
Reads old new (Ok n) buffer =
    (new ≡ option_map (drop n) old) × IfSome old (λ left. (n ≤ length left) × (take n buffer ≡ take n left))
Reads old new (Err e) buffer = new ≡ old

-- no byte is left, if the device specifies that
abbrev pub IsAtEnd : Option (List ℕ) → Type 0
IsAtEnd left = IfSome left (λ bytes. bytes ≡ [])

-- these bytes were accepted after the ones before
abbrev pub Appends : Option (List ℕ) → Option (List ℕ) → List ℕ → Type 0
Appends old new bytes = new ≡ option_map (λ taken. taken ++ bytes) old

-- a prefix of these bytes was
abbrev pub AppendsSome : Option (List ℕ) → Option (List ℕ) → List ℕ → Type 0
AppendsSome old new bytes = (n : ℕ) × Appends old new (take n bytes)

-- the first n of the bytes were accepted; an Err accepts none
abbrev pub Writes : Option (List ℕ) → Option (List ℕ) → Result ℕ Failed → List ℕ → Type 0
Writes old new (Ok n) bytes = Appends old new (take n bytes)
Writes old new (Err e) bytes = new ≡ old

-- how many failures a read adds to the count
abbrev pub read_failures : Result ℕ Failed → ℕ
read_failures (Ok n) = 0
read_failures (Err e) = 1

-- how many a write adds: a non-empty write that accepts no byte is a failure, too
abbrev pub write_failures : Result ℕ Failed → List ℕ → ℕ
write_failures (Ok n) [] = 0
write_failures (Ok n) (b ∷ bs) = if n == 0 then 1 else 0
write_failures (Err e) bytes = 1
