-- Which bytes allocate when they are read: those of a message with a list that isn't empty.
use Rattle.std.specs.Prelude.{◌≡◌, ℕ, ◌+◌, ◌*◌, ◌<◌, ◌≤◌, ◌⊎◌, List, [], ◌∷◌, length, Result, Ok, Err}

-- the result is that of the reading, or out of memory if something was to be allocated
abbrev pub GivesIf : {X Y E : Type 0} → Type 0 → E → (X → Y) → Result X E → Result Y E → Type 0
GivesIf asks no_memory view (Ok x) read = read ≡ Ok (view x)
GivesIf asks no_memory view (Err e) read = (asks × (e ≡ no_memory)) ⊎ (read ≡ Err e)

-- reading the bytes after the type allocates: a query or a reply is longer than one without ids and records
abbrev pub BodyTakesMemory : ℕ → List ℕ → Type 0
BodyTakesMemory kind body =
    ((kind ≡ 261) × (35 < length body))
    ⊎ ((kind ≡ 263) × (40 < length body))
    ⊎ ((kind ≡ 264) × (44 < length body))

abbrev pub TypedTakesMemory : List ℕ → Type 0
TypedTakesMemory [] = ⊥
TypedTakesMemory (high ∷ []) = ⊥
TypedTakesMemory (high ∷ low ∷ body) = BodyTakesMemory (high * 256 + low) body

-- bytes within the limit whose body allocates
abbrev pub TakesMemory : List ℕ → Type 0
TakesMemory bytes = (length bytes ≤ 65535) × TypedTakesMemory bytes
