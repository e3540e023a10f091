-- The contents of the caller's buffers after a call.
use Rattle.std.specs.Prelude.{◌≡◌, ◌⊎◌, ℕ, ◌<◌, ◌^◌, List, ◌++◌, length, drop, Option, Some, None, Result, Ok, Err}
use Rattle.std.specs.Int.{w64, to_le_bytes}
use Rattle.std.specs.List.{flat_map}
use Rattle.lgm_gossip.specs.Memory.{TakesMemory}
use Rattle.lgm_c.specs.declared.fault.Fault.{Fault}
use Rattle.lgm_c.specs.declared.fault.Fault.TheVariants as faults
use Rattle.lgm_c.specs.Status.{number_of, no_memory, MayRunOut}

-- items at the front of a buffer, whose rest is unchanged
abbrev pub in_front : {A : Type 0} → List A → List A → List A
in_front items room = items ++ drop (length items) room

-- a message after its length, eight bytes, little-endian
abbrev pub framed : List ℕ → List ℕ
framed message = to_le_bytes w64 (length message) ++ message

-- messages, each after its length
abbrev pub all_framed : List (List ℕ) → List ℕ
all_framed messages = flat_map framed messages

-- a buffer, and the length that is written beside it
pub record Buffer : Type 0 where
  pub room : List ℕ
  pub needed : ℕ

abbrev pub buffer : List ℕ → ℕ → Buffer
buffer room needed = record { room = room; needed = needed }

-- the bytes were written, or only their length if the buffer is too short
abbrev pub IsWritten : List ℕ → ℕ → Buffer → Buffer → Type 0
IsWritten bytes status old new =
    (new.needed ≡ length bytes)
    × (((status ≡ 0) × (new.room ≡ in_front bytes old.room))
    ⊎ ((status ≡ number_of faults.Room) × (length old.room < length bytes) × (new.room ≡ old.room)))

-- bytes for which the buffer has no room, and whose length has eight bytes
abbrev pub IsCramped : List ℕ → List ℕ → Type 0
IsCramped bytes room = (length room < length bytes) × (length bytes < 2 ^ 64)

-- an answer was written, or its fault was returned
abbrev pub Writes : Result (List ℕ) Fault → ℕ → Buffer → Buffer → Type 0
Writes (Ok bytes) status old new = IsWritten bytes status old new
Writes (Err fault) status old new = (status ≡ number_of fault) × (new ≡ old)

-- the same for the answer to a message, or out of memory; a fault is returned even if memory is short, unless decoding
-- the message allocates
abbrev pub WritesAnswer : List ℕ → Result (List ℕ) Fault → ℕ → Buffer → Buffer → Type 0
WritesAnswer message answer status old new =
    Writes answer status old new ⊎ (MayRunOut (TakesMemory message) answer × (status ≡ no_memory) × (new ≡ old))

-- a handle answers a message; a closed one has only its fault
abbrev pub Answers : {H : Type 0} → List ℕ → Option H → (H → Result (List ℕ) Fault) → ℕ → Buffer → Buffer → Type 0
Answers message None answer status old new = Writes (Err faults.Closed) status old new
Answers message (Some state) answer status old new = WritesAnswer message (answer state) status old new
