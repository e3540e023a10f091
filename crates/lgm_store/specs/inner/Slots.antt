-- Values in slots, found by a tree from key to slot number.
use Rattle.std.specs.Prelude.{◌≡◌, ℕ, cond, List, [], ◌∷◌, ◌++◌, Option, Some, None, slice_index_or}
use Rattle.std.specs.Option.{option_map}
use Rattle.std.specs.List.{AllByRecursion}
use Rattle.std.specs.List.Sorted.{IsStrictlySortedBy}
use Rattle.std.specs.Map.{lookup, keys_of}
use Rattle.std.specs.BTreeMap.{is_at, insert_entry}
use Rattle.std.specs.declared.cmp.Ordering.{Ordering}
use Rattle.slab.specs.Slab.{Slab, Updates}

-- the value in a slot, if it is occupied
abbrev pub slot_at : {V : Type 0} → List (Option V) → ℕ → Option V
slot_at slots number = slice_index_or slots number None

-- a key with the value in its slot
abbrev pub entry_in : {K V : Type 0} → K → Option V → List (K × V)
entry_in key None = []
entry_in key (Some stored) = (key, stored) ∷ []

-- the keys with the values in their slots
abbrev pub entries_in : {K V : Type 0} → List (Option V) → List (K × ℕ) → List (K × V)
entries_in slots [] = []
entries_in slots (e ∷ es) = entry_in e.0 (slot_at slots e.1) ++ entries_in slots es

-- the slot of each key has the value with that key
abbrev pub HaveOwn : {K V : Type 0} → (V → K) → List (Option V) → List (K × ℕ) → Type 0
HaveOwn key_of slots numbers = AllByRecursion (λ e. option_map key_of (slot_at slots e.1) ≡ Some e.0) numbers

-- each occupied slot is the slot of its value's key
abbrev pub AreListed : {K V : Type 0} → (K → K → Ordering) → (V → K) → List (Option V) → List (K × ℕ) → Type 0
AreListed {K} cmp key_of slots numbers =
    (number : ℕ) (key : K) → option_map key_of (slot_at slots number) ≡ Some key
    → lookup (is_at (cmp key)) numbers ≡ Some number

-- tree and slots agree one to one
pub record IsNumbered {K V : Type 0} (cmp : K → K → Ordering) (key_of : V → K) (slots : List (Option V)) (numbers : List (K × ℕ)) : Type 0 where
  pub own : HaveOwn key_of slots numbers
  pub listed : AreListed cmp key_of slots numbers
  pub ascend : IsStrictlySortedBy cmp (keys_of numbers)

-- tree and slots are the same
pub record AreSame {K V : Type 0} (old new : Slab V) (numbers numbers' : List (K × ℕ)) : Type 0 where
  pub same_slots : new.slots ≡ old.slots
  pub same_numbers : numbers' ≡ numbers

-- a value was added under a new key
pub record IsAdded {K V : Type 0} (cmp : K → K → Ordering) (old new : Slab V) (numbers numbers' : List (K × ℕ))
    (key : K) (value : V) : Type 0 where
  pub number : ℕ
  pub vacant : slot_at old.slots number ≡ None
  pub updates : Updates old new number (Some value)
  pub none : lookup (is_at (cmp key)) numbers ≡ None
  pub entries : numbers' ≡ insert_entry cmp numbers key number
  pub ascend : IsStrictlySortedBy cmp (keys_of numbers')
  pub finds : (q : K) → lookup (is_at (cmp q)) numbers' ≡ cond (is_at (cmp key) q) (Some number) (lookup (is_at (cmp q)) numbers)

-- a value was returned, with the number of the slot of its key's
pub record IsFound {K V : Type 0} (cmp : K → K → Ordering) (old new : Slab V) (numbers numbers' : List (K × ℕ))
    (key : K) (value : V) (found : ℕ × V) : Type 0 where
  pub own : lookup (is_at (cmp key)) numbers ≡ Some found.0
  pub same_value : found.1 ≡ value
  pub same_slots : new.slots ≡ old.slots
  pub same_numbers : numbers' ≡ numbers

-- a value was added, or returned since its key has one
abbrev pub Places : {K V : Type 0} → (K → K → Ordering) → (V → K) → Slab V → Slab V
    → List (K × ℕ) → List (K × ℕ) → V → Option (ℕ × V) → Type 0
Places cmp key_of old new numbers numbers' value None = IsAdded cmp old new numbers numbers' (key_of value) value
Places cmp key_of old new numbers numbers' value (Some found) = IsFound cmp old new numbers numbers' (key_of value) value found
