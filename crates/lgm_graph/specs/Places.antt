-- Values of some of the nodes of a graph: by node number the place of a value, from 1, or 0 if the node has none.
use Rattle.std.specs.Prelude.{◌≡◌, ℕ, suc, zero, ◌^◌, ◌<◌, List, [], ◌∷◌, length, Option, Some, None, slice_get, slice_index_or}

-- the value at a place
abbrev pub at_place : {X : Type 0} → List X → ℕ → Option X
at_place xs zero = None
at_place xs (suc k) = slice_get xs k

-- the number of places
abbrev pub used_places : List ℕ → ℕ
used_places [] = 0
used_places (zero ∷ places) = used_places places
used_places (suc k ∷ places) = suc (used_places places)

-- places by node number, and the values
pub record NodeTable (X : Type 0) : Type 0 where
  pub places : List ℕ
  pub nodes : List X

abbrev pub place_of : {X : Type 0} → NodeTable X → ℕ → ℕ
place_of table number = slice_index_or table.places number 0

-- the value of a node, if it has one
abbrev pub value_of : {X : Type 0} → NodeTable X → ℕ → Option X
value_of table number = at_place table.nodes (place_of table number)

-- each place is that of its node, which the value there names
pub record AreByNumber {X : Type 0} (number_in : X → ℕ) (table : NodeTable X) : Type 0 where
  pub own : (number k : ℕ) → place_of table number ≡ suc k
      → (value : X) × (slice_get table.nodes k ≡ Some value) × (number_in value ≡ number)
  pub count : length table.nodes ≡ used_places table.places
  pub few : length table.places < 2 ^ 32
