-- The nodes that a forward search reached, by number.
use Rattle.std.specs.Prelude.{ℕ, ◌-◌, ◌^◌, Bool, false, List, map, Option, Some, None}
use Rattle.lgm_graph.specs.Places.{AreByNumber, NodeTable, at_place, value_of}
use Rattle.lgm_route.specs.declared.reached_nodes.Reached.{Reached}

-- what is known of the nodes that were reached, by number
abbrev pub Table : Type 0
Table = NodeTable Reached

-- what is known of a node, if it was reached
abbrev pub found : Table → ℕ → Option Reached
found table node = value_of table node

abbrev pub fees_by : Option Reached → ℕ
fees_by None = 2 ^ 64 - 1
fees_by (Some reached) = reached.fees

abbrev pub closed_by : Option Reached → Bool
closed_by None = false
closed_by (Some reached) = reached.is_closed

-- the fees to each node, and which nodes are closed
abbrev pub fees_in : Table → List ℕ
fees_in table = map (λ place. fees_by (at_place table.nodes place)) table.places

abbrev pub closed_in : Table → List Bool
closed_in table = map (λ place. closed_by (at_place table.nodes place)) table.places

-- each place is that of its node
abbrev pub ArePlaced : Table → Type 0
ArePlaced table = AreByNumber (λ (reached : Reached). reached.node) table
