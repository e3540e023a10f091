-- Sorted lists of edges.
use Rattle.std.specs.Prelude.{◌≡◌, ◌≢◌, ◌⊎◌, ℕ, Bool, List, [], ◌∷◌, ◌++◌, Option, filter, option_to_list}
use Rattle.std.specs.List.{AllByRecursion}
use Rattle.std.specs.declared.cmp.Ordering.{Ordering}
use Rattle.std.specs.declared.cmp.Ordering.TheVariants.{Less, Greater}
use Rattle.std.specs.Ordering.{is_lt, is_gt}
use Rattle.lgm_store.specs.Keys.{direction_cmp}
use Rattle.lgm_graph.specs.Edges.{PointEdge}
use Rattle.lgm_graph.specs.declared.edge.Edge.{Edge}

-- the order of an edge between points relative to an id and direction
abbrev pub to_key : ℕ → Bool → PointEdge → Ordering
to_key id second edge = direction_cmp (edge.scid, edge.second) (id, second)

-- that of an edge between numbered nodes
abbrev pub edge_key : ℕ → Bool → Edge → Ordering
edge_key id second edge = direction_cmp (edge.scid, edge.second) (id, second)

-- along the list the results are Less, then at most once Equal, and then Greater
abbrev pub IsCut : {X : Type 0} → (X → Ordering) → List X → Type 0
IsCut f [] = Unit {0}
IsCut f (x ∷ xs) = ((f x ≡ Less) × IsCut f xs) ⊎ ((f x ≢ Less) × AllByRecursion (λ y. f y ≡ Greater) xs)

-- what is Less, then the new element, if any, then what is Greater
abbrev pub put_at : {X : Type 0} → (X → Ordering) → List X → Option X → List X
put_at f xs new = filter (λ x. is_lt (f x)) xs ++ option_to_list new ++ filter (λ x. is_gt (f x)) xs
