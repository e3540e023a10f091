-- The edges of a view, node by node.
use Rattle.std.proofs.Common.{◌≡◌, ℕ, ◌+◌, ◌-◌, ◌<◌, ◌≤◌, false, List, [], ◌∷◌, ◌++◌, length, drop}
use Rattle.std.proofs.Common.{get_or, zero, suc, refl, sym, ap, ◌∙◌, Some, None, arith, length-append}
use Rattle.std.specs.List.{flat_map, slice_get}
use Rattle.lgm_graph.specs.declared.edge.Edge.{Edge}
use Rattle.lgm_graph.specs.Graph.{Graph, AreListed, bare_node, open_into, edges, edges_into}

-- the edges into the nodes from a number on
abbrev pub edges_from : Graph → ℕ → List Edge
edges_from graph number = flat_map open_into (drop number graph.nodes)

drop_next : {X : Type 0} (xs : List X) (n : ℕ) (d : X) → n < length xs → drop n xs ≡ get_or xs n d ∷ drop (suc n) xs
drop_next [] n d lt = absurd (omega (arith, lt))
drop_next (x ∷ xs) zero d lt = refl
drop_next (x ∷ xs) (suc n) d lt = drop_next xs n d (omega (arith, lt))

drop_done : {X : Type 0} (xs : List X) (n : ℕ) → length xs ≤ n → drop n xs ≡ []
drop_done [] zero le = refl
drop_done [] (suc n) le = refl
drop_done (x ∷ xs) zero le = absurd (omega (arith, le))
drop_done (x ∷ xs) (suc n) le = drop_done xs n (omega (arith, le))

module _ (graph : Graph) (listed : AreListed graph) where
  pub edges_next : (n : ℕ) → n < length graph.points → edges_from graph n ≡ edges_into graph n ++ edges_from graph (suc n)
  edges_next n lt = let long = listed.long in ap (flat_map open_into) (drop_next graph.nodes n (bare_node false) (omega (arith, lt, long)))

  pub edges_done : (n : ℕ) → length graph.points ≤ n → edges_from graph n ≡ []
  edges_done n le = let long = listed.long in ap (flat_map open_into) (drop_done graph.nodes n (omega (arith, le, long)))

module _ {X : Type 0} where
  pub get_left : (xs ys : List X) (i : ℕ) (d : X) → i < length xs → slice_get (xs ++ ys) i ≡ Some (get_or xs i d)
  get_left [] ys i d lt = absurd (omega (arith, lt))
  get_left (x ∷ xs) ys zero d lt = refl
  get_left (x ∷ xs) ys (suc i) d lt = get_left xs ys i d (omega (arith, lt))

  pub get_right : (xs ys : List X) (i j : ℕ) → i ≡ length xs + j → slice_get (xs ++ ys) i ≡ slice_get ys j
  get_right [] ys i j is = let same : i ≡ j = omega (arith, is) in ap (slice_get ys) same
  get_right (x ∷ xs) ys zero j is = absurd (omega (arith, is))
  get_right (x ∷ xs) ys (suc i) j is = get_right xs ys i j (omega (arith, is))

module _ (graph : Graph) (listed : AreListed graph) (place left n : ℕ)
    (here : slice_get (edges graph) place ≡ slice_get (edges_from graph n) left) where
  -- the edge is at this node
  pub edge_here : (some : List Edge) (edge : Edge) → n < length graph.points → some ≡ edges_into graph n
      → left < length some → edge ≡ get_or some left edge
      → slice_get (edges graph) place ≡ Some edge
  edge_here some edge lt is within own =
      here ∙ ap (λ ls. slice_get ls left) (edges_next graph listed n lt ∙ ap (λ ls. ls ++ edges_from graph (suc n)) (sym is))
      ∙ get_left some (edges_from graph (suc n)) left edge within ∙ ap Some (sym own)

  -- it is at a later one
  pub edge_later : (some : List Edge) → n < length graph.points → some ≡ edges_into graph n → length some
      ≤ left → slice_get (edges graph) place ≡ slice_get (edges_from graph (suc n)) (left - length some)
  edge_later some lt is beyond =
      here ∙ ap (λ ls. slice_get ls left) (edges_next graph listed n lt ∙ ap (λ ls. ls ++ edges_from graph (suc n)) (sym is))
      ∙ get_right some (edges_from graph (suc n)) left (left - length some) (omega (arith, beyond))

  -- there is none
  pub edge_none : length graph.points ≤ n → slice_get (edges graph) place ≡ None
  edge_none le =
      here ∙ ap (λ ls. slice_get ls left) (edges_done graph listed n le)

-- one more node's edges are counted
pub counted_more : (graph : Graph) → AreListed graph → (n before : ℕ) (some : List Edge) → n < length graph.points → some ≡ edges_into graph n
    → length (edges graph) ≡ before + length (edges_from graph n) → length (edges graph) ≡ (before + length some) + length (edges_from graph (suc n))
counted_more graph listed n before some lt is whole =
    omega (arith, whole, ap length (edges_next graph listed n lt), ap length is, length-append (edges_into graph n) (edges_from graph (suc n)))

pub counted_all : (graph : Graph) → AreListed graph → (n before : ℕ) → length graph.points ≤ n
    → length (edges graph) ≡ before + length (edges_from graph n) → length (edges graph) ≡ before
counted_all graph listed n before le whole =
    omega (arith, whole, ap length (edges_done graph listed n le))
