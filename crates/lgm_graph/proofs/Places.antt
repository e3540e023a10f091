-- One element of a list, and one node of a graph.
use Rattle.std.proofs.Common.{◌≡◌, ℕ, ◌<◌, List, [], ◌∷◌, length, map, set, get_or, false, zero, suc, refl, sym, ap, ◌∙◌, arith}
use Rattle.std.proofs.lemmas.List.{map-set}
use Rattle.lgm_graph.specs.declared.node.Node.{Node}
use Rattle.lgm_graph.specs.Graph.{GraphNode, bare_node}
use Rattle.lgm_graph.specs.inner.Sound.{node_in, change_at}

-- the element at an index, through a map
pub get_map : {X Y : Type 0} (f : X → Y) (xs : List X) (n : ℕ) (d : X) (e : Y) → n < length xs → get_or (map f xs) n e ≡ f (get_or xs n d)
get_map f [] n d e lt = absurd (omega (arith, lt))
get_map f (x ∷ xs) zero d e lt = refl
get_map f (x ∷ xs) (suc n) d e lt = get_map f xs n d e (omega (arith, lt))

pub set_same : {X : Type 0} (xs : List X) (n : ℕ) (d : X) → set xs n (get_or xs n d) ≡ xs
set_same [] n d = refl
set_same (x ∷ xs) zero d = refl
set_same (x ∷ xs) (suc n) d = ap (λ l. x ∷ l) (set_same xs n d)

module _ (items : List Node) (n : ℕ) (x w : Node) (within : n < length items) (is : x ≡ get_or items n x) where
  -- what is there
  pub node_there : node_in x ≡ get_or (map node_in items) n (bare_node false)
  node_there = ap node_in is ∙ sym (get_map node_in items n x (bare_node false) within)

  -- the node changes
  pub node_edit : (g : GraphNode → GraphNode) → node_in w ≡ g (node_in x)
      → map node_in (set items n w) ≡ change_at n g (map node_in items)
  node_edit g edit = map-set node_in items n w ∙ ap (set (map node_in items) n) (edit ∙ ap g node_there)

  -- nothing visible changes
  pub node_alike : node_in w ≡ node_in x → map node_in (set items n w) ≡ map node_in items
  node_alike same = node_edit (λ node. node) same ∙ set_same (map node_in items) n (bare_node false)
