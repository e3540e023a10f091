-- How a view over an overlay is represented.
use Rattle.std.specs.Prelude.{◌≡◌, ◌≢◌, ◌⊎◌, ℕ, suc, ◌<◌, ◌==◌, Bool, true, false, ◌||◌, min, List, [], ◌∷◌, ◌++◌, map}
use Rattle.std.specs.Prelude.{fold, length, Option, Some, None, unwrap_or, Contains, slice_get, slice_index_or, ◌^◌, if◌then◌else◌}
use Rattle.std.specs.List.{list_any, filter_map}
use Rattle.std.specs.Map.{lookup}
use Rattle.std.specs.Ordering.{nat_cmp}
use Rattle.std.specs.BTreeMap.{is_at, insert_entry}
use Rattle.lgm_wire.specs.declared.point.Point.{Point}
use Rattle.lgm_store.specs.Rows.{is_point}
use Rattle.lgm_graph.specs.declared.edge.Edge.{Edge}
use Rattle.lgm_graph.specs.declared.overlay.Limit.{Limit}
use Rattle.lgm_graph.specs.declared.overlay_view.edge_terms.EdgeTerms.{EdgeTerms}
use Rattle.lgm_graph.specs.declared.overlay_view.lists.Edges.{Edges}
use Rattle.lgm_graph.specs.declared.overlay_view.overrides.Override.{Override}
use Rattle.lgm_graph.specs.declared.overlay_view.overrides.Override.TheVariants.{Silent, Limited, Leaving, Entering}
use Rattle.lgm_graph.specs.Edges.{PointEdge}
use Rattle.lgm_graph.specs.Graph.{Graph, GraphNode, bare_node, node_at, edges_leaving, edges_with}
use Rattle.lgm_graph.specs.Places.{AreByNumber, NodeTable, at_place, place_of, value_of}
use Rattle.lgm_graph.specs.Overlay.{OverlayParts, has_key, limited, firsts, most_of}

-- ---- the overrides of the edges out of a node

-- no overrides of the edges with an id
abbrev pub no_terms : EdgeTerms
no_terms = record { limit = None; is_extra = false }

-- an amount, or the limit if that is less
abbrev pub least_of : Option ℕ → ℕ → ℕ
least_of None max = max
least_of (Some most) max = min max most

-- the overrides with one limit more, and with an extra edge
abbrev pub with_limit : ℕ → EdgeTerms → EdgeTerms
with_limit most terms = record { limit = Some (least_of terms.limit most); is_extra = terms.is_extra }

abbrev pub as_extra : EdgeTerms → EdgeTerms
as_extra terms = record { limit = terms.limit; is_extra = true }

-- ids, each with the overrides of the edges that have it
abbrev pub Terms : Type 0
Terms = List (ℕ × EdgeTerms)

abbrev pub terms_of : Terms → ℕ → EdgeTerms
terms_of terms id = unwrap_or (lookup (is_at (nat_cmp id)) terms) no_terms

-- these overrides of an id, whatever they were
abbrev pub with_terms : Terms → ℕ → EdgeTerms → Terms
with_terms terms id own = insert_entry nat_cmp terms id own

-- the least of an amount and the limits for the id
abbrev pub most_in : Terms → ℕ → ℕ → ℕ
most_in terms id max = least_of (terms_of terms id).limit max

-- an extra edge has the id
abbrev pub is_extra_in : Terms → ℕ → Bool
is_extra_in terms id = (terms_of terms id).is_extra

-- ---- the overrides of a node

pub record NodeOverrides : Type 0 where
  pub node : ℕ
  -- whether it is silent
  pub silent : Bool
  -- the overrides of the edges out of it
  pub terms : Terms
  -- the extra edges out of it, and into it
  pub leaving : List Edge
  pub entering : List Edge

-- a node without overrides
abbrev pub nothing_of : ℕ → NodeOverrides
nothing_of node = record { node = node; silent = false; terms = []; leaving = []; entering = [] }

-- an edge of the map out of the node, over the overlay, if it is used
abbrev pub overlaid_at : NodeOverrides → Edge → Option Edge
overlaid_at local edge =
    if local.silent || is_extra_in local.terms edge.scid then None
    else Some (record edge { max = most_in local.terms edge.scid edge.max })

-- and what they are after one more
abbrev pub applied : NodeOverrides → Override → NodeOverrides
applied local Silent = record local { silent = true }
applied local (Limited limit) =
    record local { terms = with_terms local.terms limit.scid (with_limit limit.most (terms_of local.terms limit.scid)) }
applied local (Leaving edge) = record local {
  leaving = local.leaving ++ edge ∷ [];
  terms = with_terms local.terms edge.scid (as_extra (terms_of local.terms edge.scid));
}
applied local (Entering edge) = record local { entering = local.entering ++ edge ∷ [] }

-- ---- the nodes that an overlay touches

-- by node number the place of its overrides
abbrev pub Touched : Type 0
Touched = NodeTable NodeOverrides

abbrev pub overrides_at : Touched → ℕ → NodeOverrides
overrides_at touched number = unwrap_or (value_of touched number) (nothing_of number)

abbrev pub overlaid_by : Touched → Edge → Option Edge
overlaid_by touched edge = overlaid_at (overrides_at touched edge.from) edge

-- each place is that of its node
abbrev pub ArePlaced : Touched → Type 0
ArePlaced touched = AreByNumber (λ (local : NodeOverrides). local.node) touched

-- the extra edges over an overlay
abbrev pub extra_over : OverlayParts → List PointEdge
extra_over overlay = map (limited overlay.limits) (firsts overlay.extra)

-- the overrides of all nodes: which are silent, limits, and the extra edges by the nodes that they leave and enter
pub record Overrides : Type 0 where
  pub silent : List Point
  pub limits : List Limit
  pub leaving : List PointEdge
  pub entering : List PointEdge

-- what an overlay says
abbrev pub overrides_of : OverlayParts → Overrides
overrides_of overlay = record {
  silent = overlay.silent;
  limits = overlay.limits;
  leaving = extra_over overlay;
  entering = extra_over overlay;
}

-- of them, those of a point
pub record IsOverriddenAt (overrides : Overrides) (points : List Point) (point : Point) (local : NodeOverrides) : Type 0 where
  pub silent : local.silent ≡ list_any (is_point point) overrides.silent
  pub limits : (id max : ℕ) → most_in local.terms id max ≡ most_of overrides.limits id point max
  pub extra : (id : ℕ) → is_extra_in local.terms id ≡ list_any (has_key id point) overrides.leaving
  pub leaving : local.leaving ≡ edges_with (λ edge. edge.from) points overrides.leaving point
  pub entering : local.entering ≡ edges_with (λ edge. edge.to) points overrides.entering point

-- and of each of the points
abbrev pub AreApplied : Overrides → List Point → Touched → Type 0
AreApplied overrides points touched =
    (number : ℕ) (point : Point) → slice_get points number ≡ Some point
    → IsOverriddenAt overrides points point (overrides_at touched number)

-- the overrides of a point change, and those of no other one
abbrev pub IsAppliedAt : List Point → Point → Override → Touched → Touched → Type 0
IsAppliedAt points point change old new =
    (number : ℕ) (other : Point) → slice_get points number ≡ Some other
    → overrides_at new number ≡ (if is_point other point then applied (overrides_at old number) change else overrides_at old number)

-- a touched node without overrides
abbrev pub IsBare : NodeOverrides → Type 0
IsBare local = local ≡ nothing_of local.node

-- further nodes are touched, without overrides
pub record IsTouchedMore (old new : Touched) : Type 0 where
  pub same : (number : ℕ) → overrides_at new number ≡ overrides_at old number
  pub kept : (number k : ℕ) → place_of old number ≡ suc k → place_of new number ≡ suc k
  pub more : List NodeOverrides
  pub nodes : new.nodes ≡ old.nodes ++ more
  pub bare : (k : ℕ) (local : NodeOverrides) → slice_get more k ≡ Some local → IsBare local
  pub long : length new.places ≡ length old.places

-- an edge is as it was, or leads to a node that is touched
abbrev pub LeadsTo : Touched → Edge → Type 0
LeadsTo touched edge = (overlaid_by touched edge ≡ Some edge) ⊎ (place_of touched edge.to ≢ 0)

-- and so is each out of a touched node
abbrev pub IsReached : Graph → Touched → ℕ → Type 0
IsReached graph touched k =
    (local : NodeOverrides) → slice_get touched.nodes k ≡ Some local
    → (edge : Edge) → Contains (edges_leaving graph local.node) edge → LeadsTo touched edge

-- and out of each of the first
abbrev pub AreReached : Graph → Touched → ℕ → Type 0
AreReached graph touched count = (k : ℕ) → k < count → IsReached graph touched k

-- ---- lists

abbrev pub edges_in : Edges → List Edge
edges_in list = list.edges.items

-- a node's extra edges, and those of the map over the overlay
abbrev pub overlaid_list : Touched → List Edge → List Edge → List Edge
overlaid_list touched edges extra = extra ++ filter_map (overlaid_by touched) edges

-- a node's own list, or one that is lent
abbrev pub list_or : List (List Edge) → ℕ → List Edge → List Edge
list_or own place lent = unwrap_or (at_place own place) lent

-- the elements at the numbers of these points
abbrev pub by_number : {X : Type 0} → (ℕ → X) → List Point → List X
by_number f [] = []
by_number f (point ∷ points) = f 0 ∷ by_number (λ number. f (suc number)) points

-- the node of a number, with lists that replace some of the view's: a further node takes payments
abbrev pub node_over : Graph → List ℕ → List (List Edge) → List (List Edge) → ℕ → GraphNode
node_over graph places into out number = record {
  accepts_payments = (slice_index_or graph.nodes number (bare_node true)).accepts_payments;
  into = list_or into (slice_index_or places number 0) (node_at graph number).into;
  out = list_or out (slice_index_or places number 0) (node_at graph number).out;
}

-- the graph of a view with further points
abbrev pub graph_over : Graph → List Point → List ℕ → List (List Edge) → List (List Edge) → Graph
graph_over graph points places into out = record {
  known = graph.known;
  points = points;
  nodes = by_number (node_over graph places into out) points;
}
