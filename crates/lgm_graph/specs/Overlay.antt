-- What a payer knows beside the map: the edges of rows over an overlay.
use Rattle.std.specs.Prelude.{◌≡◌, ℕ, ◌≤◌, Bool, false, not, ◌&&◌, ◌==◌, min, List, [], ◌∷◌, ◌++◌}
use Rattle.std.specs.Prelude.{Option, filter, map, fold, Contains, if◌then◌else◌}
use Rattle.std.specs.List.{list_any}
use Rattle.std.specs.Ordering.{is_gt}
use Rattle.lgm_wire.specs.declared.point.Point.{Point}
use Rattle.lgm_store.specs.Rows.{Rows, IsAscending, is_point, by_point}
use Rattle.lgm_graph.specs.declared.overlay.ExtraEdge.{ExtraEdge}
use Rattle.lgm_graph.specs.declared.overlay.Limit.{Limit}
use Rattle.lgm_graph.specs.Edges.{PointEdge, AreKeyed, carrying, edges_of, takes_payments}

-- an extra edge as one of the map; it is from node 2 if its node is the greater one
abbrev pub extra_edge : ExtraEdge → PointEdge
extra_edge edge = record {
  scid = edge.scid;
  second = is_gt (by_point edge.from edge.to);
  from = edge.from;
  to = edge.to;
  base = edge.base;
  millionths = edge.millionths;
  delta = edge.delta;
  min = edge.min;
  max = edge.max;
}

-- edges beside the map's, limits of what edges carry, and nodes whose edges in the map aren't used
pub record OverlayParts : Type 0 where
  pub extra : List PointEdge
  pub limits : List Limit
  pub silent : List Point

-- an overlay that changes nothing
abbrev pub no_overlay : OverlayParts
no_overlay = record { extra = []; limits = []; silent = [] }

-- ---- keys: a node resolves an id among its own channels

-- the edge has this id and leaves this node
abbrev pub has_key : ℕ → Point → PointEdge → Bool
has_key id from edge = edge.scid == id && is_point from edge.from

-- one of the edges has the key of this one
abbrev pub is_named : List PointEdge → PointEdge → Bool
is_named edges edge = list_any (has_key edge.scid edge.from) edges

-- the edges before, and an edge unless one of them has its key
abbrev pub with_first : List PointEdge → PointEdge → List PointEdge
with_first before edge = if is_named before edge then before else before ++ edge ∷ []

-- of each key the first edge
abbrev pub firsts : List PointEdge → List PointEdge
firsts edges = fold with_first [] edges

-- ---- the edges over an overlay

-- an edge of the map is used: its node isn't silent, and no extra edge has its key
abbrev pub is_used : OverlayParts → PointEdge → Bool
is_used overlay edge = not (list_any (is_point edge.from) overlay.silent) && not (is_named overlay.extra edge)

-- the amount, or a limit that is less, if it is for the key
abbrev pub at_most : ℕ → Point → ℕ → Limit → ℕ
at_most id from most limit =
    if limit.scid == id && is_point from limit.from then min most limit.most else most

-- the least of an amount and the limits for the key
abbrev pub most_of : List Limit → ℕ → Point → ℕ → ℕ
most_of limits id from max = fold (at_most id from) max limits

-- the edge with the least of its maximum and its limits
abbrev pub limited : List Limit → PointEdge → PointEdge
limited limits edge = record edge { max = most_of limits edge.scid edge.from edge.max }

-- the extra edges and the map's that are used, limited
abbrev pub laid_over : OverlayParts → List PointEdge → List PointEdge
laid_over overlay edges =
    map (limited overlay.limits) (firsts overlay.extra ++ filter (is_used overlay) edges)

-- the edges, where the nodes that they lead to take payments
abbrev pub overlaid_edges : Option (List ℕ) → Rows → OverlayParts → List PointEdge
overlaid_edges known rows overlay =
    filter (λ edge. takes_payments known rows.nodes edge.to) (laid_over overlay (carrying rows))

-- ---- laws

-- without an overlay the edges are the map's
abbrev pub IsNeutral : Type 0
IsNeutral = (known : Option (List ℕ)) (rows : Rows) → overlaid_edges known rows no_overlay ≡ edges_of known rows

-- node and id identify an edge over an overlay
abbrev pub KeepsKeys : Type 0
KeepsKeys =
    (known : Option (List ℕ)) (rows : Rows) (overlay : OverlayParts) → IsAscending rows
    → AreKeyed (overlaid_edges known rows overlay)

-- the edge is the other one, but for a maximum that may be less
pub record IsNarrowed (edge other : PointEdge) : Type 0 where
  pub less : edge.max ≤ other.max
  pub same : edge ≡ record other { max = edge.max }

-- each of the edges is one of the others, narrowed
abbrev pub AreNarrowed : List PointEdge → List PointEdge → Type 0
AreNarrowed edges others =
    (edge : PointEdge) → Contains edges edge
    → (other : PointEdge) × Contains others other × IsNarrowed edge other

-- limits and silent nodes only remove edges and narrow them
abbrev pub OnlyNarrows : Type 0
OnlyNarrows =
    (known : Option (List ℕ)) (rows : Rows) (overlay : OverlayParts)
    → AreNarrowed (overlaid_edges known rows overlay)
    (overlaid_edges known rows (record overlay { limits = []; silent = [] }))

-- extra edges with keys that no edge of the map has only add edges
abbrev pub OnlyAdds : Type 0
OnlyAdds =
    (known : Option (List ℕ)) (rows : Rows) (overlay : OverlayParts) (more : List PointEdge)
    → ((edge : PointEdge) → Contains (carrying rows) edge → is_named more edge ≡ false)
    → (edge : PointEdge) → Contains (overlaid_edges known rows overlay) edge
    → Contains (overlaid_edges known rows (record overlay { extra = overlay.extra ++ more })) edge
