-- The start and the end of a search.
use Rattle.std.proofs.Common.{◌≡◌, ℕ, ◌+◌, ◌*◌, ◌^◌, ◌<◌, ◌≤◌, List, [], ◌∷◌, length}
use Rattle.std.proofs.Common.{Some, sym, ◌∙◌, ap, subst, arith}
use Rattle.std.specs.List.{Contains}
use Rattle.std.proofs.lemmas.List.{get_or_default}
use Rattle.lgm_graph.specs.Graph.{Graph, edges, edges_leaving, AreListed}
use Rattle.lgm_graph.specs.declared.edge.Edge.{Edge}
use Rattle.lgm_route.specs.inner.Numbered.{Ask}
use Rattle.lgm_route.specs.declared.label.Label.{Label}
use Rattle.lgm_route.specs.inner.Numbered.{IsUsable, IsLeast, Precedes}
use Rattle.lgm_route.specs.inner.Searching.{NotAfter, walk_key, no_edge, edge_at, Spells}
use Rattle.lgm_route.specs.inner.Searching.{IsWalk, IsNoBetter}
use Rattle.lgm_route.specs.inner.Searching.{IsFound}
use Rattle.lgm_route.specs.inner.Searching.{IsUpperBound}
use Rattle.lgm_route.proofs.Orders.{NotAfter-excludes}
use Rattle.lgm_route.proofs.Labels.{Spells-unique}
use Rattle.lgm_route.proofs.Rests.{penalties_light}

-- the payer's edges carry no more than the upper bound
pub start_of : (graph : Graph) (most : ℕ) (request : Ask) → AreListed graph → request.hops ≤ 20 → most ≤ 2 ^ 64 →
    ((j : ℕ) → j < length (edges_leaving graph request.payer)
    → (edge_at (edges_leaving graph request.payer) j).max < most) → IsUpperBound (edges graph) request (most + 20 * 2 ^ 40)
start_of graph most request listed short small above [] usable = absurd (omega (arith, usable.some))
start_of graph most request listed short small above (edge ∷ rest) usable =
    let step = usable.joins.0 in
    let run = edges_leaving graph request.payer in
    let place : Contains run edge = subst (λ n. Contains (edges_leaving graph n) edge) step.leaves (listed.each edge step.there).leaves in
    let same : edge_at run place.0 ≡ edge = subst (λ e. e ≡ edge) (get_or_default run place.0 edge no_edge place.1) place.2 in
    let max = above place.0 place.1 in
    let carried = ap (λ e. e.max) same in
    (omega (arith, step.below_max, max, carried, penalties_light request rest, usable.few, short), omega (arith, step.below_max, max, carried, small))

-- the walk that the best label represents
same_walk : (graph : Graph) (request : Ask) (labels : List Label) (found : Label) (walk : List Edge) → Spells graph labels found walk
    → length walk ≡ found.hops → (w : List Edge) → IsWalk graph request labels found w → w ≡ walk
same_walk graph request labels found walk spells long w k =
    Spells-unique graph labels found w walk k.spells spells (k.long ∙ sym long)

-- the best walk so far is usable
pub usable_of : (graph : Graph) (request : Ask) (labels : List Label) (upper_bound : ℕ) (found : Label) (walk : List Edge)
    → IsFound graph request labels upper_bound (Some found) → Spells graph labels found walk → length walk ≡ found.hops
    → IsUsable (edges graph) request walk
usable_of graph request labels upper_bound found walk is spells long =
    let w = (is.0).1 in
    subst (λ w. IsUsable (edges graph) request w) (same_walk graph request labels found walk spells long (is.0).0 w)
    (record {
      some = omega (arith, w.some, w.long);
      few = omega (arith, w.few, w.long);
      joins = w.joins;
      in_time = w.in_time;
    })

-- once none is better, it is the best
pub least_of : (graph : Graph) (request : Ask) (labels : List Label) (upper_bound : ℕ) (found : Label) (walk : List Edge) →
    ((other : List Edge) → IsUsable (edges graph) request other → IsNoBetter graph request labels upper_bound
    (Some found) other) → IsFound graph request labels upper_bound (Some found) →
    Spells graph labels found walk → length walk ≡ found.hops → IsLeast (edges graph) request walk
least_of graph request labels upper_bound found walk best is spells long =
    record {
      usable = usable_of graph request labels upper_bound found walk is spells long;
      first = λ other usable before. by other (best other usable) before;
    }
  where
    by : (other : List Edge) → IsNoBetter graph request labels upper_bound (Some found) other → Precedes request other walk → ⊥
    by other h before =
        NotAfter-excludes (walk_key request walk) (walk_key request other)
        (subst (λ w. NotAfter (walk_key request w) (walk_key request other))
        (same_walk graph request labels found walk spells long h.0 h.1) h.2) before
