-- The steps of a forward search.
use Rattle.std.proofs.Common.{◌≡◌, ◌∙◌, ℕ, ◌+◌, ◌<◌, ◌≤◌, List, length, Bool}
use Rattle.std.proofs.Common.{sym, ap, subst, arith}
use Rattle.lgm_graph.specs.Graph.{edges, edges_leaving}
use Rattle.lgm_graph.specs.declared.edge.Edge.{Edge}
use Rattle.lgm_route.specs.declared.bounds.Measure.{Measure}
use Rattle.lgm_route.specs.inner.Numbered.{Ask}
use Rattle.lgm_route.specs.inner.Searching.{number_at, edge_at}
use Rattle.lgm_route.specs.inner.Bounding.{IsNear, IsLooked, IsShut, IsRadius, AreLowBy, bounds_in}
use Rattle.lgm_route.specs.inner.ForwardState.{ForwardState, IsForwardState, IsSameForwardState, AreNear}
use Rattle.lgm_route.proofs.Bounded.{near_more, spread_closed, low_of, cut_bounds}

pub same_pass-trans : (a b c : ForwardState) → IsSameForwardState a b → IsSameForwardState b c → IsSameForwardState a c
same_pass-trans a b c first second = record {
  graph = second.graph ∙ first.graph;
  request = second.request ∙ first.request;
  measure = second.measure ∙ first.measure;
  long = second.long ∙ first.long;
}

-- the fees to the edge's start are no less than these
near_raised : (measure : Measure) (request : Ask) (start more nodes : ℕ) (dist : List ℕ) (edge : Edge) → start ≤ more
    → IsNear measure request start nodes dist edge → IsNear measure request more nodes dist edge
near_raised measure request start more nodes dist edge le near = record {
  over = λ to may. omega (arith, le, near.over to may);
  first = λ to may from. omega (arith, le, near.first to may from);
}

-- the edges before this place were relaxed, at these fees to their start
abbrev pub AreNearTo : ForwardState → ForwardState → ℕ → List Edge → ℕ → Type 0
AreNearTo first pass start run place =
    (j : ℕ) → j < place → IsNear first.measure first.request start (length first.dist) pass.dist (edge_at run j)

-- one more is relaxed
pub near_next : (first before after : ForwardState) (start place : ℕ) (run : List Edge) → IsSameForwardState first before
    → AreNearTo first before start run place
    → IsLooked before.measure before.request start (edge_at run place) before.dist before.closed after.dist after.closed
    → AreNearTo first after start run (place + 1)
near_next first before after start place run same near looked =
    near_more first.measure first.request start (length first.dist) place run before.dist after.dist looked.falls near
    (rw (same.request, same.measure, same.long) at looked.near)

-- all of a node's are
pub near_all : (first last : ForwardState) (start place node : ℕ) (run : List Edge) → IsSameForwardState first last
    → run ≡ edges_leaving first.graph node → length run ≤ place → start ≤ number_at last.dist node
    → AreNearTo first last start run place → AreNear last node
near_all first last start place node run same own all low near =
    rw (same.graph, same.request, same.measure, same.long) (subst (λ (r : List Edge). (j : ℕ) → j < length r
    → IsNear first.measure first.request (number_at last.dist node) (length first.dist) last.dist (edge_at r j)) own
    (λ j to. near_raised first.measure first.request start (number_at last.dist node) (length first.dist) last.dist (edge_at run j) low
    (near j (omega (arith, to, all)))))

-- ---- the invariant

-- after a node was closed
pub pass_closed : (pass : ForwardState) (node : ℕ) (dist : List ℕ) (closed : List Bool) → IsForwardState pass
    → length dist ≡ length pass.dist → AreNear pass node → IsShut pass.dist pass.closed node dist closed
    → IsForwardState (record pass { dist = dist; closed = closed })
pass_closed pass node dist closed is long near shut = record {
  listed = is.listed;
  nodes = is.nodes ∙ sym long;
  spread =
      spread_closed pass.measure pass.graph pass.request pass.dist pass.closed node (number_at pass.dist node) dist closed is.listed is.nodes
      (λ own. ap (number_at pass.dist) own ∙ is.spread.payer) (omega arith) near shut is.spread;
}

-- cut at the least fees to an open node, the fees are bounds
pub low_of_pass : (pass : ForwardState) (most : ℕ) → IsForwardState pass → IsRadius pass.dist pass.closed most
    → AreLowBy pass.measure (edges pass.graph) pass.request (bounds_in most pass.dist)
low_of_pass pass most is radius =
    low_of pass.measure (edges pass.graph) pass.request pass.dist pass.closed most (bounds_in most pass.dist)
    (λ edge there. (omega (arith, (is.listed.each edge there).from, is.nodes), omega (arith, (is.listed.each edge there).to, is.nodes)))
    is.spread radius (cut_bounds most pass.dist)
