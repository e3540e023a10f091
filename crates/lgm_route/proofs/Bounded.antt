-- The bounds of the forward search.
use Rattle.std.proofs.Common.{◌≡◌, ◌⊎◌, ℕ, zero, suc, ◌+◌, ◌<◌, ◌≤◌, min, List, [], ◌∷◌, length}
use Rattle.std.proofs.Common.{Bool, true, false, refl, sym, ◌∙◌, ap, subst, inl, inr, arith}
use Rattle.std.specs.List.{Contains}
use Rattle.std.proofs.lemmas.List.{get_or_default}
use Rattle.lgm_graph.specs.Graph.{Graph, edges, edges_leaving, AreListed}
use Rattle.lgm_graph.specs.declared.edge.Edge.{Edge}
use Rattle.lgm_route.specs.declared.bounds.Measure.{Measure}
use Rattle.lgm_route.specs.inner.Numbered.{Ask}
use Rattle.lgm_route.specs.inner.Searching.{number_at, no_edge, edge_at}
use Rattle.lgm_route.specs.inner.Bounding.{AreLowBy, MayCarry, charged, IsLowered, IsSpread, IsRadius, AreCut, IsShut, bounds_in, is_closed, IsNear, IsLooked}
use Rattle.lgm_route.proofs.Rests.{trichotomy}

abbrev pub IsCut : ℕ → ℕ → ℕ → Type 0
IsCut most old new = ((new ≡ old) × (old ≤ most)) ⊎ ((new ≡ most) × (most ≤ old))

pub near_later : (measure : Measure) (request : Ask) (start nodes : ℕ) (dist after : List ℕ) (edge : Edge)
    → ((other : ℕ) → number_at after other ≤ number_at dist other) →
    IsNear measure request start nodes dist edge → IsNear measure request start nodes after edge
near_later measure request start nodes dist after edge falls near =
    record {
      over = λ to may. omega (arith, falls edge.to, near.over to may);
      first = λ to may from. omega (arith, falls edge.to, near.first to may from);
    }

-- after fees are lowered, the same holds of closed nodes
pub spread_lowered : (measure : Measure) (edges : List Edge) (request : Ask) (dist : List ℕ) (closed : List Bool)
    (node amount : ℕ) (after : List ℕ) (now : List Bool) →
    IsLowered dist closed node amount after now → IsSpread measure edges request dist closed → IsSpread measure edges request after now
spread_lowered measure edges request dist closed node amount after now low is =
    record {
      near = λ edge there shut may.
          let old = low.still edge.from shut in
          omega (arith, low.falls edge.to, is.near edge there old.0 may, old.1);
      first = λ edge there shut may from. omega (arith, low.falls edge.to, is.first edge there (low.still edge.from shut).0 may from);
      payer = omega (arith, low.falls request.payer, is.payer);
    }

pub start_lowered : (dist : List ℕ) (closed : List Bool) (node amount : ℕ) (after : List ℕ) (now : List Bool) (start at : ℕ) →
    IsLowered dist closed node amount after now → start ≤ amount → start ≤ number_at dist at → start ≤ number_at after at
start_lowered dist closed node amount after now start at low h k = by (low.least at)
  where
    by : (number_at after at ≡ number_at dist at) ⊎ (amount ≤ number_at after at) → start ≤ number_at after at
    by (inl e) = omega arith
    by (inr p) = omega arith

-- after an edge is relaxed
pub looked : (measure : Measure) (request : Ask) (start amount node : ℕ) (edge : Edge) (dist : List ℕ)
    (closed : List Bool) (after : List ℕ) (now : List Bool) →
    IsLowered dist closed node amount after now → node ≡ edge.to → start ≤ amount → (edge.from ≡ request.payer
    → amount ≤ start) → amount ≤ start + charged measure request edge →
    IsLooked measure request start edge dist closed after now
looked measure request start amount node edge dist closed after now low to more first most =
    let same = ap (λ n. number_at after n) to in
    record {
      falls = low.falls;
      keeps = λ edges is. spread_lowered measure edges request dist closed node amount after now low is;
      stays = λ at h. start_lowered dist closed node amount after now start at low more h;
      near =
          record {
            over = λ inside may. omega (arith, same, low.near, most);
            first = λ inside may from. omega (arith, same, low.near, first from);
          };
    }

-- one more edge out of the node was relaxed
pub near_more : (measure : Measure) (request : Ask) (start nodes place : ℕ) (leaving : List Edge) (dist after : List ℕ) →
    ((other : ℕ) → number_at after other ≤ number_at dist other) →
    ((j : ℕ) → j < place → IsNear measure request start nodes dist (edge_at leaving j)) → IsNear measure request start nodes after (edge_at leaving place) →
    (j : ℕ) → j < place + 1 → IsNear measure request start nodes after (edge_at leaving j)
near_more measure request start nodes place leaving dist after falls before new j to = by (trichotomy j place)
  where
    by : (j < place) ⊎ (j ≡ place) ⊎ (place < j) → IsNear measure request start nodes after (edge_at leaving j)
    by (inl p) = near_later measure request start nodes dist after (edge_at leaving j) falls (before j p)
    by (inr (inl e)) = subst (λ n. IsNear measure request start nodes after (edge_at leaving n)) (sym e) new
    by (inr (inr p)) = absurd (omega arith)

-- the node is closed
pub spread_closed : (measure : Measure) (graph : Graph) (request : Ask) (dist : List ℕ) (closed : List Bool) (node start : ℕ)
    (after : List ℕ) (now : List Bool) →
    AreListed graph → length graph.points ≡ length dist → (node ≡ request.payer → start ≡ 0) → start ≤ number_at dist node →
    ((j : ℕ) → j < length (edges_leaving graph node) → IsNear measure request start (length dist) dist (edge_at (edges_leaving graph node) j)) →
    IsShut dist closed node after now →
    IsSpread measure (edges graph) request dist closed → IsSpread measure (edges graph) request after now
spread_closed measure graph request dist closed node start after now listed long none low near shut_now is =
    record {
      near = λ edge there shut may. at edge there may (shut_now.still edge.from shut);
      first = λ edge there shut may from. at_first edge there may from (shut_now.still edge.from shut);
      payer = shut_now.same request.payer ∙ is.payer;
    }
  where
    run : List Edge
    run = edges_leaving graph node

    found : (edge : Edge) → Contains (edges graph) edge → edge.from ≡ node → IsNear measure request start (length dist) dist edge
    found edge there from =
        let place : Contains run edge = subst (λ n. Contains (edges_leaving graph n) edge) from (listed.each edge there).leaves in
        let same : edge_at run place.0 ≡ edge = subst (λ e. e ≡ edge) (get_or_default run place.0 edge no_edge place.1) place.2 in
        subst (λ e. IsNear measure request start (length dist) dist e) same (near place.0 place.1)

    inside : (edge : Edge) → Contains (edges graph) edge → edge.to < length dist
    inside edge there = omega (arith, (listed.each edge there).to, long)

    at : (edge : Edge) → Contains (edges graph) edge → MayCarry request edge
        → (is_closed closed edge.from ≡ true) ⊎ (edge.from ≡ node)
        → number_at after edge.to ≤ number_at after edge.from + charged measure request edge
    at edge there may (inl was) =
        omega (arith, shut_now.same edge.to, shut_now.same edge.from, is.near edge there was may)
    at edge there may (inr own) =
        omega (
          arith,
          shut_now.same edge.to,
          shut_now.same edge.from,
          (found edge there own).over (inside edge there) may,
          ap (λ n. number_at dist n) own,
        )

    at_first : (edge : Edge) → Contains (edges graph) edge → MayCarry request edge → edge.from ≡ request.payer
        → (is_closed closed edge.from ≡ true) ⊎ (edge.from ≡ node) → number_at after edge.to ≤ 0
    at_first edge there may from (inl was) = omega (arith, shut_now.same edge.to, is.first edge there was may from)
    at_first edge there may from (inr own) =
        omega
        (arith, shut_now.same edge.to, (found edge there own).first (inside edge there) may from, none (sym own ∙ from))

-- cut at the radius, the fees are lower bounds
pub low_of : (measure : Measure) (edges : List Edge) (request : Ask) (dist : List ℕ) (closed : List Bool) (most : ℕ) (after : List ℕ) →
    ((edge : Edge) → Contains edges edge → (edge.from < length dist) × (edge.to < length dist))
    → IsSpread measure edges request dist closed → IsRadius dist closed most → AreCut dist most after
    → AreLowBy measure edges request after
low_of measure edges request dist closed most after range is radius cut =
    record {
      rises =
          λ edge there may. rises edge there may (is_closed closed edge.from) refl
          (cut.each edge.from (inside edge there).0) (cut.each edge.to (inside edge there).1);
      none = λ edge there may from. none edge there may from (is_closed closed edge.from) refl (cut.each edge.to (inside edge there).1);
    }
  where
    inside : (edge : Edge) → Contains edges edge → (edge.from < length dist) × (edge.to < length dist)
    inside edge there = range edge there

    rises : (edge : Edge) → Contains edges edge → MayCarry request edge
        → (b : Bool) → is_closed closed edge.from ≡ b →
        IsCut most (number_at dist edge.from) (number_at after edge.from) → IsCut most (number_at dist edge.to) (number_at after edge.to) →
        number_at after edge.to ≤ number_at after edge.from + charged measure request edge
    rises edge there may true e (inl p) (inl q) = omega (arith, p.0, q.0, is.near edge there e may)
    rises edge there may true e (inl p) (inr q) = omega (arith, p.0, q.0, q.1, is.near edge there e may)
    rises edge there may true e (inr p) (inl q) = omega (arith, p.0, q.0, q.1)
    rises edge there may true e (inr p) (inr q) = omega (arith, p.0, q.0)
    rises edge there may false e (inl p) (inl q) = omega (arith, p.0, q.0, q.1, radius edge.from (inside edge there).0 e)
    rises edge there may false e (inl p) (inr q) = omega (arith, p.0, q.0, radius edge.from (inside edge there).0 e)
    rises edge there may false e (inr p) (inl q) = omega (arith, p.0, q.0, q.1)
    rises edge there may false e (inr p) (inr q) = omega (arith, p.0, q.0)

    none : (edge : Edge) → Contains edges edge → MayCarry request edge
        → edge.from ≡ request.payer → (b : Bool) → is_closed closed edge.from ≡ b →
        IsCut most (number_at dist edge.to) (number_at after edge.to) → number_at after edge.to ≡ 0
    none edge there may from true e (inl q) = omega (arith, q.0, is.first edge there e may from)
    none edge there may from true e (inr q) = omega (arith, q.0, q.1, is.first edge there e may from)
    none edge there may from false e (inl q) =
        omega
        (arith, q.0, q.1, radius edge.from (inside edge there).0 e, ap (λ n. number_at dist n) from, is.payer)
    none edge there may from false e (inr q) =
        omega
        (arith, q.0, radius edge.from (inside edge there).0 e, ap (λ n. number_at dist n) from, is.payer)

pub bound_at : (radius : ℕ) (dist : List ℕ) (node : ℕ) → number_at (bounds_in radius dist) node ≡ min (number_at dist node) radius
bound_at radius [] node = grind arith
bound_at radius (d ∷ dist) zero = refl
bound_at radius (d ∷ dist) (suc node) = bound_at radius dist node

pub length_bounds : (radius : ℕ) (dist : List ℕ) → length (bounds_in radius dist) ≡ length dist
length_bounds radius [] = refl
length_bounds radius (d ∷ dist) = ap suc (length_bounds radius dist)

-- no bound is above the radius
pub cut_bounds : (radius : ℕ) (dist : List ℕ) → AreCut dist radius (bounds_in radius dist)
cut_bounds radius dist =
    record {
      long = length_bounds radius dist;
      each =
          λ node within. subst (λ n. IsCut radius (number_at dist node) n) (sym (bound_at radius dist node))
          (lesser (number_at dist node));
    }
  where
    lesser : (n : ℕ) → IsCut radius n (min n radius)
    lesser n = grind arith

-- ---- before the first step

pub spread_first : (measure : Measure) (edges : List Edge) (request : Ask) (dist : List ℕ) (closed : List Bool)
    → ((node : ℕ) → is_closed closed node ≡ false) → number_at dist request.payer ≡ 0 →
    IsSpread measure edges request dist closed
spread_first measure edges request dist closed none payer = record {
  near = λ edge there shut may. absurd (no edge.from shut);
  first = λ edge there shut may from. absurd (no edge.from shut);
  payer = payer;
}
  where
    no : (node : ℕ) → is_closed closed node ≡ true → ⊥
    no node shut = let not_yet : is_closed closed node ≡ false = none node in cc
