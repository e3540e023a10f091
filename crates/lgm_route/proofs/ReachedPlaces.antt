-- The places of nodes that a forward search reached, and what is known at them.
use Rattle.std.proofs.Common.{◌≡◌, ◌≢◌, ◌⊎◌, inl, inr, ◌∙◌, ℕ, zero, suc, ◌+◌, ◌-◌, ◌^◌, ◌<◌, ◌≤◌, ltb, Bool, true, false, List, length}
use Rattle.std.proofs.Common.{get_or, set, Option, Some, None, refl, sym, ap, subst, arith}
use Rattle.std.specs.List.{slice_get}
use Rattle.std.proofs.lemmas.Bool.{ltb-true, ltb-false}
use Rattle.std.proofs.lemmas.Option.{slice_get_within, get_or_from_slice_get}
use Rattle.lgm_graph.specs.Places.{at_place, place_of}
use Rattle.lgm_graph.proofs.PlaceLaws.{new_placed, new_here, new_others}
use Rattle.lgm_route.specs.declared.reached_nodes.Reached.{Reached}
use Rattle.lgm_route.specs.inner.Bounding.{IsShut, IsRadius, is_closed}
use Rattle.lgm_route.specs.inner.Reaching.{Table, ArePlaced, found, fees_by, closed_by, fees_in, closed_in}
use Rattle.lgm_route.specs.inner.Searching.{number_at}
use Rattle.lgm_route.proofs.Rests.{trichotomy}
use Rattle.lgm_route.proofs.ReachedLaws.{length_fees, fees_at, fees_past, closed_at, shut_at}

-- ---- something else is known of a node

module _ (t : Table) (placed : ArePlaced t) (r : Reached) (k : ℕ) (there : place_of t r.node ≡ suc k) where
  abbrev again : Table
  again = record { places = t.places; nodes = set t.nodes k r }

  pub again_placed : ArePlaced again
  again_placed = let own = placed.own r.node k there in new_placed t placed k own.0 r own.1 (sym own.2)

  pub again_here : found again r.node ≡ Some r
  again_here = let own = placed.own r.node k there in new_here t placed k own.0 r own.1 (sym own.2) r.node there

  pub again_others : (other : ℕ) → other ≢ r.node → found again other ≡ found t other
  again_others = let own = placed.own r.node k there in new_others t placed k own.0 r own.1 (sym own.2) r.node there

-- ---- goals of the code

-- a place that is used
pub place_is : (t old : Table) (node place : ℕ) → t ≡ old → place ≡ place_of old node → (place ≡ 0 → ⊥)
    → place_of t node ≡ suc (place - 1)
place_is t old node zero same is used = absurd (used refl)
place_is t old node (suc k) same is used =
    let e : suc (suc k - 1) ≡ suc k = omega arith in
    ap (λ (t : Table). place_of t node) same ∙ sym is ∙ sym e

-- and one that isn't
pub place_is_not : (t old : Table) (node place : ℕ) → t ≡ old → place ≡ place_of old node → place ≡ 0 → place_of t node ≡ 0
place_is_not t old node place same is none = ap (λ (t : Table). place_of t node) same ∙ sym is ∙ none

pub within_in : (t old : Table) (node : ℕ) → t ≡ old → node < length old.places → node < length t.places
within_in t old node same lt = subst (λ (t : Table). node < length t.places) (sym same) lt

-- only the fees to a node of the graph can be lowered
pub within_of : (t : Table) (node amount : ℕ) → amount < number_at (fees_in t) node → node < length t.places
within_of t node amount less = by (ltb node (length t.places)) refl
  where
    by : (b : Bool) → ltb node (length t.places) ≡ b → node < length t.places
    by true e = ltb-true node (length t.places) e
    by false e = absurd (omega (arith, less, fees_past t node (ltb-false node (length t.places) e)))

-- ---- a node is closed

abbrev pub closed_of : Reached → Reached
closed_of r = record { fees = r.fees; over = r.over; node = r.node; is_closed = true }

module _ (t : Table) (placed : ArePlaced t) (node k : ℕ) (r : Reached) (there : place_of t node ≡ suc k)
    (is : r ≡ get_or t.nodes k r) where
  abbrev closed : Table
  closed = record { places = t.places; nodes = set t.nodes k (closed_of r) }

  at : slice_get t.nodes k ≡ Some r
  at =
      let own = placed.own node k there in
      own.1 ∙ ap Some (sym (is ∙ get_or_from_slice_get t.nodes k own.0 r own.1))

  pub closed_placed : ArePlaced closed
  closed_placed = new_placed t placed k r (closed_of r) at refl

  pub closed_shut : IsShut (fees_in t) (closed_in t) node (fees_in closed) (closed_in closed)
  closed_shut =
      let was : found t node ≡ Some r = ap (at_place t.nodes) there ∙ at in
      shut_at t closed node refl (new_others t placed k r (closed_of r) at refl node there)
      (ap fees_by (new_here t placed k r (closed_of r) at refl node there) ∙ sym (ap fees_by was))

-- ---- the radius

-- it is no more than the fees to the first nodes that are open
pub record IsLeastOf (nodes : List Reached) (place most : ℕ) : Type 0 where
  pub small : most ≤ 2 ^ 64 - 1
  pub least : (k : ℕ) (reached : Reached) → k < place → slice_get nodes k ≡ Some reached → reached.is_closed ≡ false
      → most ≤ reached.fees

pub radius_of : (t : Table) (place most : ℕ) → length t.nodes ≤ place → IsLeastOf t.nodes place most
    → IsRadius (fees_in t) (closed_in t) most
radius_of t place most all is node within opened = by (found t node) refl
  where
    inside : node < length t.places
    inside = omega (arith, within, length_fees t)

    at : (k : ℕ) (reached : Reached) → place_of t node ≡ k → at_place t.nodes k ≡ Some reached → reached.is_closed ≡ false
        → most ≤ reached.fees
    at zero reached here known still = absurd cc
    at (suc k) reached here known still = is.least k reached (omega (arith, all, slice_get_within t.nodes k reached known)) known still

    by : (known : Option Reached) → found t node ≡ known → most ≤ number_at (fees_in t) node
    by None e = omega (arith, is.small, fees_at t node inside, ap fees_by e)
    by (Some reached) e =
        let still : reached.is_closed ≡ false = sym (ap closed_by e) ∙ sym (closed_at t node) ∙ opened in
        omega (arith, at (place_of t node) reached refl e still, fees_at t node inside, ap fees_by e)

-- and those to the next one
pub least_next : (nodes : List Reached) (place most next : ℕ) (item : Reached) → place < length nodes
    → item ≡ get_or nodes place item → next ≤ most → (item.is_closed ≡ false → next ≤ item.fees)
    → IsLeastOf nodes place most → IsLeastOf nodes (place + 1) next
least_next nodes place most next item within is low least are = record {
  small = omega (arith, low, are.small);
  least = λ k reached lt known still. by k reached lt known still (trichotomy k place);
}
  where
    by : (k : ℕ) (reached : Reached) → k < place + 1 → slice_get nodes k ≡ Some reached → reached.is_closed ≡ false
        → (k < place) ⊎ (k ≡ place) ⊎ (place < k) → next ≤ reached.fees
    by k reached lt known still (inl p) = omega (arith, low, are.least k reached p known still)
    by k reached lt known still (inr (inl e)) =
        let there : slice_get nodes place ≡ Some reached = ap (slice_get nodes) (sym e) ∙ known in
        let same : item ≡ reached = is ∙ get_or_from_slice_get nodes place reached item there in
        let fits = least (ap (λ (x : Reached). x.is_closed) same ∙ still) in
        omega (arith, fits, ap (λ (x : Reached). x.fees) same)
    by k reached lt known still (inr (inr p)) = absurd (omega (arith, lt, p))
