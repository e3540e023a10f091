-- A search as one value, from step to step.
use Rattle.std.proofs.Common.{◌≡◌, ◌⊎◌, ℕ, zero, suc, ◌+◌, ◌^◌, ◌<◌, ◌≤◌, List, [], ◌∷◌, length, get_or}
use Rattle.std.proofs.Common.{Option, Some, None, Bool, true, false, refl, sym, ◌∙◌, ap, subst, inl, inr, arith}
use Rattle.lgm_graph.specs.Graph.{Graph, edges, edges_into, AreListed}
use Rattle.lgm_graph.specs.declared.edge.Edge.{Edge}
use Rattle.lgm_route.specs.inner.Numbered.{Ask}
use Rattle.lgm_route.specs.declared.halt.Halt.{Halt}
use Rattle.lgm_route.specs.declared.label.Label.{Label}
use Rattle.lgm_route.specs.declared.limits.SearchBudget.{SearchBudget}
use Rattle.lgm_route.specs.inner.Bounding.{AreLow}
use Rattle.lgm_route.specs.inner.Numbered.{sent, IsUsable, IsLeast}
use Rattle.lgm_route.specs.inner.Searching.{Low, cost, label_at, edge_at, Spells, first_of, bound_of, number_at, IsSettled, AreLabels, IsFound}
use Rattle.lgm_route.specs.inner.Searching.{Grows, IsOffered, IsBetter, RelaxesOn, AreSpelled, SomeRest, IsNoBetter, IsDominatorOf, IsUpperBound}
use Rattle.lgm_route.specs.inner.Fronts.{Fronts, HaveFronts, AreNewFronts, AreDistinct}
use Rattle.lgm_route.specs.inner.Relaxations.{IsRelaxationOf, AreRelaxations}
use Rattle.lgm_route.specs.inner.SearchState.{Ground, SearchState, state_of, IsGround, IsSearch, Extends, IsHalted, IsPaid, IsSettledAt, IsMarkedAt}
use Rattle.lgm_route.specs.inner.SearchState.{AreRelaxationsAt, IsRelaxedOn, IsLeftAt, IsFinished, bound_in}
use Rattle.lgm_route.proofs.Rests.{trichotomy}
use Rattle.lgm_route.proofs.Labels.{grows-refl, grows-trans, found-grows, no_better-grows, none_better}
use Rattle.lgm_route.proofs.Passed.{still_settled, settled_left, settled_hopeless}
use Rattle.lgm_route.proofs.NewFrontLaws.{fronts_new}
use Rattle.lgm_route.proofs.Endings.{least_of, usable_of}
use Rattle.lgm_route.proofs.Passed.{settled_for, passes_from, passes_later, all_passed, spelled_labels}
use Rattle.lgm_route.proofs.RelaxationLaws.{leads_later, led_later, all_taken}

-- ---- one search, later

-- facts about the input hold of the later search too
abbrev Growing : Ground → SearchState → SearchState → Type 0
Growing ground before after = Grows ground.graph ground.request ground.upper_bound before.labels before.best after.labels after.best

pub extends-trans : (a b c : SearchState) → Extends a b → Extends b c → Extends a c
extends-trans a b c h k = record {
  ground = k.ground ∙ h.ground;
  grows = grows-trans a.ground.graph a.ground.request a.ground.upper_bound a.labels b.labels c.labels a.best b.best c.best h.grows
      (subst (λ g. Growing g b c) h.ground k.grows);
  still = λ i m. k.still i (h.still i m);
}

pub extends-refl : (a : SearchState) → Extends a a
extends-refl a = record {
  ground = refl;
  grows = grows-refl a.ground.graph a.ground.request a.ground.upper_bound a.labels a.best;
  still = λ i m. m;
}

-- a search that went on and then stopped
pub halted_on : (a b c : SearchState) (halt : Halt) → Extends a b → IsHalted b c halt → (IsPaid a → IsPaid b) → IsHalted a c halt
halted_on a b c halt h k pays = record { ground = k.ground ∙ h.ground; may = λ paid. k.may (pays paid) }

abbrev Relaxing : Ground → List Label → ℕ → SearchState → Edge → Type 0
Relaxing ground labels i after edge = RelaxesOn ground.graph ground.request ground.low ground.upper_bound labels i after.labels after.best edge

-- relaxing over an edge, seen from an earlier state, or in a later one
pub passed_from : (a b c : SearchState) (i : ℕ) (edge : Edge) → Extends a b → i < length a.labels → IsRelaxedOn b i edge c → IsRelaxedOn a i edge c
passed_from a b c i edge h within passed =
    passes_from a.ground.graph a.ground.request a.ground.low a.ground.upper_bound i a.labels a.best b.labels b.best c.labels c.best edge h.grows within
    (subst (λ g. Relaxing g b.labels i c edge) h.ground passed)

pub passed_later : (a b c : SearchState) (i : ℕ) (edge : Edge) → Extends a b → Extends b c → IsRelaxedOn a i edge b → IsRelaxedOn a i edge c
passed_later a b c i edge h k passed =
    passes_later a.ground.graph a.ground.request a.ground.low a.ground.upper_bound i a.labels b.labels b.best c.labels c.best edge
    (subst (λ g. Growing g b c) h.ground k.grows) passed

-- relaxed over one more of several edges
pub passed_more : (a b c : SearchState) (at : ℕ → Edge) (i place : ℕ) → i < length a.labels → Extends a b → Extends b c →
    ((j : ℕ) → j < place → IsRelaxedOn a i (at j) b) → IsRelaxedOn b i (at place) c → (j : ℕ) → j < place + 1 → IsRelaxedOn a i (at j) c
passed_more a b c at i place within h k before new j to = by (trichotomy j place)
  where
    by : (j < place) ⊎ (j ≡ place) ⊎ (place < j) → IsRelaxedOn a i (at j) c
    by (inl p) = passed_later a b c i (at j) h k (before j p)
    by (inr (inl e)) = passed_from a b c i (at j) h within (subst (λ n. IsRelaxedOn b i (at n) c) (sym e) new)
    by (inr (inr p)) = absurd (omega arith)

-- over all edges into the node
pub left_all : (a b : SearchState) (i : ℕ) → IsGround a.ground →
    ((j : ℕ) → j < length (edges_into a.ground.graph (label_at a.labels i).node)
    → IsRelaxedOn a i (edge_at (edges_into a.ground.graph (label_at a.labels i).node) j) b) →
    IsLeftAt a i b
left_all a b i ground passed =
    all_passed a.ground.graph a.ground.request a.ground.low a.ground.upper_bound i a.labels b.labels b.best ground.listed passed

-- ---- what the fields of a search preserve

-- more labels, and a better walk
pub search_grown : (s : SearchState) (labels : List Label) (best : Option Label) (fronts : Fronts) → IsSearch s
    → AreLabels s.ground.graph s.ground.request labels →
    IsFound s.ground.graph s.ground.request labels s.ground.upper_bound best
    → Grows s.ground.graph s.ground.request s.ground.upper_bound s.labels s.best labels best
    → HaveFronts s.ground.graph s.ground.request labels fronts → AreDistinct s.ground.graph s.ground.request labels →
    IsSearch (record s { labels = labels; best = best; fronts = fronts })
search_grown s labels best fronts is labelled found grows have distinct = record {
  ground = is.ground;
  labelled = labelled;
  found = found;
  settled = still_settled s.ground.graph s.ground.request s.ground.low s.ground.upper_bound s.labels s.best labels best s.done grows is.settled;
  fronts = have;
  distinct = distinct;
}

-- a label was offered
pub offered_grows : (s : SearchState) (new : Label) (labels : List Label) → IsOffered s.ground.graph s.ground.request s.labels new labels →
    Grows s.ground.graph s.ground.request s.ground.upper_bound s.labels s.best labels s.best
offered_grows s new labels offered = record {
  more = offered.more;
  is = offered.is;
  lower = omega arith;
  first = λ walk h. subst (λ ls. IsNoBetter s.ground.graph s.ground.request ls s.ground.upper_bound s.best walk) (sym offered.is)
      (no_better-grows s.ground.graph s.ground.request s.labels offered.more s.ground.upper_bound s.best walk h);
}

pub search_offered : (s : SearchState) (new : Label) (labels : List Label) (fronts : Fronts) → IsSearch s
    → IsOffered s.ground.graph s.ground.request s.labels new labels
    → HaveFronts s.ground.graph s.ground.request labels fronts → AreDistinct s.ground.graph s.ground.request labels →
    IsSearch (record s { labels = labels; fronts = fronts })
search_offered s new labels fronts is offered have distinct =
    search_grown s labels s.best fronts is offered.labelled
    (subst (λ ls. IsFound s.ground.graph s.ground.request ls s.ground.upper_bound s.best) (sym offered.is)
    (found-grows s.ground.graph s.ground.request s.labels offered.more s.ground.upper_bound s.best is.found))
    (offered_grows s new labels offered) have distinct

pub extends_offered : (s : SearchState) (new : Label) (labels : List Label) (fronts : Fronts)
    → IsOffered s.ground.graph s.ground.request s.labels new labels →
    Extends s (record s { labels = labels; fronts = fronts })
extends_offered s new labels fronts offered = record { ground = refl; grows = offered_grows s new labels offered; still = λ i h. h }

-- a walk became the best, or not
pub better_grows : (s : SearchState) (new : Label) (best : Option Label)
    → IsBetter s.ground.graph s.ground.request s.labels s.ground.upper_bound s.best new best →
    Grows s.ground.graph s.ground.request s.ground.upper_bound s.labels s.best s.labels best
better_grows s new best better =
    let same = grows-refl s.ground.graph s.ground.request s.ground.upper_bound s.labels s.best in
    record { more = same.more; is = same.is; lower = better.lower; first = better.keeps }

pub search_better : (s : SearchState) (new : Label) (best : Option Label) → IsSearch s
    → IsBetter s.ground.graph s.ground.request s.labels s.ground.upper_bound s.best new best →
    IsSearch (record s { best = best })
search_better s new best is better =
    search_grown s s.labels best s.fronts is is.labelled better.found_is (better_grows s new best better) is.fronts is.distinct

pub extends_better : (s : SearchState) (new : Label) (best : Option Label)
    → IsBetter s.ground.graph s.ground.request s.labels s.ground.upper_bound s.best new best →
    Extends s (record s { best = best })
extends_better s new best better = record { ground = refl; grows = better_grows s new best better; still = λ i h. h }

-- ---- settling

pub spelled : (s : SearchState) → IsSearch s → AreSpelled s.ground.graph s.labels
spelled s is = spelled_labels s.ground.graph s.ground.request s.labels is.labelled

abbrev Settled : Ground → SearchState → ℕ → Type 0
Settled ground s i = IsSettled ground.graph ground.request ground.low ground.upper_bound s.labels s.best (label_at s.labels i)

-- a label that was relaxed is settled
pub settled_led : (a b : SearchState) (i : ℕ) → IsSearch a → Extends a b → i < length a.labels → IsLeftAt a i b → IsSettledAt b i
settled_led a b i is h within left =
    subst (λ g. Settled g b i) (sym h.ground)
    (settled_left a.ground.graph a.ground.request a.ground.low a.ground.upper_bound a.labels a.best b.labels b.best
    i h.grows within (is.labelled.sound i within) left)

-- so is a pruned one
pub settled_vain : (s : SearchState) (i : ℕ) → IsSearch s → i < length s.labels →
    bound_in s ≤ cost ((label_at s.labels i).amount + (label_at s.labels i).penalty + number_at s.ground.low.fees (label_at s.labels i).node) (label_at s.labels i).hops → IsSettledAt s i
settled_vain s i is within h =
    settled_hopeless s.ground.graph s.ground.request s.ground.low s.ground.upper_bound s.labels s.best (label_at s.labels i) (is.labelled.sound i within) h

-- and one that is dominated by a settled one
pub settled_by : (a b : SearchState) (i place : ℕ) → IsSearch a → IsSearch b → Extends a b → i < length a.labels
    → IsDominatorOf a.ground.graph a.labels i place → IsMarkedAt b place → IsSettledAt b i
settled_by a b i place is later h within stands marked =
    subst (λ g. Settled g b i) (sym h.ground)
    (settled_for a.ground.graph a.ground.request a.ground.low a.ground.upper_bound a.labels a.best b.labels b.best i place h.grows is.labelled within stands
    (subst (λ g. Settled g b place) h.ground (later.settled place marked).1))

-- the bound never rises
pub bound_falls : (a b : SearchState) → Extends a b → bound_in b ≤ bound_in a
bound_falls a b h = omega (arith, h.grows.lower, ap (λ (g : Ground). bound_of g.upper_bound b.best) h.ground)

-- one more label is marked
pub marked_more : (a b : SearchState) (i : ℕ) → Extends a b → ((j : ℕ) → j < i → IsMarkedAt a j) → IsMarkedAt b i → (j : ℕ) → j < i + 1 → IsMarkedAt b j
marked_more a b i h before here j to = by (trichotomy j i)
  where
    by : (j < i) ⊎ (j ≡ i) ⊎ (i < j) → IsMarkedAt b j
    by (inl p) = h.still j (before j p)
    by (inr (inl e)) = subst (λ n. IsMarkedAt b n) (sym e) here
    by (inr (inr p)) = absurd (omega arith)

-- once all labels are marked the search is finished
pub finished : (s : SearchState) → IsSearch s → ((i : ℕ) → i < length s.labels → IsMarkedAt s i) → IsFinished s
finished s is all =
    none_better s.ground.graph s.ground.request s.ground.low s.ground.upper_bound s.labels s.best is.ground.hops.1 is.labelled
    is.ground.low (λ i within. (is.settled i (all i within)).1) is.ground.upper_bound is.found

-- the best walk so far is usable
pub walk_usable : (s : SearchState) (best : Label) (walk : List Edge) → s.best ≡ Some best → IsSearch s →
    Spells s.ground.graph s.labels best walk × (length walk ≡ best.hops) →
    IsUsable (edges s.ground.graph) s.ground.request walk × (sent s.ground.request.amount walk < 2 ^ 64)
walk_usable s best walk some is spelled =
    let found = subst (λ o. IsFound s.ground.graph s.ground.request s.labels s.ground.upper_bound o) some is.found in
    let usable = usable_of s.ground.graph s.ground.request s.labels s.ground.upper_bound best walk found spelled.0 spelled.1 in
    (usable, (is.ground.upper_bound walk usable).1)

-- once the search is finished it is the least
pub walk_least : (s : SearchState) (best : Label) (walk : List Edge) → s.best ≡ Some best → IsSearch s → IsFinished s →
    Spells s.ground.graph s.labels best walk × (length walk ≡ best.hops) →
    IsLeast (edges s.ground.graph) s.ground.request walk × (sent s.ground.request.amount walk < 2 ^ 64)
walk_least s best walk some is finished spelled =
    let found = subst (λ o. IsFound s.ground.graph s.ground.request s.labels s.ground.upper_bound o) some is.found in (
      least_of s.ground.graph s.ground.request s.labels s.ground.upper_bound best walk
          (λ other usable. subst (λ o. IsNoBetter s.ground.graph s.ground.request s.labels s.ground.upper_bound o
          other) some (finished other usable)) found spelled.0 spelled.1,
      (walk_usable s best walk some is spelled).1,
    )

-- a new search
pub begun : (graph : Graph) (request : Ask) (low : Low) (upper_bound : ℕ) (budget : SearchBudget)
    → (1 ≤ request.hops) × (request.hops ≤ 20) → AreListed graph
    → length low.fees ≡ length graph.points → AreLow (edges graph) request low → upper_bound ≤ 2 ^ 65 →
    IsUpperBound (edges graph) request upper_bound →
    (labels : List Label)
    → labels ≡ record { amount = request.amount; penalty = 0; parent = 0; at = 0; node = request.payee; hops = 0; delay = 0 } ∷ []
    → (fronts : Fronts) → AreNewFronts fronts → (done : List Bool) → done ≡ [] →
    IsSearch (state_of graph request low upper_bound budget labels None fronts done 0 0)
begun graph request low upper_bound budget hops listed long are_low small upper labels one fronts new done none = record {
  ground = record { hops = hops; listed = listed; long = long; low = are_low; small = small; upper_bound = upper };
  labelled = rw one first;
  found = tt;
  settled = rw none (λ i h. absurd (no i h));
  fronts = rw one (λ few. fronts_new graph request label fronts (sound 0 (omega arith)) new);
  distinct = rw one alone;
}
  where
    no : (i : ℕ) → get_or [] i false ≡ true → ⊥
    no i h = cc

    label : Label
    label = record { amount = request.amount; penalty = 0; parent = 0; at = 0; node = request.payee; hops = 0; delay = 0 }

    sound : (i : ℕ) → i < length (label ∷ []) → SomeRest graph request (label ∷ []) (label_at (label ∷ []) i)
    sound zero within = ([], record { spells = tt; long = refl; joins = refl; owes = refl; spends = refl; waits = refl; in_time = omega arith })
    sound (suc i) within = absurd (omega arith)

    alone : AreDistinct graph request (label ∷ [])
    alone i j rest before within = absurd (omega arith)

    few : (i : ℕ) → i < length (label ∷ []) → (label_at (label ∷ []) i).hops < request.hops
    few zero within = omega (arith, hops)
    few (suc i) within = absurd (omega arith)

    first : AreLabels graph request (label ∷ [])
    first = record { some = omega arith; first = (refl, refl); sound = sound; few = few }

-- ---- applying relaxations

abbrev Led : Ground → SearchState → ℕ → List Label → Type 0
Led ground s i relaxations = AreRelaxations ground.graph ground.request ground.low (bound_of ground.upper_bound s.best) s.labels i relaxations

pub leads_at_later : (a b : SearchState) (i : ℕ) (relaxations : List Label) → Extends a b → i < length a.labels → AreRelaxationsAt a i relaxations → AreRelaxationsAt b i relaxations
leads_at_later a b i relaxations h within are =
    subst (λ g. Led g b i relaxations) (sym h.ground)
    (leads_later a.ground.graph a.ground.request a.ground.low a.ground.upper_bound a.labels a.best b.labels b.best i relaxations h.grows within are)

-- a relaxation extends its parent
pub led_self : (s : SearchState) (i : ℕ) (edge : Edge) (new : Label) → IsRelaxationOf s.ground.graph s.ground.request s.labels i edge new →
    IsRelaxationOf s.ground.graph s.ground.request s.labels new.parent (first_of s.ground.graph s.labels new) new
led_self s i edge new led =
    subst (λ n. IsRelaxationOf s.ground.graph s.ground.request s.labels n (first_of s.ground.graph s.labels new) new) (sym led.parent)
    (subst (λ e. IsRelaxationOf s.ground.graph s.ground.request s.labels i e new) (sym led.over) led)

pub passed_self : (a b : SearchState) (i : ℕ) (edge : Edge) (new : Label) → IsRelaxationOf a.ground.graph a.ground.request a.labels i edge new →
    IsRelaxedOn a new.parent (first_of a.ground.graph a.labels new) b → IsRelaxedOn a i edge b
passed_self a b i edge new led passed = subst (λ n. IsRelaxedOn a n edge b) led.parent (subst (λ e. IsRelaxedOn a new.parent e b) led.over passed)

-- a relaxation, later in the search
abbrev IsLedBy : Ground → List Label → ℕ → Edge → Label → Type 0
IsLedBy ground labels i edge new = IsRelaxationOf ground.graph ground.request labels i edge new

pub led_at_later : (a b : SearchState) (i : ℕ) (edge : Edge) (new : Label) → Extends a b → i < length a.labels
    → IsRelaxationOf a.ground.graph a.ground.request a.labels i edge new →
    IsRelaxationOf b.ground.graph b.ground.request b.labels i edge new
led_at_later a b i edge new h within led =
    subst (λ g. IsLedBy g b.labels i edge new) (sym h.ground)
    (led_later a.ground.graph a.ground.request a.ground.low a.ground.upper_bound a.labels a.best b.labels b.best h.grows i within edge new led)

pub left_taken : (a b : SearchState) (i : ℕ) (relaxations : List Label) → IsGround a.ground → Extends a b → AreRelaxationsAt a i relaxations →
    ((k : ℕ) → k < length relaxations → IsRelaxedOn a i (first_of a.ground.graph a.labels (label_at relaxations k)) b) → IsLeftAt a i b
left_taken a b i relaxations ground h are taken =
    all_taken a.ground.graph a.ground.request a.ground.low a.ground.upper_bound i a.labels a.best b.labels b.best relaxations ground.listed h.grows are taken
