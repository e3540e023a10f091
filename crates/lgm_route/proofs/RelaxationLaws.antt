-- Relaxation of rests over edges, and when all relaxations of a label were applied.
use Rattle.std.proofs.Common.{◌≡◌, ◌≢◌, ◌⊎◌, ℕ, ◌+◌, ◌^◌, ◌<◌, ◌≤◌, List, [], ◌∷◌, ◌++◌, length}
use Rattle.std.proofs.Common.{Option, Some, None, refl, sym, ◌∙◌, ap, subst, inl, inr, arith}
use Rattle.std.proofs.lemmas.List.{get_or_push, length_push, append-nil}
use Rattle.lgm_graph.specs.Fee.{fee_of}
use Rattle.lgm_graph.specs.Graph.{Graph, edges, edges_into, AreListed}
use Rattle.lgm_graph.specs.declared.edge.Edge.{Edge}
use Rattle.lgm_route.specs.inner.Numbered.{Ask, penalty_of}
use Rattle.lgm_route.specs.declared.label.Label.{Label}
use Rattle.lgm_route.specs.inner.Numbered.{owed, penalties, counted, IsRest}
use Rattle.lgm_route.specs.inner.Searching.{Low, cost, edge_at, first_of, label_at, no_label, number_at, Spells, IsLabel, IsWalk, SomeRest}
use Rattle.lgm_route.specs.inner.Searching.{SomeWalk, AreLabels, bound_of, IsHopeless, Grows, RelaxesOn, RelaxesAll}
use Rattle.lgm_route.specs.inner.Relaxations.{IsNeedless, IsRelaxationOf, IsRelaxation, in_list, IsAmong, AreRelaxations}
use Rattle.lgm_route.proofs.Rests.{trichotomy}
use Rattle.lgm_route.proofs.Labels.{label_left, at-later, long-later}
use Rattle.lgm_route.proofs.Passed.{all_passed}

-- one more edge before a label's rest
module _ (graph : Graph) (request : Ask) (labels : List Label) (i : ℕ) (edge : Edge) (new : Label)
    (led : IsRelaxationOf graph request labels i edge new)
    (rest : List Edge) (is : IsLabel graph request labels (label_at labels i) rest) where
  step : IsRest (edges graph) request edge.from (edge ∷ rest)
  step = (
    record { there = led.there; leaves = refl; above_min = led.above_min; below_max = omega (arith, is.owes, led.below_max) },
    subst (λ n. IsRest (edges graph) request n rest) (sym led.to) is.joins,
  )

  spells : Spells graph labels new (edge ∷ rest)
  spells = (led.over, led.begins, subst (λ n. Spells graph labels (label_at labels n) rest) (sym led.parent) is.spells)

  pub led_walk : edge.from ≡ request.payer → (label_at labels i).hops < request.hops → IsWalk graph request labels new (edge ∷ rest)
  led_walk from few =
      record {
        spells = spells;
        long = omega (arith, is.long, led.hops);
        some = omega (arith, led.hops);
        few = omega (arith, led.hops, few);
        joins = subst (λ n. IsRest (edges graph) request n (edge ∷ rest)) from step;
        sends = is.owes ∙ sym (led.whole from).0;
        costs = omega (arith, is.owes, is.spends, (led.whole from).0, (led.whole from).1);
        in_time = omega (arith, is.waits, is.in_time);
      }

  pub led_rest : edge.from ≢ request.payer → IsLabel graph request labels new (edge ∷ rest)
  led_rest other =
      record {
        spells = spells;
        long = omega (arith, is.long, led.hops);
        joins = subst (λ n. IsRest (edges graph) request n (edge ∷ rest)) (sym led.node) step;
        owes = ap (λ y. y + fee_of y edge.base edge.millionths) is.owes ∙ sym (led.longer other).1;
        spends =
            ap (λ y. penalties request.terms request.amount rest + penalty_of request.terms edge y) is.owes
            ∙ ap (λ y. y + penalty_of request.terms edge (label_at labels i).amount) is.spends ∙ sym (led.longer other).2;
        waits = ap (λ y. y + counted request.limit edge) is.waits ∙ sym (led.longer other).3;
        in_time = (led.longer other).4;
      }

-- a relaxation represents a walk, or a rest
module _ (graph : Graph) (request : Ask) (labels : List Label) (new : Label) (are : AreLabels graph request labels)
    (led : IsRelaxationOf graph request labels new.parent (first_of graph labels new) new) where
  pub some_walk : new.node ≡ request.payer → SomeWalk graph request labels new
  some_walk at =
      let s = are.sound new.parent led.within in (
        first_of graph labels new ∷ s.0,
        led_walk graph request labels new.parent (first_of graph labels new) new led s.0 s.1
            (sym led.node ∙ at) (are.few new.parent led.within),
      )

  pub some_rest : new.node ≢ request.payer → SomeRest graph request labels new
  some_rest other =
      let s = are.sound new.parent led.within in (
        first_of graph labels new ∷ s.0,
        led_rest graph request labels new.parent (first_of graph labels new) new led s.0 s.1
            (λ e. other (led.node ∙ e)),
      )

-- a relaxation that isn't needed counts as applied
pub passed_needless : (graph : Graph) (request : Ask) (low : Low) (upper_bound bound i : ℕ)
    (labels after : List Label) (now : Option Label) (edge : Edge) →
    bound_of upper_bound now ≤ bound → IsNeedless request low bound (label_at labels i) edge → RelaxesOn graph request low upper_bound labels i after now edge
passed_needless graph request low upper_bound bound i labels after now edge lower needless rest is to min max =
    let h = needless min (omega (arith, is.owes, max)) in
    record {
      whole = λ from. absurd (h.0 from);
      longer = λ few timely. inr (by (h.1 (omega (arith, is.long, few)) (omega (arith, is.waits, timely))));
    }
  where
    label : Label
    label = label_at labels i

    fee : fee_of (owed request.amount rest) edge.base edge.millionths ≡ fee_of label.amount edge.base edge.millionths
    fee = ap (λ x. fee_of x edge.base edge.millionths) is.owes

    penalty : penalty_of request.terms edge (owed request.amount rest) ≡ penalty_of request.terms edge label.amount
    penalty = ap (penalty_of request.terms edge) is.owes

    by : (bound ≤ cost (label.amount + fee_of label.amount edge.base edge.millionths
        + (label.penalty + penalty_of request.terms edge label.amount) + number_at low.fees edge.from) (label.hops + 1))
        ⊎ (2 ^ 64 ≤ label.amount + fee_of label.amount edge.base edge.millionths)
        → IsHopeless request low (bound_of upper_bound now) edge.from (edge ∷ rest)
    by (inl p) = inl (omega (arith, p, is.owes, is.spends, is.long, fee, penalty, lower))
    by (inr p) = inr (omega (arith, p, is.owes, fee))

-- all relaxations of a label over the edges up to an index
pub record AreLeadsTo (graph : Graph) (request : Ask) (low : Low) (bound : ℕ)
    (labels : List Label) (i : ℕ) (run : List Edge) (place : ℕ) (relaxations : List Label) : Type 0 where
  pub led : (k : ℕ) → k < length relaxations → IsRelaxationOf graph request labels i (first_of graph labels (label_at relaxations k)) (label_at relaxations k)
  pub each : (j : ℕ) → j < place → IsNeedless request low bound (label_at labels i) (edge_at run j) ⊎ IsAmong graph labels relaxations (edge_at run j)

pub leads_next : (graph : Graph) (request : Ask) (low : Low) (bound : ℕ) (labels : List Label)
    (i : ℕ) (run : List Edge) (place : ℕ) (relaxations : List Label) (relaxation : Option Label) →
    AreLeadsTo graph request low bound labels i run place relaxations → IsRelaxation graph request low bound labels i (edge_at run place) relaxation →
    AreLeadsTo graph request low bound labels i run (place + 1) (relaxations ++ in_list relaxation)
leads_next graph request low bound labels i run place relaxations None are needless =
    subst (AreLeadsTo graph request low bound labels i run (place + 1)) (sym (append-nil relaxations))
    (record { led = are.led; each = λ j to. by j to (trichotomy j place) })
  where
    by : (j : ℕ) → j < place + 1 → (j < place) ⊎ (j ≡ place) ⊎ (place < j) →
        IsNeedless request low bound (label_at labels i) (edge_at run j) ⊎ IsAmong graph labels relaxations (edge_at run j)
    by j to (inl p) = are.each j p
    by j to (inr (inl e)) = inl (subst (λ n. IsNeedless request low bound (label_at labels i) (edge_at run n)) (sym e) needless)
    by j to (inr (inr p)) = absurd (omega arith)
leads_next graph request low bound labels i run place relaxations (Some new) are new_led =
    record {
      led = λ k to. led k (trichotomy k (length relaxations)) to;
      each = λ j to. by j to (trichotomy j place);
    }
  where
    long : length (relaxations ++ new ∷ []) ≡ length relaxations + 1
    long = length_push relaxations new

    left : (k : ℕ) → k < length relaxations → label_at (relaxations ++ new ∷ []) k ≡ label_at relaxations k
    left k p = label_left relaxations (new ∷ []) k p

    last : label_at (relaxations ++ new ∷ []) (length relaxations) ≡ new
    last = get_or_push relaxations new no_label (length relaxations) refl

    led : (k : ℕ) → (k < length relaxations) ⊎ (k ≡ length relaxations) ⊎ (length relaxations < k) → k < length (relaxations ++ new ∷ []) →
        IsRelaxationOf graph request labels i (first_of graph labels (label_at (relaxations ++ new ∷ []) k)) (label_at (relaxations ++ new ∷ []) k)
    led k (inl p) to = subst (λ l. IsRelaxationOf graph request labels i (first_of graph labels l) l) (sym (left k p)) (are.led k p)
    led k (inr (inl e)) to =
        subst (λ n. IsRelaxationOf graph request labels i (first_of graph labels (label_at (relaxations ++ new ∷ []) n)) (label_at (relaxations ++ new ∷ []) n)) (sym e)
        (subst (λ l. IsRelaxationOf graph request labels i (first_of graph labels l) l) (sym last)
        (subst (λ edge. IsRelaxationOf graph request labels i edge new) (sym new_led.over) new_led))
    led k (inr (inr p)) to = absurd (omega (arith, long))

    by : (j : ℕ) → j < place + 1 → (j < place) ⊎ (j ≡ place) ⊎ (place < j) →
        IsNeedless request low bound (label_at labels i) (edge_at run j) ⊎ IsAmong graph labels (relaxations ++ new ∷ []) (edge_at run j)
    by j to (inl p) = old (are.each j p)
      where
        old : IsNeedless request low bound (label_at labels i) (edge_at run j) ⊎ IsAmong graph labels relaxations (edge_at run j) →
            IsNeedless request low bound (label_at labels i) (edge_at run j) ⊎ IsAmong graph labels (relaxations ++ new ∷ []) (edge_at run j)
        old (inl needless) = inl needless
        old (inr h) = inr (h.0, omega (arith, h.1, long), ap (λ l. first_of graph labels l) (left h.0 h.1) ∙ h.2)
    by j to (inr (inl e)) = inr (length relaxations, omega (arith, long), ap (λ l. first_of graph labels l) last ∙ new_led.over ∙ ap (edge_at run) (sym e))
    by j to (inr (inr p)) = absurd (omega arith)

pub leads_all : (graph : Graph) (request : Ask) (low : Low) (bound : ℕ) (labels : List Label)
    (i : ℕ) (run : List Edge) (place : ℕ) (relaxations : List Label) →
    run ≡ edges_into graph (label_at labels i).node → length run ≤ place → AreLeadsTo graph request low bound
    labels i run place relaxations → AreRelaxations graph request low bound labels i relaxations
leads_all graph request low bound labels i run place relaxations is all are =
    record {
      led = are.led;
      each = λ j to. subst (At j) is (are.each j (omega (arith, to, all, ap length is)));
    }
  where
    At : ℕ → List Edge → Type 0
    At j edges = IsNeedless request low bound (label_at labels i) (edge_at edges j) ⊎ IsAmong graph labels relaxations (edge_at edges j)

-- a relaxation of a label, later in the search
module _ (graph : Graph) (request : Ask) (low : Low) (upper_bound : ℕ) (labels : List Label)
    (found : Option Label) (after : List Label) (now : Option Label)
    (grows : Grows graph request upper_bound labels found after now) (i : ℕ) (within : i < length labels) where
  same : label_at after i ≡ label_at labels i
  same = at-later graph request low upper_bound labels found after now grows i within

  pub first_later : (new : Label) → new.parent < length labels → first_of graph after new ≡ first_of graph labels new
  first_later new inside =
      ap (λ l. edge_at (edges_into graph l.node) new.at)
      (at-later graph request low upper_bound labels found after now grows new.parent inside)

  pub led_later : (edge : Edge) (new : Label) → IsRelaxationOf graph request labels i edge new → IsRelaxationOf graph request after i edge new
  led_later edge new led =
      record {
        within = omega (arith, within, long-later graph request low upper_bound labels found after now grows);
        there = led.there;
        to = led.to ∙ ap (λ l. l.node) (sym same);
        above_min = led.above_min;
        below_max = omega (arith, led.below_max, ap (λ l. l.amount) same);
        begins = record {
          parent = omega (arith, led.begins.parent, long-later graph request low upper_bound labels found after now grows);
          at =
              subst (λ l. new.at < length (edges_into graph l.node)) (sym (at-later graph request low upper_bound
              labels found after now grows new.parent led.begins.parent)) led.begins.at;
        };
        over = first_later new led.begins.parent ∙ led.over;
        parent = led.parent;
        node = led.node;
        hops = led.hops ∙ ap (λ l. l.hops + 1) (sym same);
        whole = λ from. ((led.whole from).0 ∙ ap (λ l. l.amount) (sym same), (led.whole from).1 ∙ ap (λ l. l.penalty) (sym same));
        longer = λ other. ((led.longer other).0, (led.longer other).1 ∙ ap (λ l. l.amount + fee_of l.amount edge.base edge.millionths) (sym same), (led.longer other).2 ∙ ap (λ l. l.penalty + penalty_of request.terms edge l.amount) (sym same), (led.longer other).3 ∙ ap (λ l. l.delay + counted request.limit edge) (sym same), (led.longer other).4);
      }

needless_lower : (request : Ask) (low : Low) (bound lower : ℕ) (label : Label) (edge : Edge)
    → lower ≤ bound → IsNeedless request low bound label edge → IsNeedless request low lower label edge
needless_lower request low bound lower label edge less needless min max =
    ((needless min max).0, λ few timely. by ((needless min max).1 few timely))
  where
    Pruned : ℕ → Type 0
    Pruned most = (most ≤ cost (label.amount + fee_of label.amount edge.base edge.millionths
        + (label.penalty + penalty_of request.terms edge label.amount) + number_at low.fees edge.from) (label.hops + 1))
        ⊎ (2 ^ 64 ≤ label.amount + fee_of label.amount edge.base edge.millionths)

    by : Pruned bound → Pruned lower
    by (inl p) = inl (omega (arith, less, p))
    by (inr p) = inr p

-- all relaxations of a label, later in the search
pub leads_later : (graph : Graph) (request : Ask) (low : Low) (upper_bound : ℕ) (labels : List Label)
    (found : Option Label) (after : List Label) (now : Option Label) (i : ℕ) (relaxations : List Label) →
    Grows graph request upper_bound labels found after now → i < length labels → AreRelaxations graph request low (bound_of upper_bound found) labels i relaxations →
    AreRelaxations graph request low (bound_of upper_bound now) after i relaxations
leads_later graph request low upper_bound labels found after now i relaxations grows within are =
    record {
      led = led;
      each =
          subst Each (sym (at-later graph request low upper_bound labels found after now grows i within))
          (λ j to. by j (are.each j to));
    }
  where
    first : (k : ℕ) → k < length relaxations → first_of graph after (label_at relaxations k) ≡ first_of graph labels (label_at relaxations k)
    first k to = first_later graph request low upper_bound labels found after now grows i within (label_at relaxations k) (are.led k to).begins.parent

    led : (k : ℕ) → k < length relaxations → IsRelaxationOf graph request after i (first_of graph after (label_at relaxations k)) (label_at relaxations k)
    led k to = subst (λ edge. IsRelaxationOf graph request after i edge (label_at relaxations k)) (sym (first k to))
        (led_later graph request low upper_bound labels found after now grows i within
        (first_of graph labels (label_at relaxations k)) (label_at relaxations k) (are.led k to))

    Each : Label → Type 0
    Each label =
        (j : ℕ) → j < length (edges_into graph label.node) →
        IsNeedless request low (bound_of upper_bound now) label (edge_at (edges_into graph label.node) j)
        ⊎ IsAmong graph after relaxations (edge_at (edges_into graph label.node) j)

    by : (j : ℕ) → IsNeedless request low (bound_of upper_bound found) (label_at labels i)
        (edge_at (edges_into graph (label_at labels i).node) j)
        ⊎ IsAmong graph labels relaxations (edge_at (edges_into graph (label_at labels i).node) j) →
        IsNeedless request low (bound_of upper_bound now) (label_at labels i)
        (edge_at (edges_into graph (label_at labels i).node) j)
        ⊎ IsAmong graph after relaxations (edge_at (edges_into graph (label_at labels i).node) j)
    by j (inl p) =
        inl (needless_lower request low (bound_of upper_bound found) (bound_of upper_bound now) (label_at labels i)
        (edge_at (edges_into graph (label_at labels i).node) j) grows.lower p)
    by j (inr h) = inr (h.0, h.1, first h.0 h.1 ∙ h.2)

-- once all relaxations of a label were applied, the label was relaxed
pub all_taken : (graph : Graph) (request : Ask) (low : Low) (upper_bound i : ℕ) (labels : List Label)
    (found : Option Label) (after : List Label) (now : Option Label) (relaxations : List Label) → AreListed graph →
    Grows graph request upper_bound labels found after now → AreRelaxations graph request low (bound_of upper_bound found) labels i relaxations →
    ((k : ℕ) → k < length relaxations → RelaxesOn graph request low upper_bound labels i after now (first_of graph labels (label_at relaxations k))) →
    RelaxesAll graph request low upper_bound labels i after now
all_taken graph request low upper_bound i labels found after now relaxations listed grows are taken =
    all_passed graph request low upper_bound i labels after now listed (λ j to. by j (are.each j to))
  where
    by : (j : ℕ) → IsNeedless request low (bound_of upper_bound found) (label_at labels i) (edge_at (edges_into graph (label_at labels i).node) j) ⊎
        IsAmong graph labels relaxations (edge_at (edges_into graph (label_at labels i).node) j) →
        RelaxesOn graph request low upper_bound labels i after now (edge_at (edges_into graph (label_at labels i).node) j)
    by j (inl p) =
        passed_needless graph request low upper_bound (bound_of upper_bound found) i labels after now
        (edge_at (edges_into graph (label_at labels i).node) j) grows.lower p
    by j (inr h) = subst (RelaxesOn graph request low upper_bound labels i after now) h.2 (taken h.0 h.1)
