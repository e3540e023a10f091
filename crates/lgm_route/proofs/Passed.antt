-- Edges that a label was relaxed over, and labels that are settled.
use Rattle.std.proofs.Common.{◌≡◌, ◌≢◌, ◌⊎◌, ℕ, ◌+◌, ◌<◌, ◌≤◌, List, length, Option}
use Rattle.std.proofs.Common.{Bool, refl, sym, ◌∙◌, ap, subst, inl, inr, arith}
use Rattle.std.specs.List.{Contains}
use Rattle.std.proofs.lemmas.List.{get_or_default}
use Rattle.lgm_graph.specs.Fee.{fee_of}
use Rattle.lgm_graph.specs.Graph.{Graph, edges, edges_into, AreListed}
use Rattle.lgm_graph.specs.declared.edge.Edge.{Edge}
use Rattle.lgm_route.specs.inner.Numbered.{Ask, penalty_of}
use Rattle.lgm_route.specs.declared.label.Label.{Label}
use Rattle.lgm_route.specs.inner.Numbered.{counted, most_delay}
use Rattle.lgm_route.specs.inner.Searching.{Low, cost, Dominates, no_edge, edge_at, label_at, number_at}
use Rattle.lgm_route.specs.inner.Searching.{IsLabel, DoesDominate, SomeRest, bound_of, IsHopeless}
use Rattle.lgm_route.specs.inner.Searching.{IsRelaxed, IsLeft, IsSettled, AreLabels, Grows, RelaxesOn}
use Rattle.lgm_route.specs.inner.Searching.{RelaxesAll, IsDominatorOf, AreSpelled, AreSettled}
use Rattle.lgm_route.specs.inner.Relaxations.{IsInto, IsRelaxationOf}
use Rattle.lgm_route.proofs.Rests.{Dominates-refl, Dominates-trans}
use Rattle.lgm_route.proofs.Labels.{label-unique, hopeless-dominates}
use Rattle.lgm_route.proofs.Labels.{label-later, at-later, long-later, passed-later, settled-later}

-- relaxing over an edge, seen from an earlier state, or in a later one
pub passes_from : (graph : Graph) (request : Ask) (low : Low) (upper_bound i : ℕ)
    (labels : List Label) (found : Option Label) (after : List Label) (now : Option Label) (last : List Label)
    (best : Option Label) (edge : Edge) →
    Grows graph request upper_bound labels found after now → i < length labels → RelaxesOn graph request low upper_bound
    after i last best edge → RelaxesOn graph request low upper_bound labels i last best edge
passes_from graph request low upper_bound i labels found after now last best edge grows within passes rest is to min max =
    let same = at-later graph request low upper_bound labels found after now grows i within in
    passes rest (subst (λ l. IsLabel graph request after l rest) (sym same)
    (label-later graph request low upper_bound labels found after now grows (label_at labels i) rest is))
    (to ∙ ap (λ l. l.node) (sym same)) min max

pub passes_later : (graph : Graph) (request : Ask) (low : Low) (upper_bound i : ℕ)
    (labels : List Label) (after : List Label) (now : Option Label) (last : List Label) (best : Option Label)
    (edge : Edge) →
    Grows graph request upper_bound after now last best → RelaxesOn graph request low upper_bound labels i after now edge
    → RelaxesOn graph request low upper_bound labels i last best edge
passes_later graph request low upper_bound i labels after now last best edge grows passes rest is to min max =
    passed-later graph request low upper_bound after now last best grows edge rest (passes rest is to min max)

-- an edge of the graph into a node, both ends of which are numbered
pub record IsEdgeInto (graph : Graph) (node : ℕ) (edge : Edge) : Type 0 where
  pub there : Contains (edges graph) edge
  pub to : edge.to ≡ node
  pub from : edge.from < length graph.points

-- those of the run of edges into it are
pub into_node : (graph : Graph) (labels : List Label) (i at : ℕ) (edge : Edge) → AreListed graph → IsInto graph labels i at edge →
    IsEdgeInto graph (label_at labels i).node edge
into_node graph labels i at edge listed into =
    let node = (label_at labels i).node in
    let run = edges_into graph node in
    let here : Contains run edge = (at, into.inside, get_or_default run at edge no_edge into.inside ∙ into.is) in
    let found = listed.into node edge here in
    record { there = found.1; to = found.0; from = (listed.each edge found.1).from }

-- a label, relaxed over an edge into its node that can carry it
pub led : (graph : Graph) (request : Ask) (labels : List Label) (i at owed spent delay : ℕ) (label : Label) (edge : Edge)
    → AreListed graph → IsInto graph labels i at edge → label ≡ label_at labels i → edge.min ≤ request.amount → label.amount ≤ edge.max
    → (edge.from ≡ request.payer → (owed ≡ label.amount) × (spent ≡ label.penalty))
    → (edge.from ≢ request.payer → (label.hops + 1 < request.hops) × (owed ≡ label.amount + fee_of label.amount edge.base edge.millionths)
    × (spent ≡ label.penalty + penalty_of request.terms edge label.amount)
    × (delay ≡ label.delay + counted request.limit edge) × (delay ≤ most_delay request.limit))
    → IsRelaxationOf graph request labels i edge (record { amount = owed; penalty = spent; parent = i; at = at; node = edge.from; hops = label.hops + 1; delay = delay })
led graph request labels i at owed spent delay label edge listed into is min max whole longer =
    let e = into_node graph labels i at edge listed into in
    let same = ap (λ (l : Label). l.amount) is in
    record {
      within = into.within;
      there = e.there;
      to = e.to;
      above_min = min;
      below_max = omega (arith, same, max);
      begins = record { parent = into.within; at = into.inside };
      over = into.is;
      parent = refl;
      node = refl;
      hops = ap (λ (l : Label). l.hops + 1) is;
      whole = λ from. ((whole from).0 ∙ same, (whole from).1 ∙ ap (λ (l : Label). l.penalty) is);
      longer = λ other. (omega (arith, (longer other).0), (longer other).1 ∙ ap (λ (l : Label). l.amount + fee_of l.amount edge.base edge.millionths) is, (longer other).2 ∙ ap (λ (l : Label). l.penalty + penalty_of request.terms edge l.amount) is, (longer other).3 ∙ ap (λ (l : Label). l.delay + counted request.limit edge) is, (longer other).4);
    }

-- each edge into the label's node is in the run of edges into it
pub all_passed : (graph : Graph) (request : Ask) (low : Low) (upper_bound i : ℕ)
    (labels after : List Label) (now : Option Label) → AreListed graph →
    ((j : ℕ) → j < length (edges_into graph (label_at labels i).node) → RelaxesOn graph request low upper_bound
    labels i after now (edge_at (edges_into graph (label_at labels i).node) j)) →
    RelaxesAll graph request low upper_bound labels i after now
all_passed graph request low upper_bound i labels after now listed passes rest is edge there to min max =
    let run = edges_into graph (label_at labels i).node in
    let place : Contains run edge = subst (λ n. Contains (edges_into graph n) edge) to (listed.each edge there).there in
    let same : edge_at run place.0 ≡ edge = subst (λ e. e ≡ edge) (get_or_default run place.0 edge no_edge place.1) place.2 in
    subst (λ e. IsRelaxed graph request low upper_bound after now e rest) same
    (passes place.0 place.1 rest is (ap (λ e. e.to) same ∙ to) (omega (arith, ap (λ e. e.min) same, min)) (omega (arith, ap (λ e. e.max) same, max)))

-- a label is settled if one that dominates it is
pub settled_serves : (graph : Graph) (request : Ask) (low : Low) (upper_bound : ℕ)
    (labels : List Label) (found : Option Label) (x y : Label) (rest : List Edge) →
    x.node ≡ y.node → ((a b : List Edge) → IsLabel graph request labels x a → IsLabel graph request labels y b
    → Dominates request a b) → IsLabel graph request labels y rest
    → IsSettled graph request low upper_bound labels found x → IsSettled graph request low upper_bound labels found y
settled_serves graph request low upper_bound labels found x y rest node dominates is settled =
    record {
      rest = rest;
      is = is;
      done =
          subst (λ n. IsHopeless request low (bound_of upper_bound found) n rest ⊎ ((other : List Edge)
          × Dominates request other rest × IsLeft graph request low upper_bound labels found n other)) node
          (by settled.done);
    }
  where
    better : Dominates request settled.rest rest
    better = dominates settled.rest rest settled.is is

    by : IsHopeless request low (bound_of upper_bound found) x.node settled.rest ⊎ ((other : List Edge)
        × Dominates request other settled.rest × IsLeft graph request low upper_bound labels found x.node other) →
        IsHopeless request low (bound_of upper_bound found) x.node rest ⊎ ((other : List Edge)
        × Dominates request other rest × IsLeft graph request low upper_bound labels found x.node other)
    by (inl p) = inl (hopeless-dominates request low (bound_of upper_bound found) x.node settled.rest rest better p)
    by (inr p) = inr (p.0, Dominates-trans request p.0 settled.rest rest p.1 better, p.2)

pub serves_itself : (graph : Graph) (labels : List Label) (label : Label) → DoesDominate graph labels label label
serves_itself graph labels label request rest also is also_is =
    subst (λ r. Dominates request rest r) (label-unique graph request labels label rest also is also_is) (Dominates-refl request rest)

pub spelled_labels : (graph : Graph) (request : Ask) (labels : List Label) → AreLabels graph request labels → AreSpelled graph labels
spelled_labels graph request labels labelled i within = let s = labelled.sound i within in (s.0, s.1.spells, s.1.long)

-- marked labels are settled, and one more
module _ (graph : Graph) (request : Ask) (low : Low) (upper_bound : ℕ) where
  pub still_settled : (labels : List Label) (found : Option Label) (after : List Label) (now : Option Label) (done : List Bool) →
      Grows graph request upper_bound labels found after now → AreSettled graph request low upper_bound labels found done
      → AreSettled graph request low upper_bound after now done
  still_settled labels found after now done grows settled j h = (
    omega (arith, (settled j h).0, long-later graph request low upper_bound labels found after now grows),
    subst (λ l. IsSettled graph request low upper_bound after now l) (sym (at-later graph request low upper_bound labels found after now grows j (settled j h).0))
        (settled-later graph request low upper_bound labels found after now grows (label_at labels j) (settled j h).1),
  )

  -- a label that was relaxed
  pub settled_left : (labels : List Label) (found : Option Label) (after : List Label) (now : Option Label) (i : ℕ) →
      Grows graph request upper_bound labels found after now → i < length labels → SomeRest graph request labels
      (label_at labels i) → RelaxesAll graph request low upper_bound labels i after now →
      IsSettled graph request low upper_bound after now (label_at after i)
  settled_left labels found after now i grows within some relaxations =
      subst (λ l. IsSettled graph request low upper_bound after now l) (sym (at-later graph request low upper_bound labels found after now grows i within))
      (record {
        rest = some.0;
        is = label-later graph request low upper_bound labels found after now grows (label_at labels i) some.0 some.1;
        done = inr (some.0, Dominates-refl request some.0, relaxations some.0 some.1);
      })

  pub settled_hopeless : (labels : List Label) (found : Option Label) (label : Label) → SomeRest graph request labels label →
      bound_of upper_bound found ≤ cost (label.amount + label.penalty + number_at low.fees label.node) label.hops → IsSettled graph request low upper_bound labels found label
  settled_hopeless labels found label some h = record { rest = some.0; is = some.1; done = inl (inl (omega (arith, h, some.1.owes, some.1.spends, some.1.long))) }

  -- a label that another one dominates
  pub settled_for : (labels : List Label) (found : Option Label) (after : List Label) (now : Option Label) (i place : ℕ) →
      Grows graph request upper_bound labels found after now → AreLabels graph request labels → i < length labels → IsDominatorOf graph labels i place →
      IsSettled graph request low upper_bound after now (label_at after place) → IsSettled graph request low upper_bound after now (label_at after i)
  settled_for labels found after now i place grows are within stands settled =
      settled_serves graph request low upper_bound after now (label_at after place) (label_at after i) mine.0
      (ap (λ l. l.node) (at place stands.within) ∙ stands.node ∙ sym (ap (λ l. l.node) (at i within))) dominates mine.1 settled
    where
      at : (j : ℕ) → j < length labels → label_at after j ≡ label_at labels j
      at j inside = at-later graph request low upper_bound labels found after now grows j inside

      later : (j : ℕ) → j < length labels → SomeRest graph request after (label_at after j)
      later j inside = (
        (are.sound j inside).0,
        subst (λ l. IsLabel graph request after l (are.sound j inside).0) (sym (at j inside))
            (label-later graph request low upper_bound labels found after now grows (label_at labels j) (are.sound j inside).0 (are.sound j inside).1),
      )

      mine : SomeRest graph request after (label_at after i)
      mine = later i within

      dominates : (a b : List Edge) → IsLabel graph request after (label_at after place) a
          → IsLabel graph request after (label_at after i) b → Dominates request a b
      dominates a b is_a is_b =
          let p = are.sound place stands.within in
          let q = are.sound i within in
          let one : p.0 ≡ a = label-unique graph request after (label_at after place) p.0 a (later place stands.within).1 is_a in
          let two : q.0 ≡ b = label-unique graph request after (label_at after i) q.0 b mine.1 is_b in
          subst (λ r. Dominates request a r) two (subst (λ r. Dominates request r q.0) one (stands.dominates request p.0 q.0 p.1 q.1))
