-- A search that runs out of labels made as many different rests.
use Rattle.std.proofs.Common.{◌≡◌, ◌≢◌, ◌⊎◌, ℕ, zero, suc, ◌+◌, ◌*◌, ◌^◌, ◌<◌, ◌≤◌, List, [], ◌∷◌, ◌++◌, length, get_or, min}
use Rattle.std.proofs.Common.{Bool, false, cond, if◌then◌else◌, refl, sym, ◌∙◌, ap, subst, inl, inr, arith}
use Rattle.std.specs.Prelude.{◌==◌, All, AllPairs}
use Rattle.std.proofs.lemmas.Bool.{eq-eqb}
use Rattle.std.proofs.Math.Nat.{min-le_left, min-le_right}
use Rattle.std.proofs.lemmas.List.{get_or_push, get_or_append_left, get_or_default, length_push}
use Rattle.lgm_graph.specs.Graph.{Graph, edges, edges_into, open_into, bare_node, AreListed}
use Rattle.lgm_graph.specs.declared.edge.Edge.{Edge}
use Rattle.lgm_route.specs.declared.label.Label.{Label}
use Rattle.lgm_route.specs.declared.limits.SearchBudget.{SearchBudget}
use Rattle.lgm_route.specs.declared.halt.Halt.{Halt}
use Rattle.lgm_route.specs.declared.halt.Halt.TheVariants.{NoMemory, Labels, Steps}
use Rattle.lgm_route.specs.inner.Numbered.{Ask}
use Rattle.lgm_route.specs.inner.Searching.{label_at, edge_at, no_edge, IsLabel, SomeRest, AreLabels}
use Rattle.lgm_route.specs.inner.Spending.{total, when, labels_of, look_over, looks_from, compares_of, most_allowed}
use Rattle.lgm_route.specs.inner.Fronts.{AreDistinct}
use Rattle.lgm_route.specs.inner.SearchState.{Ground, SearchState, IsSearch, IsBegun, MayHalt, IsHalted}
use Rattle.lgm_route.specs.inner.Best.{IsRestWithin, HaveRests, HaveSteps, IsUsedUp, start_of, rests_at, looks_at, steps_at, steps_of}
use Rattle.lgm_route.proofs.Rests.{trichotomy}
use Rattle.lgm_route.proofs.SpendingLaws.{total-le}
use Rattle.lgm_route.proofs.Sums.{total-sum, sum-part}

-- the rests of the first labels
record AreOf (graph : Graph) (request : Ask) (labels : List Label) (count : ℕ) (rests : List (List Edge)) : Type 0 where
  pub long : length rests ≡ count
  pub are : (i : ℕ) (d : List Edge) → i < count → IsLabel graph request labels (label_at labels i) (get_or rests i d)

-- with that of one more
one_more : (graph : Graph) (request : Ask) (labels : List Label) (count : ℕ) (rests : List (List Edge))
    → AreOf graph request labels count rests → (some : SomeRest graph request labels (label_at labels count))
    → AreOf graph request labels (suc count) (rests ++ some.0 ∷ [])
one_more graph request labels count rests of some =
    record { long = omega (arith, length_push rests some.0, of.long); are = λ i d within. by i d (trichotomy i count) within }
  where
    by : (i : ℕ) (d : List Edge) → (i < count) ⊎ (i ≡ count) ⊎ (count < i) → i < suc count
        → IsLabel graph request labels (label_at labels i) (get_or (rests ++ some.0 ∷ []) i d)
    by i d (inl p) within = subst (IsLabel graph request labels (label_at labels i))
        (sym (get_or_append_left rests (some.0 ∷ []) d i (omega (arith, of.long)))) (of.are i d p)
    by i d (inr (inl e)) within = subst (IsLabel graph request labels (label_at labels i))
        (sym (get_or_push rests some.0 d i (of.long ∙ sym e)))
        (subst (λ n. IsLabel graph request labels (label_at labels n) some.0) (sym e) some.1)
    by i d (inr (inr p)) within = absurd (omega arith)

gathered : (graph : Graph) (request : Ask) (labels : List Label) → AreLabels graph request labels → (count : ℕ) → count ≤ length labels
    → (rests : List (List Edge)) × AreOf graph request labels count rests
gathered graph request labels are zero few = ([], record { long = refl; are = λ i d within. absurd (omega arith) })
gathered graph request labels are (suc count) few =
    let before = gathered graph request labels are count (omega arith) in
    let some = are.sound count (omega arith) in
    (before.0 ++ some.0 ∷ [], one_more graph request labels count before.0 before.1 some)

-- the different rests of the first labels
record Made (graph : Graph) (request : Ask) (labels : List Label) (count : ℕ) : Type 0 where
  pub rests : List (List Edge)
  pub of : AreOf graph request labels count rests
  pub within : All (IsRestWithin (edges graph) request) rests
  pub different : AllPairs (λ rest other. rest ≢ other) rests

made : (graph : Graph) (request : Ask) (labels : List Label) → AreLabels graph request labels → AreDistinct graph request labels
    → (count : ℕ) → count ≤ length labels → count ≤ 2 ^ 32 → Made graph request labels count
made graph request labels are distinct count few low = record {
  rests = all.0;
  of = of;
  within = λ i d in_range. within i d (omega (arith, in_range, of.long));
  different = λ i j d before in_range same. distinct i j (get_or all.0 i d) before (omega (arith, in_range, of.long, few))
      (omega (arith, in_range, of.long, low)) (of.are i d (omega (arith, before, in_range, of.long)))
      (subst (IsLabel graph request labels (label_at labels j)) (sym same) (of.are j d (omega (arith, in_range, of.long))));
}
  where
    all : (rests : List (List Edge)) × AreOf graph request labels count rests
    all = gathered graph request labels are count few

    of : AreOf graph request labels count all.0
    of = all.1

    within : (i : ℕ) (d : List Edge) → i < count → IsRestWithin (edges graph) request (get_or all.0 i d)
    within i d in_range =
        let is = of.are i d in_range in
        record {
          node = (label_at labels i).node;
          joins = is.joins;
          short = omega (arith, is.long, are.few i (omega (arith, in_range, few)));
          in_time = omega (arith, is.waits, is.in_time);
        }

-- as many different rests as there are labels
pub rests_made : (graph : Graph) (request : Ask) (labels : List Label) → AreLabels graph request labels → AreDistinct graph request labels
    → (count : ℕ) → count ≤ length labels → count ≤ 2 ^ 32 → HaveRests (edges graph) request count
rests_made graph request labels are distinct count few low =
    let m = made graph request labels are distinct count few low in
    record { rests = m.rests; many = omega (arith, m.of.long); within = m.within; different = m.different }

-- ---- what a search of all of them takes

-- a label is at the node at which its rest begins
begins_at : (graph : Graph) (request : Ask) (labels : List Label) (label : Label) (rest : List Edge) → IsLabel graph request labels label rest
    → start_of request rest ≡ label.node
begins_at graph request labels label [] is = sym is.joins
begins_at graph request labels label (edge ∷ rest) is = is.joins.0.leaves

module _ (graph : Graph) (request : Ask) (labels : List Label) (listed : AreListed graph) (rests : List (List Edge))
    (of : AreOf graph request labels (length labels) rests) where
  start_at : (i : ℕ) → i < length labels → start_of request (get_or rests i []) ≡ (label_at labels i).node
  start_at i within = begins_at graph request labels (label_at labels i) (get_or rests i []) (of.are i [] within)

  labels_rest : (node : ℕ) → labels_of labels node ≤ rests_at request rests node
  unfolding labels_of
  labels_rest node =
      omega (
        arith,
        total-le (λ i. when ((label_at labels i).node == node) 1) (λ i. cond (start_of request (get_or rests i []) == node) 1 0) (length labels)
            (λ i within. let e : cond (start_of request (get_or rests i []) == node) 1 0 ≡ when ((label_at labels i).node == node) 1
            = ap (λ n. cond (n == node) 1 0) (start_at i within) in omega (arith, e)),
        ap (total (λ i. cond (start_of request (get_or rests i []) == node) 1 0)) (sym of.long),
        total-sum (λ rest. cond (start_of request rest == node) 1 0) [] rests,
      )

  -- the edges into a node are some of all
  looks_rest : (node : ℕ) → total (λ j. look_over labels (edge_at (edges_into graph node) j)) (length (edges_into graph node))
      ≤ looks_at request (edges graph) rests node
  looks_rest node =
      omega (
        arith,
        total-le (λ j. look_over labels (edge_at (edges_into graph node) j))
            (λ j. if (edge_at (edges_into graph node) j).to == node then 1 + rests_at request rests (edge_at (edges_into graph node) j).from else 0)
            (length (edges_into graph node)) (λ j within. each j within),
        total-sum (λ (edge : Edge). if edge.to == node then 1 + rests_at request rests edge.from else 0) no_edge (edges_into graph node),
        sum-part open_into (λ (edge : Edge). if edge.to == node then 1 + rests_at request rests edge.from else 0) (bare_node false) refl graph.nodes node,
      )
    where
      each : (j : ℕ) → j < length (edges_into graph node) → look_over labels (edge_at (edges_into graph node) j)
          ≤ (if (edge_at (edges_into graph node) j).to == node then 1 + rests_at request rests (edge_at (edges_into graph node) j).from else 0)
      each j within =
          let edge = edge_at (edges_into graph node) j in
          let to = (listed.into node edge (j, within, get_or_default (edges_into graph node) j edge no_edge within)).0 in
          let known : (if edge.to == node then 1 + rests_at request rests edge.from else 0) ≡ 1 + rests_at request rests edge.from
          = ap (λ b. if b then 1 + rests_at request rests edge.from else 0) (eq-eqb edge.to node to) in
          omega (arith, known, labels_rest edge.from)

  steps_made : most_allowed graph labels ≤ steps_of request (edges graph) rests
  unfolding most_allowed looks_from
  steps_made =
      omega (
        arith,
        total-le (λ i. 4 * total (λ j. look_over labels (edge_at (edges_into graph (label_at labels i).node) j)) (length (edges_into graph (label_at labels i).node)) + compares_of labels i)
            (λ i. steps_at request (edges graph) rests (start_of request (get_or rests i []))) (length labels) (λ i within. each i within),
        ap (total (λ i. steps_at request (edges graph) rests (start_of request (get_or rests i [])))) (sym of.long),
        total-sum (λ rest. steps_at request (edges graph) rests (start_of request rest)) [] rests,
      )
    where
      each : (i : ℕ) → i < length labels
          → 4 * total (λ j. look_over labels (edge_at (edges_into graph (label_at labels i).node) j)) (length (edges_into graph (label_at labels i).node)) + compares_of labels i
          ≤ steps_at request (edges graph) rests (start_of request (get_or rests i []))
      each i within =
          subst (λ node. 4 * total (λ j. look_over labels (edge_at (edges_into graph (label_at labels i).node) j)) (length (edges_into graph (label_at labels i).node)) + compares_of labels i
          ≤ steps_at request (edges graph) rests node) (sym (start_at i within))
          (omega (arith, looks_rest (label_at labels i).node, labels_rest (label_at labels i).node))

-- a search whose steps are those of its labels
pub have_steps : (graph : Graph) (request : Ask) (labels : List Label) (steps spent : ℕ) → AreListed graph → AreLabels graph request labels
    → AreDistinct graph request labels → steps < spent → (length labels < 2 ^ 32 → spent ≤ most_allowed graph labels)
    → HaveSteps (edges graph) request steps
have_steps graph request labels steps spent listed are distinct over few = by (trichotomy (length labels) (2 ^ 32))
  where
    every : length labels ≤ 2 ^ 32 → (length labels < 2 ^ 32) ⊎ (2 ^ 32 ≤ length labels) → HaveSteps (edges graph) request steps
    every low (inl p) =
        let m = made graph request labels are distinct (length labels) (omega arith) low in
        record {
          rests = m.rests;
          many = inl (omega (arith, over, few p, steps_made graph request labels listed m.rests m.of));
          within = m.within;
          different = m.different;
        }
    every low (inr p) =
        let m = made graph request labels are distinct (length labels) (omega arith) low in
        record { rests = m.rests; many = inr (omega (arith, m.of.long, p)); within = m.within; different = m.different }

    by : (length labels < 2 ^ 32) ⊎ (length labels ≡ 2 ^ 32) ⊎ (2 ^ 32 < length labels) → HaveSteps (edges graph) request steps
    by (inl p) = every (omega arith) (inl p)
    by (inr (inl e)) = every (omega arith) (inr (omega arith))
    by (inr (inr p)) =
        let m = made graph request labels are distinct (2 ^ 32) (omega arith) (omega arith) in
        record { rests = m.rests; many = inr (omega (arith, m.of.long)); within = m.within; different = m.different }

abbrev IsUsedUpIn : Ground → SearchBudget → Type 0
IsUsedUpIn ground budget = IsUsedUp (edges ground.graph) ground.request budget

-- a search that stopped, though no memory was refused, used up its budget
pub used_up : (s : SearchState) (halt : Halt) → IsSearch s → MayHalt s halt → halt ≢ NoMemory
    → IsUsedUpIn s.ground s.ground.budget
used_up s NoMemory is may other = absurd (other refl)
used_up s Steps is may other =
    inr (
      may.0.1,
      have_steps s.ground.graph s.ground.request s.labels s.ground.budget.most_steps s.spent is.ground.listed is.labelled is.distinct may.0.0 may.1,
    )
used_up s Labels is may other =
    let most = s.ground.budget.most_labels in
    inl (
      may.1,
      rests_made s.ground.graph s.ground.request s.labels is.labelled is.distinct (min most (2 ^ 32))
          (omega (arith, may.0, min-le_left most (2 ^ 32))) (min-le_right most (2 ^ 32)),
    )

-- so did one that was begun over this graph
pub used_up_by : (graph : Graph) (request : Ask) (budget : SearchBudget) (before after : SearchState) (halt : Halt)
    → IsBegun graph request budget before → IsHalted before after halt → IsSearch after → halt ≢ NoMemory
    → IsUsedUp (edges graph) request budget
used_up_by graph request budget before after halt begun halted is other =
    subst (λ g. IsUsedUp (edges g) request budget) begun.graph_is
    (subst (λ r. IsUsedUp (edges before.ground.graph) r budget) begun.request_is
    (subst (λ b. IsUsedUpIn before.ground b) begun.budget_is
    (subst (λ (g : Ground). IsUsedUpIn g g.budget) halted.ground (used_up after halt is (halted.may begun.paid) other))))
