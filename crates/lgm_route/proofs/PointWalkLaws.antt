-- From numbered nodes to points: the walks over numbered edges are those over edges between points.
use Rattle.std.proofs.Common.{◌≡◌, ◌⊎◌, ℕ, ◌+◌, ◌^◌, ◌<◌, ◌≤◌, List, [], Option, Bool, true, false, cond, if◌then◌else◌, inl, inr}
use Rattle.std.proofs.Common.{◌∷◌, length, get_or, map, Some, None, refl, sym, ◌∙◌, ap, subst, arith}
use Rattle.std.specs.Prelude.{Contains, All, AllPairs, ◌≢◌, min, ◌==◌}
use Rattle.std.proofs.lemmas.Bool.{cases_Bool, eqb-true}
use Rattle.std.proofs.lemmas.List.Sums.{sum_by-le-sum_by}
use Rattle.lgm_store.proofs.Points.{is_point-self}
use Rattle.lgm_route.proofs.Sums.{sum-map}
use Rattle.std.specs.List.{position}
use Rattle.std.specs.Ordering.{nat_cmp}
use Rattle.std.specs.Cmp.Lexicographic.{slice_cmp}
use Rattle.std.proofs.lemmas.List.{length-map, get_or-map}
use Rattle.lgm_wire.specs.declared.point.Point.{Point}
use Rattle.lgm_store.specs.Rows.{is_point}
use Rattle.lgm_graph.specs.Edges.{PointEdge}
use Rattle.lgm_graph.specs.declared.edge.Edge.{Edge}
use Rattle.lgm_graph.specs.Graph.{Graph, number_of, numbered_in, IsNumbered, no_point, edge_between, edges, point_edges, AreListed}
use Rattle.lgm_graph.proofs.Numbers.{number_none, number_some, get_number}
use Rattle.lgm_route.specs.declared.request.Request.{Request}
use Rattle.lgm_route.specs.inner.Numbered.{Ask}
use Rattle.lgm_route.specs.Routes as routes
use Rattle.lgm_route.specs.inner.Numbered as walks
use Rattle.lgm_route.specs.inner.Best as numbers
use Rattle.lgm_route.specs.declared.limits.SearchBudget.{SearchBudget}
use Rattle.lgm_route.specs.inner.Best.{AreAlike, ask_of}
use Rattle.lgm_route.specs.declared.limits.RouteLimits.{RouteLimits}
use Rattle.lgm_route.specs.Preferred as preferred
use Rattle.lgm_route.specs.Preferred.{IsInTime, IsWithin, IsLeastBy, IsPreferred}
use Rattle.lgm_route.proofs.WalkOrderLaws.{contains_map, contained_map, over, owed_over, walk_numbered, key, key_over, keys_same, time_over, time_back, due_over}

-- ---- walks

module _ (graph : Graph) (listed : AreListed graph) (request : Request) (payer payee : ℕ)
    (payer_is : position (is_point request.payer) graph.points ≡ Some payer)
    (payee_is : position (is_point request.payee) graph.points ≡ Some payee) (limits : RouteLimits)
    (terms : Option walks.Terms) where
  abbrev numbered : Ask
  numbered = ask_of payer payee request limits terms

  abbrev point_at : ℕ → Point
  point_at number = get_or graph.points number no_point

  stands : (p : Point) (n : ℕ) → position (is_point p) graph.points ≡ Some n → point_at n ≡ p
  stands p n is =
      let number = number_some graph.points p n is in
      ap point_at (sym number.0)
      ∙ get_number graph.points p no_point (subst (λ (k : ℕ). k < length graph.points) (sym number.0) number.1)

  -- a walk over numbered edges is one over edges between points
  pub rest_over : (walk : List Edge) (node : ℕ) → walks.IsRest (edges graph) numbered node walk
      → routes.IsRest (point_edges graph) request (point_at node) (over graph.points walk)
  rest_over [] node joins = ap point_at joins ∙ stands request.payee payee payee_is
  rest_over (by_number ∷ rest) node joins = (
    record {
      there = contains_map (edge_between graph.points) (edges graph) by_number joins.0.there;
      leaves = ap point_at joins.0.leaves;
      above_min = joins.0.above_min;
      below_max = let same = owed_over graph.points request.amount rest in let h = joins.0.below_max in omega arith;
    },
    rest_over rest by_number.to joins.1,
  )

  -- and each walk over edges between points is one over numbered edges
  rest_back : (walk : List PointEdge) (point : Point) (node : ℕ) → number_of graph.points point ≡ node → routes.IsRest (point_edges graph) request point walk →
      (back : List Edge) × (over graph.points back ≡ walk) × walks.IsRest (edges graph) numbered node back
  rest_back [] point node number joins = (
    [],
    refl,
    sym number ∙ ap (number_of graph.points) joins
        ∙ (number_some graph.points request.payee payee payee_is).0,
  )
  rest_back (edge ∷ rest) point node number joins =
      let found = contained_map (edge_between graph.points) (edges graph) edge joins.0.there.0 joins.0.there.1 joins.0.there.2 in
      let by_number = found.0 in
      let same : edge_between graph.points by_number ≡ edge = found.2 in
      let numbers = (listed.each by_number found.1).back in
      let from : by_number.from ≡ node =
      sym (ap (λ l. l.from) numbers) ∙ ap (λ e. number_of graph.points e.from) same
      ∙ ap (number_of graph.points) joins.0.leaves ∙ number in
      let to : number_of graph.points edge.to ≡ by_number.to = ap (λ e. number_of graph.points e.to) (sym same) ∙ ap (λ l. l.to) numbers in
      let later = rest_back rest edge.to by_number.to to joins.1 in
      let cost : walks.owed request.amount later.0 ≡ routes.owed request.amount rest =
      sym (owed_over graph.points request.amount later.0) ∙ ap (routes.owed request.amount) later.1 in (
        by_number ∷ later.0,
        ap (λ e. e ∷ over graph.points later.0) same ∙ ap (λ r. edge ∷ r) later.1,
        (
          record {
            there = found.1;
            leaves = from;
            above_min = let h = joins.0.above_min in let e : by_number.min ≡ edge.min = ap (λ x. x.min) same in omega arith;
            below_max = let h = joins.0.below_max in let e : by_number.max ≡ edge.max = ap (λ x. x.max) same in omega arith;
          },
          later.2,
        ),
      )

  -- different ones stay different
  rest_same : (rest : List Edge) (node : ℕ) → walks.IsRest (edges graph) numbered node rest
      → map (numbered_in graph.points) (over graph.points rest) ≡ rest
  rest_same [] node joins = refl
  rest_same (edge ∷ rest) node joins =
      ap (λ e. e ∷ map (numbered_in graph.points) (over graph.points rest)) (listed.each edge joins.0.there).back
      ∙ ap (λ r. edge ∷ r) (rest_same rest edge.to joins.1)

  rest_within : (rest : List Edge) → numbers.IsRestWithin (edges graph) numbered rest
      → preferred.IsRestWithin limits (point_edges graph) request (over graph.points rest)
  rest_within rest is = record {
    node = point_at is.node;
    joins = rest_over rest is.node is.joins;
    short = omega (arith, is.short, length-map rest (edge_between graph.points));
    in_time = due_over graph.points limits.most_delay rest is.in_time;
  }

  -- rests over numbered edges, over edges between points
  module _ (rests : List (List Edge)) (are : All (numbers.IsRestWithin (edges graph) numbered) rests) where
    long : length (map (over graph.points) rests) ≡ length rests
    long = length-map rests (over graph.points)

    at : (i : ℕ) (d : List PointEdge) → i < length (map (over graph.points) rests)
        → get_or (map (over graph.points) rests) i d ≡ over graph.points (get_or rests i [])
    at i d in_range = get_or-map (over graph.points) rests i [] d (omega (arith, in_range, long))

    back : (i : ℕ) → i < length rests → map (numbered_in graph.points) (over graph.points (get_or rests i [])) ≡ get_or rests i []
    back i in_range =
        let is = are i [] in_range in
        rest_same (get_or rests i []) is.node is.joins

    all_over : All (preferred.IsRestWithin limits (point_edges graph) request) (map (over graph.points) rests)
    all_over i d in_range = subst (preferred.IsRestWithin limits (point_edges graph) request) (sym (at i d in_range))
        (rest_within (get_or rests i []) (are i [] (omega (arith, in_range, long))))

    differ_over : AllPairs (λ rest other. rest ≢ other) rests → AllPairs (λ rest other. rest ≢ other) (map (over graph.points) rests)
    differ_over different i j d before in_range same =
        different i j [] before (omega (arith, in_range, long))
        (sym (back i (omega (arith, before, in_range, long))) ∙ ap (map (numbered_in graph.points))
        (sym (at i d (omega (arith, before, in_range))) ∙ same ∙ at j d in_range) ∙ back j (omega (arith, in_range, long)))

  pub rests_over : (count : ℕ) → numbers.HaveRests (edges graph) numbered count → preferred.HaveRests limits (point_edges graph) request count
  rests_over count have = record {
    rests = map (over graph.points) have.rests;
    many = omega (arith, have.many, length-map have.rests (over graph.points));
    within = all_over have.rests have.within;
    different = differ_over have.rests have.within have.different;
  }

  -- they begin where they did
  start_over : (rest : List Edge) → preferred.start_of request (over graph.points rest) ≡ point_at (numbers.start_of numbered rest)
  start_over [] = sym (stands request.payee payee payee_is)
  start_over (by_number ∷ rest) = refl

  -- the same number is the same point
  one_node : (a b : ℕ) (p : Point) (n : ℕ) → p ≡ point_at a → (if a == b then n else 0) ≤ (if is_point (point_at b) p then n else 0)
  one_node a b p n at = by (cases_Bool (a == b))
    where
      by : (a == b ≡ true) ⊎ (a == b ≡ false) → (if a == b then n else 0) ≤ (if is_point (point_at b) p then n else 0)
      by (inl e) =
          let same : is_point (point_at b) p ≡ true = ap (is_point (point_at b)) (at ∙ ap point_at (eqb-true a b e)) ∙ is_point-self (point_at b) in
          rw (e, same) (omega arith)
      by (inr e) = rw e (omega arith)

  rests_at_over : (rests : List (List Edge)) (node : ℕ)
      → numbers.rests_at numbered rests node ≤ preferred.rests_at request (map (over graph.points) rests) (point_at node)
  rests_at_over rests node =
      omega (
        arith,
        sum-map (over graph.points) (λ rest. cond (is_point (point_at node) (preferred.start_of request rest)) 1 0) rests,
        sum_by-le-sum_by (λ rest. cond (numbers.start_of numbered rest == node) 1 0)
            (λ rest. cond (is_point (point_at node) (preferred.start_of request (over graph.points rest))) 1 0) rests
            (λ rest. one_node (numbers.start_of numbered rest) node (preferred.start_of request (over graph.points rest)) 1 (start_over rest)),
      )

  looks_at_over : (rests : List (List Edge)) (node : ℕ) → numbers.looks_at numbered (edges graph) rests node
      ≤ preferred.looks_at request (point_edges graph) (map (over graph.points) rests) (point_at node)
  looks_at_over rests node =
      omega (
        arith,
        sum-map (edge_between graph.points) (λ (edge : PointEdge). if is_point (point_at node) edge.to then 1 + preferred.rests_at request (map (over graph.points) rests) edge.from else 0) (edges graph),
        sum_by-le-sum_by (λ (edge : Edge). if edge.to == node then 1 + numbers.rests_at numbered rests edge.from else 0)
            (λ (edge : Edge). if is_point (point_at node) (point_at edge.to) then 1 + preferred.rests_at request (map (over graph.points) rests) (point_at edge.from) else 0) (edges graph)
            (λ edge. each edge),
      )
    where
      more : (b : Bool) (n m : ℕ) → n ≤ m → (if b then n else 0) ≤ (if b then m else 0)
      more true n m h = h
      more false n m h = omega arith

      each : (edge : Edge) → (if edge.to == node then 1 + numbers.rests_at numbered rests edge.from else 0)
          ≤ (if is_point (point_at node) (point_at edge.to) then 1 + preferred.rests_at request (map (over graph.points) rests) (point_at edge.from) else 0)
      each edge =
          omega (
            arith,
            one_node edge.to node (point_at edge.to) (1 + numbers.rests_at numbered rests edge.from) refl,
            more (is_point (point_at node) (point_at edge.to)) (1 + numbers.rests_at numbered rests edge.from)
                (1 + preferred.rests_at request (map (over graph.points) rests) (point_at edge.from)) (omega (arith, rests_at_over rests edge.from)),
          )

  -- and a search of them takes as many steps
  steps_of_over : (rests : List (List Edge)) → numbers.steps_of numbered (edges graph) rests
      ≤ preferred.steps_of request (point_edges graph) (map (over graph.points) rests)
  steps_of_over rests =
      omega (
        arith,
        sum-map (over graph.points) (λ rest. preferred.steps_at request (point_edges graph) (map (over graph.points) rests) (preferred.start_of request rest)) rests,
        sum_by-le-sum_by (λ rest. numbers.steps_at numbered (edges graph) rests (numbers.start_of numbered rest))
            (λ rest. preferred.steps_at request (point_edges graph) (map (over graph.points) rests) (preferred.start_of request (over graph.points rest))) rests (λ rest. each rest),
      )
    where
      each : (rest : List Edge) → numbers.steps_at numbered (edges graph) rests (numbers.start_of numbered rest)
          ≤ preferred.steps_at request (point_edges graph) (map (over graph.points) rests) (preferred.start_of request (over graph.points rest))
      each rest =
          subst (λ p. numbers.steps_at numbered (edges graph) rests (numbers.start_of numbered rest)
          ≤ preferred.steps_at request (point_edges graph) (map (over graph.points) rests) p) (sym (start_over rest))
          (omega (arith, looks_at_over rests (numbers.start_of numbered rest), rests_at_over rests (numbers.start_of numbered rest)))

  pub steps_over : (steps : ℕ) → numbers.HaveSteps (edges graph) numbered steps → preferred.HaveSteps limits (point_edges graph) request steps
  steps_over steps have = record {
    rests = map (over graph.points) have.rests;
    many = by have.many;
    within = all_over have.rests have.within;
    different = differ_over have.rests have.within have.different;
  }
    where
      by : (steps < numbers.steps_of numbered (edges graph) have.rests) ⊎ (2 ^ 32 ≤ length have.rests)
          → (steps < preferred.steps_of request (point_edges graph) (map (over graph.points) have.rests)) ⊎ (2 ^ 32 ≤ length (map (over graph.points) have.rests))
      by (inl p) = inl (omega (arith, p, steps_of_over have.rests))
      by (inr p) = inr (omega (arith, p, length-map have.rests (over graph.points)))

  pub used_over : (budget : SearchBudget) → numbers.IsUsedUp (edges graph) numbered budget
      → preferred.IsUsedUp limits (point_edges graph) request budget
  used_over budget (inl p) = inl (p.0, rests_over (min budget.most_labels (2 ^ 32)) p.1)
  used_over budget (inr p) = inr (p.0, steps_over budget.most_steps p.1)

  usable_back : (walk : List PointEdge) → routes.IsUsable (point_edges graph) request walk → IsWithin limits walk
      → (back : List Edge) × (over graph.points back ≡ walk) × walks.IsUsable (edges graph) numbered back
  usable_back walk usable within =
      let back = rest_back walk request.payer payer (number_some graph.points request.payer payer payer_is).0 usable.joins in
      let long : length back.0 ≡ length walk = sym (length-map back.0 (edge_between graph.points)) ∙ ap length back.1 in (
        back.0,
        back.1,
        record {
          some = omega (arith, usable.some, long);
          few = omega (arith, usable.few, within.short, long);
          joins = back.2;
          in_time = time_back graph.points limits.most_delay back.0 (subst (IsInTime limits.most_delay) (sym back.1) within.in_time);
        },
      )

  pub none_over : ((walk : List Edge) → walks.IsUsable (edges graph) numbered walk → ⊥) → (walk : List PointEdge)
      → routes.IsUsable (point_edges graph) request walk → IsWithin limits walk → ⊥
  none_over none walk usable within = let back = usable_back walk usable within in none back.0 back.2

  pub usable_over : (walk : List Edge) → walks.IsUsable (edges graph) numbered walk
      → routes.IsUsable (point_edges graph) request (over graph.points walk)
  usable_over walk usable =
      let long = length-map walk (edge_between graph.points) in
      record {
        some = omega (arith, usable.some, long);
        few = omega (arith, usable.few, long);
        joins =
            subst (λ p. routes.IsRest (point_edges graph) request p (over graph.points walk))
            (stands request.payer payer payer_is) (rest_over walk payer usable.joins);
      }

  pub within_over : (walk : List Edge) → walks.IsUsable (edges graph) numbered walk → IsWithin limits (over graph.points walk)
  within_over walk usable =
      record {
        short = omega (arith, usable.few, length-map walk (edge_between graph.points));
        in_time = time_over graph.points limits.most_delay walk usable.in_time;
      }

  pub least_over : (penalty : PointEdge → ℕ → ℕ) → AreAlike graph terms penalty → (walk : List Edge) → walks.IsLeast (edges graph) numbered walk
      → IsLeastBy penalty limits (point_edges graph) request (over graph.points walk)
  least_over penalty alike walk least =
      record {
        usable = usable_over walk least.usable;
        within = within_over walk least.usable;
        first = λ other usable within before. first (usable_back other usable within) before;
      }
    where
      own : (w : List Edge) → walks.IsUsable (edges graph) numbered w
          → key numbered w ≡ key_over penalty request.amount (over graph.points w)
      own w usable = sym (keys_same graph numbered penalty alike w (walk_numbered graph listed numbered w payer usable.joins))

      first : {other : List PointEdge} → (back : List Edge) × (over graph.points back ≡ other) × walks.IsUsable
          (edges graph) numbered back → IsPreferred penalty request other (over graph.points walk) → ⊥
      first {other} back before =
          let left : key numbered back.0 ≡ key_over penalty request.amount other =
          own back.0 back.2 ∙ ap (key_over penalty request.amount) back.1 in
          least.first back.0 back.2 (ap (λ k. slice_cmp nat_cmp k (key numbered walk)) left
          ∙ ap (slice_cmp nat_cmp (key_over penalty request.amount other)) (own walk least.usable) ∙ before)

-- ---- ends without a number

-- both ends of an edge have one
edge_numbered : (graph : Graph) → AreListed graph → (edge : PointEdge) → Contains (point_edges graph) edge
    → IsNumbered graph.points edge.from × IsNumbered graph.points edge.to
edge_numbered graph listed edge there =
    let found = contained_map (edge_between graph.points) (edges graph) edge there.0 there.1 there.2 in
    let by_number = found.0 in
    let is = listed.each by_number found.1 in
    let from : number_of graph.points edge.from ≡ by_number.from = ap (λ e. number_of graph.points e.from) (sym found.2) ∙ ap (λ l. l.from) is.back in
    let to : number_of graph.points edge.to ≡ by_number.to = ap (λ e. number_of graph.points e.to) (sym found.2) ∙ ap (λ l. l.to) is.back in
    (let h = is.from in omega arith, let h = is.to in omega arith)

pub none_from : (graph : Graph) (request : Request) → AreListed graph → position (is_point request.payer)
    graph.points ≡ None → (walk : List PointEdge) → routes.IsUsable (point_edges graph) request walk → ⊥
none_from graph request listed none [] usable = omega (arith, usable.some)
none_from graph request listed none (edge ∷ rest) usable =
    let step = usable.joins.0 in
    number_none graph.points request.payer (subst (IsNumbered graph.points) step.leaves (edge_numbered graph listed edge step.there).0)
    none

numbered_to : (graph : Graph) (request : Request) → AreListed graph → (walk : List PointEdge) (point : Point)
    → IsNumbered graph.points point → routes.IsRest (point_edges graph) request point walk
    → IsNumbered graph.points request.payee
numbered_to graph request listed [] point number joins = subst (IsNumbered graph.points) joins number
numbered_to graph request listed (edge ∷ rest) point number joins =
    numbered_to graph request listed rest edge.to (edge_numbered graph listed edge joins.0.there).1 joins.1

pub none_to : (graph : Graph) (request : Request) → AreListed graph → position (is_point request.payee)
    graph.points ≡ None → (walk : List PointEdge) → routes.IsUsable (point_edges graph) request walk → ⊥
none_to graph request listed none [] usable = omega (arith, usable.some)
none_to graph request listed none (edge ∷ rest) usable =
    number_none graph.points request.payee
    (numbered_to graph request listed rest edge.to (edge_numbered graph listed edge usable.joins.0.there).1 usable.joins.1) none
