-- Labels, and the rests that they represent.
use Rattle.std.proofs.Common.{◌≡◌, ◌⊎◌, ℕ, ◌+◌, ◌<◌, ◌≤◌, List, [], ◌∷◌, ◌++◌, length, Option}
use Rattle.std.proofs.Common.{Some, None, refl, sym, ◌∙◌, ap, subst, inl, inr, arith}
use Rattle.std.proofs.Common.{length-append}
use Rattle.std.proofs.lemmas.List.{get_or_append_left, append_assoc, append-nil}
use Rattle.lgm_graph.specs.Graph.{Graph, edges, edges_into}
use Rattle.lgm_graph.specs.declared.edge.Edge.{Edge}
use Rattle.lgm_route.specs.inner.Numbered.{Ask}
use Rattle.lgm_route.specs.declared.label.Label.{Label}
use Rattle.lgm_route.specs.inner.Numbered.{owed, worth, counted, delay, most_delay, IsRest, IsStep, IsUsable}
use Rattle.lgm_route.specs.inner.Searching.{Low, cost, walk_key, Dominates, label_at, no_label, number_at, Spells, IsLabel, IsWalk, bound_of, IsNoBetter, Has}
use Rattle.lgm_route.specs.inner.Searching.{IsHopeless, Reaches, IsRelaxed, IsLeft, IsSettled, AreLabels, IsFound, Grows, Begins, first_of, edge_at, IsUpperBound}
use Rattle.lgm_route.specs.inner.Bounding.{AreLow, MayCarry}
use Rattle.lgm_route.proofs.Orders.{NotAfter-trans}
use Rattle.lgm_route.proofs.Rests.{Dominates-refl, Dominates-trans, Dominates-owed, Dominates-weight, Dominates-prepend, Dominates-walk}
use Rattle.lgm_route.proofs.Rests.{penalty-rises, step-cheaper, walk_less, fee-monotone, owed-least}

-- a label represents one rest
pub Spells-unique : (graph : Graph) (labels : List Label) (label : Label) (rest also : List Edge) →
    Spells graph labels label rest → Spells graph labels label also → length rest ≡ length also → rest ≡ also
Spells-unique graph labels label [] [] h k e = refl
Spells-unique graph labels label [] (other ∷ also) h k e = absurd (omega arith)
Spells-unique graph labels label (edge ∷ rest) [] h k e = absurd (omega arith)
Spells-unique graph labels label (edge ∷ rest) (other ∷ also) h k e =
    let same : edge ≡ other = sym h.0 ∙ k.0 in
    let tail : rest ≡ also = Spells-unique graph labels (label_at labels label.parent) rest also h.2 k.2 (omega arith) in
    cc

pub label-unique : (graph : Graph) (request : Ask) (labels : List Label) (label : Label) (rest also : List Edge) →
    IsLabel graph request labels label rest → IsLabel graph request labels label also → rest ≡ also
label-unique graph request labels label rest also h k = Spells-unique graph labels label rest also h.spells k.spells (h.long ∙ sym k.long)

-- among more labels it represents the same
pub label_left : (labels more : List Label) (i : ℕ) → i < length labels → label_at (labels ++ more) i ≡ label_at labels i
label_left labels more i within = get_or_append_left labels more no_label i within

longer : (labels more : List Label) → length labels ≤ length (labels ++ more)
longer labels more = omega (arith, length-append labels more)

pub Begins-grows : (graph : Graph) (labels more : List Label) (label : Label) → Begins graph labels label → Begins graph (labels ++ more) label
Begins-grows graph labels more label h = record {
  parent = omega (arith, longer labels more, h.parent);
  at = subst (λ l. label.at < length (edges_into graph l.node)) (sym (label_left labels more label.parent h.parent)) h.at;
}

pub first-grows : (graph : Graph) (labels more : List Label) (label : Label) → label.parent < length labels
    → first_of graph (labels ++ more) label ≡ first_of graph labels label
first-grows graph labels more label within = ap (λ l. edge_at (edges_into graph l.node) label.at) (label_left labels more label.parent within)

pub Spells-grows : (graph : Graph) (labels more : List Label) (label : Label) (rest : List Edge) →
    Spells graph labels label rest → Spells graph (labels ++ more) label rest
Spells-grows graph labels more label [] h = tt
Spells-grows graph labels more label (edge ∷ rest) h = (
  first-grows graph labels more label h.1.parent ∙ h.0,
  Begins-grows graph labels more label h.1,
  subst (λ l. Spells graph (labels ++ more) l rest) (sym (label_left labels more label.parent h.1.parent))
      (Spells-grows graph labels more (label_at labels label.parent) rest h.2),
)

pub label-grows : (graph : Graph) (request : Ask) (labels more : List Label) (label : Label) (rest : List Edge) →
    IsLabel graph request labels label rest → IsLabel graph request (labels ++ more) label rest
label-grows graph request labels more label rest h =
    record { spells = Spells-grows graph labels more label rest h.spells; long = h.long; joins = h.joins; owes = h.owes; spends = h.spends; waits = h.waits; in_time = h.in_time }

pub walk-grows : (graph : Graph) (request : Ask) (labels more : List Label) (label : Label) (walk : List Edge) →
    IsWalk graph request labels label walk → IsWalk graph request (labels ++ more) label walk
walk-grows graph request labels more label walk h =
    record {
      spells = Spells-grows graph labels more label walk h.spells;
      long = h.long;
      some = h.some;
      few = h.few;
      joins = h.joins;
      sends = h.sends;
      costs = h.costs;
      in_time = h.in_time;
    }

pub has-grows : (graph : Graph) (request : Ask) (labels more : List Label) (node : ℕ) (rest : List Edge) →
    Has graph request labels node rest → Has graph request (labels ++ more) node rest
has-grows graph request labels more node rest h =
    let same = label_left labels more h.place h.within in
    record {
      place = h.place;
      within = omega (arith, longer labels more, h.within);
      at = ap (λ l. l.node) same ∙ h.at;
      other = h.other;
      is =
          subst (λ l. IsLabel graph request (labels ++ more) l h.other) (sym same)
          (label-grows graph request labels more (label_at labels h.place) h.other h.is);
      dominates = h.dominates;
    }

pub no_better-grows : (graph : Graph) (request : Ask) (labels more : List Label) (upper_bound : ℕ) (found : Option Label) (walk : List Edge) →
    IsNoBetter graph request labels upper_bound found walk → IsNoBetter graph request (labels ++ more) upper_bound found walk
no_better-grows graph request labels more upper_bound None walk h = h
no_better-grows graph request labels more upper_bound (Some found) walk h = (h.0, walk-grows graph request labels more found h.0 h.1, h.2)

pub found-grows : (graph : Graph) (request : Ask) (labels more : List Label) (upper_bound : ℕ) (found : Option Label) →
    IsFound graph request labels upper_bound found → IsFound graph request (labels ++ more) upper_bound found
found-grows graph request labels more upper_bound None h = tt
found-grows graph request labels more upper_bound (Some found) h = (((h.0).0, walk-grows graph request labels more found (h.0).0 (h.0).1), h.1)

-- a rest that dominates another can be pruned only if that one can
pub hopeless-dominates : (request : Ask) (low : Low) (bound node : ℕ) (a b : List Edge) → Dominates request a b →
    IsHopeless request low bound node a → IsHopeless request low bound node b
hopeless-dominates request low bound node a b h (inl hopeless) = inl (omega (arith, hopeless, h.fewer, Dominates-weight request a b h))
hopeless-dominates request low bound node a b h (inr much) = inr (omega (arith, much, h.cheaper))

hopeless-lower : (request : Ask) (low : Low) (bound lower node : ℕ) (rest : List Edge) → lower ≤ bound →
    IsHopeless request low bound node rest → IsHopeless request low lower node rest
hopeless-lower request low bound lower node rest less (inl h) = inl (omega (arith, h, less))
hopeless-lower request low bound lower node rest less (inr h) = inr h

pub reaches-dominates : (graph : Graph) (request : Ask) (low : Low) (upper_bound : ℕ)
    (labels : List Label) (found : Option Label) (node : ℕ) (a b : List Edge) → Dominates request a b →
    Reaches graph request low upper_bound labels found node a → Reaches graph request low upper_bound labels found node b
reaches-dominates graph request low upper_bound labels found node a b h (inl has) =
    inl (record {
      place = has.place;
      within = has.within;
      at = has.at;
      other = has.other;
      is = has.is;
      dominates = Dominates-trans request has.other a b has.dominates h;
    })
reaches-dominates graph request low upper_bound labels found node a b h (inr hopeless) =
    inr (hopeless-dominates request low (bound_of upper_bound found) node a b h hopeless)

-- what is preserved as the search grows
module _ (graph : Graph) (request : Ask) (low : Low) (upper_bound : ℕ) (labels : List Label)
    (found : Option Label) (after : List Label) (now : Option Label)
    (grows : Grows graph request upper_bound labels found after now) where
  pub has-later : (node : ℕ) (rest : List Edge) → Has graph request labels node rest → Has graph request after node rest
  has-later node rest h = subst (λ l. Has graph request l node rest) (sym grows.is) (has-grows graph request labels grows.more node rest h)

  pub label-later : (label : Label) (rest : List Edge) → IsLabel graph request labels label rest → IsLabel graph request after label rest
  label-later label rest h = subst (λ l. IsLabel graph request l label rest) (sym grows.is) (label-grows graph request labels grows.more label rest h)

  pub at-later : (i : ℕ) → i < length labels → label_at after i ≡ label_at labels i
  at-later i within = ap (λ l. label_at l i) grows.is ∙ label_left labels grows.more i within

  pub long-later : length labels ≤ length after
  long-later = omega (arith, longer labels grows.more, ap length grows.is)

  pub reaches-later : (node : ℕ) (rest : List Edge) → Reaches graph request low upper_bound labels found node rest
      → Reaches graph request low upper_bound after now node rest
  reaches-later node rest (inl h) = inl (has-later node rest h)
  reaches-later node rest (inr h) = inr (hopeless-lower request low (bound_of upper_bound found) (bound_of upper_bound now) node rest grows.lower h)

  pub passed-later : (edge : Edge) (rest : List Edge) → IsRelaxed graph request low upper_bound labels found edge
      rest → IsRelaxed graph request low upper_bound after now edge rest
  passed-later edge rest h =
      record { whole = λ from. grows.first (edge ∷ rest) (h.whole from); longer = λ few timely. reaches-later edge.from (edge ∷ rest) (h.longer few timely) }

  pub left-later : (node : ℕ) (rest : List Edge) → IsLeft graph request low upper_bound labels found node rest
      → IsLeft graph request low upper_bound after now node rest
  left-later node rest h = λ edge there to min max. passed-later edge rest (h edge there to min max)

  pub settled-later : (label : Label) → IsSettled graph request low upper_bound labels found label → IsSettled graph request low upper_bound after now label
  settled-later label h = record { rest = h.rest; is = label-later label h.rest h.is; done = by h.done }
    where
      by : IsHopeless request low (bound_of upper_bound found) label.node h.rest ⊎ ((other : List Edge)
          × Dominates request other h.rest × IsLeft graph request low upper_bound labels found label.node other) →
          IsHopeless request low (bound_of upper_bound now) label.node h.rest ⊎ ((other : List Edge)
          × Dominates request other h.rest × IsLeft graph request low upper_bound after now label.node other)
      by (inl p) = inl (hopeless-lower request low (bound_of upper_bound found) (bound_of upper_bound now) label.node h.rest grows.lower p)
      by (inr p) = inr (p.0, p.1, left-later label.node p.0 p.2)

pub grows-refl : (graph : Graph) (request : Ask) (upper_bound : ℕ) (labels : List Label)
    (found : Option Label) → Grows graph request upper_bound labels found labels found
grows-refl graph request upper_bound labels found = record { more = []; is = sym (append-nil labels); lower = omega arith; first = λ walk h. h }

pub grows-trans : (graph : Graph) (request : Ask) (upper_bound : ℕ) (a b c : List Label) (x y z : Option Label) →
    Grows graph request upper_bound a x b y → Grows graph request upper_bound b y c z → Grows graph request upper_bound a x c z
grows-trans graph request upper_bound a b c x y z h k =
    record {
      more = h.more ++ k.more;
      is = k.is ∙ ap (λ l. l ++ k.more) h.is ∙ append_assoc a h.more k.more;
      lower = omega (arith, h.lower, k.lower);
      first = λ walk p. k.first walk (h.first walk p);
    }

-- once all labels are settled, every rest is reached
module _ (graph : Graph) (request : Ask) (low : Low) (upper_bound : ℕ) (labels : List Label) (found : Option Label)
    (short : request.hops ≤ 20) (labelled : AreLabels graph request labels) (are_low : AreLow (edges graph) request low)
    (settled : (i : ℕ) → i < length labels → IsSettled graph request low upper_bound labels found (label_at labels i)) where
  -- a rest with a label is pruned, or one that dominates it was relaxed
  abbrev Onward : ℕ → List Edge → Type 0
  Onward node rest =
      IsHopeless request low (bound_of upper_bound found) node rest ⊎ ((other : List Edge)
      × Dominates request other rest × IsLeft graph request low upper_bound labels found node other)

  onward : (node : ℕ) (rest : List Edge) → Reaches graph request low upper_bound labels found node rest → Onward node rest
  onward node rest (inr hopeless) = inl hopeless
  onward node rest (inl h) = by (subst (λ n. Onward n s.rest) h.at s.done)
    where
      s : IsSettled graph request low upper_bound labels found (label_at labels h.place)
      s = settled h.place h.within

      same : s.rest ≡ h.other
      same = label-unique graph request labels (label_at labels h.place) s.rest h.other s.is h.is

      dominates : Dominates request s.rest rest
      dominates = subst (λ r. Dominates request r rest) (sym same) h.dominates

      by : Onward node s.rest → Onward node rest
      by (inl p) = inl (hopeless-dominates request low (bound_of upper_bound found) node s.rest rest dominates p)
      by (inr p) = inr (p.0, Dominates-trans request p.0 s.rest rest p.1 dominates, p.2)

  -- an edge over which the rest isn't too late can carry the amount
  may_carry : (node : ℕ) (edge : Edge) (rest : List Edge) → IsStep (edges graph) request node edge rest
      → delay request.limit (edge ∷ rest) ≤ most_delay request.limit → MayCarry request edge
  may_carry node edge rest step timely = record {
    above_min = step.above_min;
    below_max = omega (arith, step.below_max, owed-least request.amount rest);
    quick = inr (omega (arith, timely));
  }

  hopeless_on : (node : ℕ) (edge : Edge) (rest : List Edge) → IsStep (edges graph) request node edge rest →
      delay request.limit (edge ∷ rest) ≤ most_delay request.limit →
      IsHopeless request low (bound_of upper_bound found) edge.to rest → IsHopeless request low (bound_of upper_bound found) node (edge ∷ rest)
  hopeless_on node edge rest step timely (inr much) = inr (omega (arith, much))
  hopeless_on node edge rest step timely (inl h) =
      let least = owed-least request.amount rest in
      let rises = are_low.fees.rises edge step.there (may_carry node edge rest step timely) in
      let fees = fee-monotone request.amount (owed request.amount rest) edge.base edge.millionths least in
      let penalty = penalty-rises request.terms edge request.amount (owed request.amount rest) least in
      let from = ap (λ n. number_at low.fees n) step.leaves in
      inl (omega (arith, h, rises, fees, penalty, from))

  pub all_reached : (rest : List Edge) (node : ℕ) → IsRest (edges graph) request node rest → length rest < request.hops
      → delay request.limit rest + number_at low.delays node ≤ most_delay request.limit
      → Reaches graph request low upper_bound labels found node rest
  all_reached [] node joins few timely =
      inl (record {
        place = 0;
        within = omega (arith, labelled.some);
        at = labelled.first.0 ∙ sym joins;
        other = [];
        is = first;
        dominates = Dominates-refl request [];
      })
    where
      s : (rest : List Edge) × IsLabel graph request labels (label_at labels 0) rest
      s = labelled.sound 0 (omega (arith, labelled.some))

      empty : (rest : List Edge) → length rest ≡ 0 → rest ≡ []
      empty [] e = refl
      empty (edge ∷ rest) e = absurd (omega arith)

      first : IsLabel graph request labels (label_at labels 0) []
      first = subst (λ r. IsLabel graph request labels (label_at labels 0) r) (empty s.0 (s.1.long ∙ labelled.first.1)) s.1
  all_reached (edge ∷ rest) node joins few timely =
      by (onward edge.to rest (all_reached rest edge.to joins.1 (omega arith) (omega (arith, timely, from, sooner))))
    where
      in_time : delay request.limit (edge ∷ rest) ≤ most_delay request.limit
      in_time = omega (arith, timely)

      from : number_at low.delays edge.from ≡ number_at low.delays node
      from = ap (λ n. number_at low.delays n) joins.0.leaves

      sooner : number_at low.delays edge.to ≤ number_at low.delays edge.from + counted request.limit edge
      sooner = are_low.delays.rises edge joins.0.there (may_carry node edge rest joins.0 in_time)

      by : Onward edge.to rest → Reaches graph request low upper_bound labels found node (edge ∷ rest)
      by (inl h) = inr (hopeless_on node edge rest joins.0 in_time h)
      by (inr h) =
          let cheaper = step-cheaper (edges graph) request node edge h.0 rest (Dominates-owed request h.0 rest h.1) joins.0 in
          let passed = h.2 edge joins.0.there refl joins.0.above_min cheaper.below_max in
          subst (λ n. Reaches graph request low upper_bound labels found n (edge ∷ rest)) joins.0.leaves
          (reaches-dominates graph request low upper_bound labels found edge.from (edge ∷ h.0) (edge ∷ rest) (Dominates-prepend request edge h.0 rest h.1)
          (passed.longer (omega (arith, h.1.fewer)) (omega (arith, timely, from, h.1.sooner))))

  -- so no usable walk is better than the best
  no_better_by : (walk : List Edge) (o : Option Label) → IsFound graph request labels upper_bound o
      → length walk ≤ request.hops → bound_of upper_bound o < cost (worth request walk) (length walk) →
      IsNoBetter graph request labels upper_bound o walk
  no_better_by walk None is few p = omega arith
  no_better_by walk (Some best) is few p =
      let w = (is.0).1 in
      ((is.0).0, w, walk_less request (is.0).0 walk (omega (arith, w.long, w.few, short)) (omega (arith, few, short)) (omega (arith, p, w.costs, w.long)))

  served_by : (edge : Edge) (a b : List Edge) (o : Option Label) → Dominates request a b → IsNoBetter graph
      request labels upper_bound o (edge ∷ a) → IsNoBetter graph request labels upper_bound o (edge ∷ b)
  served_by edge a b None h p = omega (arith, p, Dominates-weight request a b h)
  served_by edge a b (Some best) h p = (
    p.0,
    p.1,
    NotAfter-trans (walk_key request p.0) (walk_key request (edge ∷ a)) (walk_key request (edge ∷ b)) p.2
        (Dominates-walk request edge a b h),
  )

  pub none_better : IsUpperBound (edges graph) request upper_bound → IsFound graph request labels upper_bound found → (walk : List Edge)
      → IsUsable (edges graph) request walk → IsNoBetter graph request labels upper_bound found walk
  none_better upper is [] usable = absurd (omega (arith, usable.some))
  none_better upper is (edge ∷ rest) usable =
      by (onward edge.to rest (all_reached rest edge.to usable.joins.1 (omega (arith, usable.few))
      (omega (arith, usable.in_time, are_low.delays.none edge step.there carries step.leaves))))
    where
      step : IsStep (edges graph) request request.payer edge rest
      step = usable.joins.0

      carries : MayCarry request edge
      carries = record {
        above_min = step.above_min;
        below_max = omega (arith, step.below_max, owed-least request.amount rest);
        quick = inl step.leaves;
      }

      by : Onward edge.to rest → IsNoBetter graph request labels upper_bound found (edge ∷ rest)
      by (inl (inl h)) =
          let none = are_low.fees.none edge step.there carries step.leaves in
          no_better_by (edge ∷ rest) found is usable.few (omega (arith, h, none))
      by (inl (inr much)) = absurd (omega (arith, much, (upper (edge ∷ rest) usable).1))
      by (inr h) =
          let cheaper = step-cheaper (edges graph) request request.payer edge h.0 rest (Dominates-owed request h.0 rest h.1) step in
          let passed = h.2 edge step.there refl step.above_min cheaper.below_max in
          served_by edge h.0 rest found h.1 (passed.whole step.leaves)
