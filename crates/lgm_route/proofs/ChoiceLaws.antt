-- Exhaustive search finds the best walk, which is unique.
use Rattle.std.proofs.Common.{◌≡◌, ◌≢◌, ◌⊎◌, ◌↔◌, ℕ, ◌≤◌, Bool, List, [], ◌∷◌, length, map, Ordering, zero}
use Rattle.std.proofs.Common.{suc, true, false, cond, refl, sym, ◌∙◌, ap, subst, inl, inr, arith}
use Rattle.std.specs.Prelude.{nat_le, nat_lt, nat_eq, is_some, ◌&&◌, Option, Some, None, Result, Ok, Err}
use Rattle.std.specs.List.{Contains, fold}
use Rattle.std.specs.List.Sorted.{IsPermutation}
use Rattle.std.proofs.lemmas.List.Sorted.{Contains-permutation, IsPermutation-sym}
use Rattle.std.specs.declared.cmp.Ordering.TheVariants.{Less, Equal, Greater}
use Rattle.std.specs.Ordering.{nat_cmp, is_lt, is_gt}
use Rattle.std.specs.Cmp.Lexicographic.{slice_cmp}
use Rattle.std.proofs.lemmas.Bool.{false≢true, and_parts}
use Rattle.std.proofs.lemmas.Bool.Decides.{nat_tests}
use Rattle.lgm_wire.specs.declared.point.Point.{Point}
use Rattle.lgm_store.specs.Rows.{is_point}
use Rattle.lgm_store.proofs.Points.{same_point, is_point-self}
use Rattle.lgm_graph.specs.Edges.{PointEdge, AreKeyed}
use Rattle.lgm_graph.proofs.Members.{Among, Contains-Among, Among-Contains, Among-passes, Among-passed}
use Rattle.lgm_graph.proofs.Members.{Among-mapped, Among-map, Among-flat, Among-flattened}
use Rattle.lgm_route.specs.declared.request.Request.{Request}
use Rattle.lgm_graph.specs.declared.route.Hop.{Hop}
use Rattle.lgm_route.specs.declared.fault.RouteFault.{RouteFault}
use Rattle.lgm_route.specs.declared.fault.RouteFault.TheVariants.{AmountZero, AmountTooLarge, ExpiryTooLarge, SelfPayment}
use Rattle.lgm_route.specs.Routes.{owed, walk_key, hops_of, IsRest, IsUsable, Precedes}
use Rattle.lgm_route.specs.Answers.{refusal, IsFoundOver, IsAnswerBy, IsAnswer}
use Rattle.lgm_route.specs.inner.Searching.{NotAfter}
use Rattle.lgm_route.specs.Choice.{lists_of, relaxations, usable_walks, lesser, least_of, least_walk, found_by, answer_by, answer_of}
use Rattle.lgm_route.proofs.Orders.{NotAfter-refl, NotAfter-trans, NotAfter-excludes}
use Rattle.lgm_route.proofs.Visits.{least-unique, not_after}

-- ---- the lists of edges

-- each edge of the list is one of these
abbrev AreOf : List PointEdge → List PointEdge → Type 0
AreOf edges [] = Unit {0}
AreOf edges (edge ∷ rest) = Contains edges edge × AreOf edges rest

-- lists of these edges are found
found_list : (edges walk : List PointEdge) (most : ℕ) → AreOf edges walk → length walk ≤ most → Among (lists_of edges most) walk
found_list edges [] zero of few = inl refl
found_list edges [] (suc more) of few = inl refl
found_list edges (edge ∷ rest) zero of few = absurd (omega (arith, few))
found_list edges (edge ∷ rest) (suc more) of few =
    inr (Among-flat (λ e. map (λ r. e ∷ r) (lists_of edges more)) edges edge (edge ∷ rest) (Among-Contains edges edge of.0)
    (Among-map (λ r. edge ∷ r) (lists_of edges more) rest (found_list edges rest more of.1 (omega (arith, few)))))

-- what is found is a list of these edges
list_found : (edges walk : List PointEdge) (most : ℕ) → Among (lists_of edges most) walk → AreOf edges walk × (length walk ≤ most)
list_found edges walk zero (inl same) = subst (λ w. AreOf edges w × (length w ≤ zero)) same (tt, omega arith)
list_found edges walk zero (inr none) = absurd none
list_found edges walk (suc more) (inl same) = subst (λ w. AreOf edges w × (length w ≤ suc more)) same (tt, omega arith)
list_found edges walk (suc more) (inr there) =
    let at = Among-flattened (λ e. map (λ r. e ∷ r) (lists_of edges more)) edges walk there in
    let tail = Among-mapped (λ r. at.0 ∷ r) (lists_of edges more) walk at.2 in
    let rest = list_found edges tail.0 more tail.1 in
    subst (λ w. AreOf edges w × (length w ≤ suc more)) tail.2 ((Contains-Among edges at.0 at.1, rest.0), omega (arith, rest.1))

-- ---- the usable ones

pub le_true : (a b : ℕ) → a ≤ b → nat_le a b ≡ true
le_true a b h = grind (arith, nat_tests)

pub true_le : (a b : ℕ) → nat_le a b ≡ true → a ≤ b
true_le a b h = grind (arith, nat_tests)

rests_lead : (edges : List PointEdge) (request : Request) (node : Point) (walk : List PointEdge)
    → IsRest edges request node walk → (relaxations request node walk ≡ true) × AreOf edges walk
rests_lead edges request node [] joins = (subst (λ p. is_point node p ≡ true) joins (is_point-self node), tt)
rests_lead edges request node (edge ∷ rest) joins =
    let later = rests_lead edges request edge.to rest joins.1 in
    let here : is_point edge.from node ≡ true = subst (λ p. is_point edge.from p ≡ true) joins.0.leaves (is_point-self edge.from) in
    let least = le_true edge.min request.amount joins.0.above_min in
    let most = le_true (owed request.amount rest) edge.max joins.0.below_max in
    (rw (here, least, most, later.0) refl, (joins.0.there, later.1))

leads_rest : (edges : List PointEdge) (request : Request) (node : Point) (walk : List PointEdge)
    → relaxations request node walk ≡ true → AreOf edges walk → IsRest edges request node walk
leads_rest edges request node [] h of = same_point node request.payee h
leads_rest edges request node (edge ∷ rest) h of =
    let below = nat_le (owed request.amount rest) edge.max in
    let above = nat_le edge.min request.amount in
    let last = and_parts (is_point edge.from node && above && below) (relaxations request edge.to rest) h in
    let third = and_parts (is_point edge.from node && above) below last.0 in
    let second = and_parts (is_point edge.from node) above third.0 in (
      record {
        there = of.0;
        leaves = same_point edge.from node second.0;
        above_min = true_le edge.min request.amount second.1;
        below_max = true_le (owed request.amount rest) edge.max third.1;
      },
      leads_rest edges request edge.to rest last.1 of.1,
    )

abbrev is_usable : Request → List PointEdge → Bool
is_usable request walk = nat_le 1 (length walk) && relaxations request request.payer walk

pub usable_found : (edges : List PointEdge) (request : Request) (walk : List PointEdge) → IsUsable edges request walk → Among (usable_walks edges request) walk
usable_found edges request walk usable =
    let of = rests_lead edges request request.payer walk usable.joins in
    let some = le_true 1 (length walk) usable.some in
    Among-passes (is_usable request) (lists_of edges 20) walk (found_list edges walk 20 of.1 usable.few) (rw (some, of.0) refl)

pub found_usable : (edges : List PointEdge) (request : Request) (walk : List PointEdge) → Among (usable_walks edges request) walk → IsUsable edges request walk
found_usable edges request walk there =
    let passed = Among-passed (is_usable request) (lists_of edges 20) walk there in
    let list = list_found edges walk 20 passed.0 in
    let is = and_parts (nat_le 1 (length walk)) (relaxations request request.payer walk) passed.1 in
    record { some = true_le 1 (length walk) is.0; few = list.1; joins = leads_rest edges request request.payer walk is.1 list.0 }

-- ---- the best of them

-- no walk of the list has a lesser key
abbrev pub NoneBefore : (List PointEdge → List ℕ) → List PointEdge → List (List PointEdge) → Type 0
NoneBefore key best walks = (other : List PointEdge) → Among walks other → NotAfter (key best) (key other)

-- the better of two walks
abbrev pub IsLesser : (List PointEdge → List ℕ) → List PointEdge → List PointEdge → List PointEdge → Type 0
IsLesser key walk other best =
    (NotAfter (key best) (key walk) × NotAfter (key best) (key other)) × ((best ≡ walk) ⊎ (best ≡ other))

lesser_of : (key : List PointEdge → List ℕ) (walk other : List PointEdge) → IsLesser key walk other (lesser key walk other)
lesser_of key walk other = by (slice_cmp nat_cmp (key other) (key walk)) refl
  where
    kept : (slice_cmp nat_cmp (key other) (key walk) ≡ Less → ⊥) → IsLesser key walk other walk
    kept later = ((NotAfter-refl (key walk), not_after (key walk) (key other) later), inl refl)

    by : (o : Ordering) → slice_cmp nat_cmp (key other) (key walk) ≡ o
        → IsLesser key walk other (cond (is_lt (slice_cmp nat_cmp (key other) (key walk))) other walk)
    by Less e = rw e ((before e, NotAfter-refl (key other)), inr refl)
      where
        before : slice_cmp nat_cmp (key other) (key walk) ≡ Less → NotAfter (key other) (key walk)
        before is = ap is_gt is
    by Equal e = rw e (kept (λ less. let bad = sym e ∙ less in absurd cc))
    by Greater e = rw e (kept (λ less. let bad = sym e ∙ less in absurd cc))

-- with one more walk in front
one_more : (key : List PointEdge → List ℕ) (best walk next last : List PointEdge) (walks : List (List PointEdge)) → IsLesser key best walk next →
    Among (next ∷ walks) last × NoneBefore key last (next ∷ walks)
    → Among (best ∷ walk ∷ walks) last × NoneBefore key last (best ∷ walk ∷ walks)
one_more key best walk next last walks is later = (among later.0 is.1, none)
  where
    among : Among (next ∷ walks) last → (next ≡ best) ⊎ (next ≡ walk) → Among (best ∷ walk ∷ walks) last
    among (inl same) (inl e) = inl (sym e ∙ same)
    among (inl same) (inr e) = inr (inl (sym e ∙ same))
    among (inr there) e = inr (inr there)

    before : NotAfter (key last) (key next)
    before = later.1 next (inl refl)

    none : NoneBefore key last (best ∷ walk ∷ walks)
    none other (inl same) =
        subst (λ w. NotAfter (key last) (key w)) same (NotAfter-trans (key last) (key next) (key best) before (is.0).0)
    none other (inr (inl same)) =
        subst (λ w. NotAfter (key last) (key w)) same (NotAfter-trans (key last) (key next) (key walk) before (is.0).1)
    none other (inr (inr there)) = later.1 other (inr there)

pub folded : (key : List PointEdge → List ℕ) (best : List PointEdge) (walks : List (List PointEdge)) →
    Among (best ∷ walks) (fold (lesser key) best walks) × NoneBefore key (fold (lesser key) best walks) (best ∷ walks)
folded key best [] = (inl refl, none)
  where
    none : NoneBefore key best (best ∷ [])
    none other (inl same) = subst (λ w. NotAfter (key best) (key w)) same (NotAfter-refl (key best))
    none other (inr there) = absurd there
folded key best (walk ∷ walks) =
    let next = lesser key best walk in
    one_more key best walk next (fold (lesser key) next walks) walks (lesser_of key best walk) (folded key next walks)

-- ---- the answer

least_found : (edges : List PointEdge) (request : Request) (walks : List (List PointEdge)) → walks ≡ usable_walks edges request →
    IsFoundOver edges request (found_by request (least_of (walk_key request) walks))
least_found edges request [] same =
    (refl, λ walk usable. subst (λ ws. Among ws walk) (sym same) (usable_found edges request walk usable))
least_found edges request (walk ∷ walks) same = (best, record { usable = usable; first = first }, refl)
  where
    best : List PointEdge
    best = fold (lesser (walk_key request)) walk walks

    is : Among (walk ∷ walks) best × NoneBefore (walk_key request) best (walk ∷ walks)
    is = folded (walk_key request) walk walks

    usable : IsUsable edges request best
    usable = found_usable edges request best (subst (λ ws. Among ws best) same is.0)

    first : (other : List PointEdge) → IsUsable edges request other → Precedes request other best → ⊥
    first other able before =
        NotAfter-excludes (walk_key request best) (walk_key request other) (is.1 other
        (subst (λ ws. Among ws other) (sym same) (usable_found edges request other able))) before

-- exhaustive search returns an answer
pub tried : (edges : List PointEdge) (request : Request) → IsAnswer edges request (answer_of edges request)
unfolding answer_of least_walk
tried edges request = by (refusal request)
  where
    found : IsFoundOver edges request (found_by request (least_walk edges request))
    found = least_found edges request (usable_walks edges request) refl

    by : (refused : Option RouteFault) → IsAnswerBy refused edges request (answer_by refused request (least_walk edges request))
    by (Some fault) = refl
    by None = found

-- ---- there is one

-- a request to the payer itself is refused
some_fault : (p q r : Bool) → is_some (cond p (Some AmountZero)
    (cond q (Some AmountTooLarge) (cond r (Some ExpiryTooLarge) (Some SelfPayment)))) ≡ true
some_fault true q r = refl
some_fault false true r = refl
some_fault false false true = refl
some_fault false false false = refl

pub point_apart : (request : Request) → refusal request ≡ None → request.payer ≢ request.payee
point_apart request none same =
    let self : is_point request.payer request.payee ≡ true = subst (λ p. is_point request.payer p ≡ true) same (is_point-self request.payer) in
    let refused = some_fault (nat_eq request.amount 0) (nat_lt 2100000000000000000 request.amount) (nat_lt 498000000 request.expiry) in
    let some : is_some (refusal request) ≡ true = rw self refused in
    false≢true (sym (ap is_some none) ∙ some)

both_found : (edges : List PointEdge) (request : Request) (answer other : Result (List Hop) RouteFault)
    → AreKeyed edges → request.payer ≢ request.payee →
    IsFoundOver edges request answer → IsFoundOver edges request other → answer ≡ other
both_found edges request (Ok hops) (Ok hops') keyed apart found also =
    let same = least-unique edges request found.0 also.0 keyed apart found.1 also.1 in
    ap Ok (found.2 ∙ ap (hops_of request) same ∙ sym also.2)
both_found edges request (Ok hops) (Err fault) keyed apart found also = absurd (also.1 found.0 found.1.usable)
both_found edges request (Err fault) (Ok hops) keyed apart found also = absurd (found.1 also.0 also.1.usable)
both_found edges request (Err fault) (Err fault') keyed apart found also = ap Err (found.0 ∙ sym also.0)

-- a request has one answer
pub answer-unique : (edges : List PointEdge) (request : Request) (answer other : Result (List Hop) RouteFault) → AreKeyed edges →
    IsAnswer edges request answer → IsAnswer edges request other → answer ≡ other
answer-unique edges request answer other keyed is also = by (refusal request) refl is also
  where
    by : (refused : Option RouteFault) → refusal request ≡ refused → IsAnswerBy refused edges request answer
        → IsAnswerBy refused edges request other → answer ≡ other
    by (Some fault) e is also = is ∙ sym also
    by None e is also = both_found edges request answer other keyed (point_apart request e) is also

-- ---- lists of the same edges have the same answers

abbrev pub HaveSame : List PointEdge → List PointEdge → Type 0
HaveSame edges others = (edge : PointEdge) → Contains edges edge ↔ Contains others edge

pub rest_over : (edges others : List PointEdge) (request : Request) (node : Point) (walk : List PointEdge)
    → ((edge : PointEdge) → Contains edges edge → Contains others edge) →
    IsRest edges request node walk → IsRest others request node walk
rest_over edges others request node [] stored joins = joins
rest_over edges others request node (edge ∷ rest) stored joins = (
  record { there = stored edge joins.0.there; leaves = joins.0.leaves; above_min = joins.0.above_min; below_max = joins.0.below_max },
  rest_over edges others request edge.to rest stored joins.1,
)

pub usable_over : (edges others : List PointEdge) (request : Request) (walk : List PointEdge) → ((edge : PointEdge) → Contains edges edge → Contains others edge) →
    IsUsable edges request walk → IsUsable others request walk
usable_over edges others request walk stored usable =
    record { some = usable.some; few = usable.few; joins = rest_over edges others request request.payer walk stored usable.joins }

found_over : (edges others : List PointEdge) (request : Request) (answer : Result (List Hop) RouteFault) → HaveSame edges others →
    IsFoundOver edges request answer → IsFoundOver others request answer
found_over edges others request (Ok hops) same found = (
  found.0,
  record {
    usable = usable_over edges others request found.0 (λ edge. (same edge).0) found.1.usable;
    first = λ other usable. found.1.first other (usable_over others edges request other (λ edge. (same edge).1) usable);
  },
  found.2,
)
found_over edges others request (Err fault) same found =
    (found.0, λ walk usable. found.1 walk (usable_over others edges request walk (λ edge. (same edge).1) usable))

pub answer-over : (edges others : List PointEdge) (request : Request) (answer : Result (List Hop) RouteFault) → HaveSame edges others →
    IsAnswer edges request answer → IsAnswer others request answer
answer-over edges others request answer same is = by (refusal request) is
  where
    by : (refused : Option RouteFault) → IsAnswerBy refused edges request answer → IsAnswerBy refused others request answer
    by (Some fault) is = is
    by None is = found_over edges others request answer same is

-- the answer is that of exhaustive search
pub answer-tried : (edges others : List PointEdge) (request : Request) (answer : Result (List Hop) RouteFault)
    → AreKeyed others → HaveSame edges others →
    IsAnswer edges request answer → answer ≡ answer_of others request
answer-tried edges others request answer keyed same is =
    answer-unique others request answer (answer_of others request) keyed (answer-over edges others request answer same is) (tried others request)

-- so it is over the edges of the rows, unless memory ran out
pub answered : {E : Type 0} (edges others : List PointEdge) (request : Request) (answer : Result (List Hop) RouteFault)
    → AreKeyed others → HaveSame edges others → E ⊎ IsAnswer edges request answer
    → E ⊎ (answer ≡ answer_of others request)
answered edges others request answer keyed same (inl none) = inl none
answered edges others request answer keyed same (inr is) = inr (answer-tried edges others request answer keyed same is)

pub same-permuted : (edges others : List PointEdge) → IsPermutation others edges → HaveSame edges others
same-permuted edges others order edge = (
  Contains-permutation edges others edge (IsPermutation-sym others edges order),
  Contains-permutation others edges edge order,
)

-- so it is over the same edges in another order
pub answered-reordered : {E : Type 0} (edges others : List PointEdge) (request : Request) (answer : Result (List Hop) RouteFault)
    → AreKeyed others → IsPermutation others edges → E ⊎ IsAnswer edges request answer
    → E ⊎ (answer ≡ answer_of others request)
answered-reordered edges others request answer keyed order is =
    answered edges others request answer keyed (same-permuted edges others order) is

-- and if it is refused
pub answered-refused : {E : Type 0} (edges : List PointEdge) (request : Request) (fault : RouteFault) → AreKeyed edges → refusal request ≡ Some fault
    → E ⊎ (Err fault ≡ answer_of edges request)
answered-refused edges request fault keyed refused =
    answered edges edges request (Err fault) keyed (λ edge. (λ there. there, λ there. there)) (inr (rw refused refl))
