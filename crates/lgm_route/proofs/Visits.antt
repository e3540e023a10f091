-- The best walk visits no node twice, and its ids identify it, also by penalties and within limits.
use Rattle.std.proofs.Common.{◌≡◌, ◌≢◌, ◌⊎◌, ℕ, ◌+◌, ◌<◌, ◌≤◌, Bool, Option, Some, None, List, [], ◌∷◌, length, Ordering}
use Rattle.std.proofs.Common.{true, false, refl, sym, ◌∙◌, ap, subst, inl, inr, arith}
use Rattle.std.specs.declared.cmp.Ordering.TheVariants.{Less, Equal, Greater}
use Rattle.std.specs.Ordering.{nat_cmp, is_gt, ordering_reverse}
use Rattle.std.specs.Cmp.Lexicographic.{slice_cmp}
use Rattle.std.proofs.lemmas.Cmp.{nat_list_cmp_total}
use Rattle.std.proofs.lemmas.Bool.{false≢true}
use Rattle.lgm_wire.specs.declared.point.Point.{Point}
use Rattle.lgm_store.specs.Rows.{is_point}
use Rattle.lgm_store.proofs.Points.{same_point, is_point-self}
use Rattle.lgm_graph.specs.Edges.{PointEdge, AreKeyed}
use Rattle.lgm_route.specs.declared.request.Request.{Request}
use Rattle.lgm_route.specs.declared.limits.RouteLimits.{RouteLimits}
use Rattle.lgm_route.specs.Preferred.{delay, penalties, worth, worth_key, IsInTime, no_limits, IsPreferred, IsLeastBy}
use Rattle.lgm_route.specs.Routes.{owed, sent, due, ids, IsRest, IsStep, IsLeast, Visits, IsSimple}
use Rattle.lgm_route.specs.inner.Best.{free}
use Rattle.lgm_route.specs.inner.Searching.{NotAfter}
use Rattle.lgm_route.proofs.Orders.{NotAfter-split, NotAfter-heads}
use Rattle.lgm_route.proofs.Rests.{raised-le}
use Rattle.lgm_route.proofs.WalkOrderLaws.{free_order, within_none}

sent_below : (amount : ℕ) (walk : List PointEdge) → sent amount walk ≤ owed amount walk
sent_below amount [] = omega arith
sent_below amount (edge ∷ rest) = omega arith

delay_below : (walk : List PointEdge) → delay walk ≤ due 0 walk
delay_below [] = omega arith
delay_below (edge ∷ rest) = omega arith

-- the penalties of a walk, without that of its first edge
abbrev tail : (PointEdge → ℕ → ℕ) → ℕ → List PointEdge → ℕ
tail penalty amount [] = 0
tail penalty amount (edge ∷ rest) = penalties penalty amount rest

tail_below : (penalty : PointEdge → ℕ → ℕ) (amount : ℕ) (walk : List PointEdge) → tail penalty amount walk ≤ penalties penalty amount walk
tail_below penalty amount [] = omega arith
tail_below penalty amount (edge ∷ rest) = omega arith

worth_of : (penalty : PointEdge → ℕ → ℕ) (amount : ℕ) (walk : List PointEdge)
    → worth penalty amount walk ≡ sent amount walk + tail penalty amount walk
worth_of penalty amount [] = omega arith
worth_of penalty amount (edge ∷ rest) = refl

-- a greater amount has no less penalty
abbrev pub Rises : (PointEdge → ℕ → ℕ) → Type 0
Rises penalty = (edge : PointEdge) (x y : ℕ) → x ≤ y → penalty edge x ≤ penalty edge y

-- a walk from the node, of fewer edges, over which no more is sent, with no greater penalties, and which takes no longer
record Shorter (penalty : PointEdge → ℕ → ℕ) (edges : List PointEdge) (request : Request) (node : Point)
    (walk : List PointEdge) : Type 0 where
  other : List PointEdge
  joins : IsRest edges request node other
  fewer : length other < length walk
  owes : owed request.amount other ≤ sent request.amount walk
  falls : due 0 other ≤ delay walk
  adds : penalties penalty request.amount other ≤ tail penalty request.amount walk

-- from a visited node the rest of the walk continues
from_visit : (penalty : PointEdge → ℕ → ℕ) (edges : List PointEdge) (request : Request) (node visited : Point)
    (walk : List PointEdge) → IsRest edges request node walk → Visits visited walk
    → Shorter penalty edges request visited walk
from_visit penalty edges request node visited [] joins h = absurd h
from_visit penalty edges request node visited (edge ∷ rest) joins (inl e) = record {
  other = rest;
  joins = subst (λ n. IsRest edges request n rest) e joins.1;
  fewer = omega arith;
  owes = omega arith;
  falls = omega arith;
  adds = omega arith;
}
from_visit penalty edges request node visited (edge ∷ rest) joins (inr h) =
    let later = from_visit penalty edges request edge.to visited rest joins.1 h in
    record {
      other = later.other;
      joins = later.joins;
      fewer = omega (arith, later.fewer);
      owes = omega (arith, later.owes, sent_below request.amount rest);
      falls = omega (arith, later.falls, delay_below rest);
      adds = omega (arith, later.adds, tail_below penalty request.amount rest);
    }

same_or_not : (p q : Point) → (p ≡ q) ⊎ (p ≢ q)
same_or_not p q = by (is_point p q) refl
  where
    by : (b : Bool) → is_point p q ≡ b → (p ≡ q) ⊎ (p ≢ q)
    by true e = inl (same_point p q e)
    by false e = inr (λ same. false≢true (sym e ∙ ap (is_point p) (sym same) ∙ is_point-self p))

visits_or_not : (node : Point) (walk : List PointEdge) → Visits node walk ⊎ (Visits node walk → ⊥)
visits_or_not node [] = inr (λ h. h)
visits_or_not node (edge ∷ rest) = by (same_or_not edge.to node) (visits_or_not node rest)
  where
    by : (edge.to ≡ node) ⊎ (edge.to ≢ node) → Visits node rest ⊎ (Visits node rest → ⊥) → Visits node (edge ∷ rest) ⊎ (Visits node (edge ∷ rest) → ⊥)
    by (inl e) d = inl (inl e)
    by (inr n) (inl h) = inl (inr h)
    by (inr n) (inr f) = inr none
      where
        none : Visits node (edge ∷ rest) → ⊥
        none (inl e) = n e
        none (inr h) = f h

-- a lesser amount can be carried wherever a greater one can
step-cheaper : (edges : List PointEdge) (request : Request) (node : Point) (edge : PointEdge) (rest other : List PointEdge) →
    owed request.amount rest ≤ owed request.amount other →
    IsStep edges request node edge other → IsStep edges request node edge rest
step-cheaper edges request node edge rest other h step =
    record { there = step.there; leaves = step.leaves; above_min = step.above_min; below_max = omega (arith, step.below_max) }

-- a walk from the node with fewer edges, and no greater amounts, penalties or delays
record Better (penalty : PointEdge → ℕ → ℕ) (edges : List PointEdge) (request : Request) (node : Point)
    (walk : List PointEdge) : Type 0 where
  other : List PointEdge
  joins : IsRest edges request node other
  fewer : length other < length walk
  owes : owed request.amount other ≤ owed request.amount walk
  sends : sent request.amount other ≤ sent request.amount walk
  falls : due 0 other ≤ due 0 walk
  takes : delay other ≤ delay walk
  adds : penalties penalty request.amount other ≤ penalties penalty request.amount walk
  spends : tail penalty request.amount other ≤ tail penalty request.amount walk

-- a walk visits no node twice, or there is a better one without the loop
simple_or_better : (penalty : PointEdge → ℕ → ℕ) → Rises penalty → (edges : List PointEdge) (request : Request) (node : Point)
    (walk : List PointEdge) → IsRest edges request node walk →
    IsSimple node walk ⊎ Better penalty edges request node walk
simple_or_better penalty rises edges request node [] joins = inl tt
simple_or_better penalty rises edges request node (edge ∷ rest) joins =
    by (visits_or_not node (edge ∷ rest)) (simple_or_better penalty rises edges request edge.to rest joins.1)
  where
    round : Shorter penalty edges request node (edge ∷ rest) → Better penalty edges request node (edge ∷ rest)
    round s = record {
      other = s.other;
      joins = s.joins;
      fewer = s.fewer;
      owes = omega (arith, s.owes);
      sends = omega (arith, s.owes, sent_below request.amount s.other);
      falls = omega (arith, s.falls);
      takes = omega (arith, s.falls, delay_below s.other);
      adds = omega (arith, s.adds);
      spends = omega (arith, s.adds, tail_below penalty request.amount s.other);
    }

    by : Visits node (edge ∷ rest) ⊎ (Visits node (edge ∷ rest) → ⊥) → IsSimple edge.to rest ⊎ Better penalty edges request edge.to rest →
        IsSimple node (edge ∷ rest) ⊎ Better penalty edges request node (edge ∷ rest)
    by (inl h) d = inr (round (from_visit penalty edges request node node (edge ∷ rest) joins h))
    by (inr f) (inl s) = inl (f, s)
    by (inr f) (inr b) =
        inr (record {
          other = edge ∷ b.other;
          joins = (step-cheaper edges request node edge b.other rest b.owes joins.0, b.joins);
          fewer = omega (arith, b.fewer);
          owes = raised-le (owed request.amount b.other) (owed request.amount rest) edge.base edge.millionths b.owes;
          sends = b.owes;
          falls = omega (arith, b.falls);
          takes = b.falls;
          adds = omega (arith, b.adds, rises edge (owed request.amount b.other) (owed request.amount rest) b.owes);
          spends = b.adds;
        })

preferred_of : (penalty : PointEdge → ℕ → ℕ) (request : Request) (walk other : List PointEdge) → length other < length walk
    → worth penalty request.amount other ≤ worth penalty request.amount walk → IsPreferred penalty request other walk
preferred_of penalty request walk other fewer less = by (slice_cmp nat_cmp (worth_key penalty request other) (worth_key penalty request walk)) refl
  where
    a : ℕ
    a = worth penalty request.amount other

    b : ℕ
    b = worth penalty request.amount walk

    not_back : NotAfter (b ∷ length walk ∷ ids walk) (a ∷ length other ∷ ids other) → ⊥
    not_back h = at (NotAfter-split b a (length walk ∷ ids walk) (length other ∷ ids other) h)
      where
        at : (b < a) ⊎ ((b ≡ a) × NotAfter (length walk ∷ ids walk) (length other ∷ ids other)) → ⊥
        at (inl p) = omega arith
        at (inr p) = omega (arith, NotAfter-heads (length walk) (length other) (ids walk) (ids other) p.1)

    turned : (o : Ordering) → slice_cmp nat_cmp (worth_key penalty request other) (worth_key penalty request walk) ≡ o
        → slice_cmp nat_cmp (worth_key penalty request walk) (worth_key penalty request other) ≡ ordering_reverse o
    turned o e = nat_list_cmp_total.antisymm (worth_key penalty request walk) (worth_key penalty request other) ∙ ap ordering_reverse e

    by : (o : Ordering) → slice_cmp nat_cmp (worth_key penalty request other) (worth_key penalty request walk) ≡ o
        → slice_cmp nat_cmp (worth_key penalty request other) (worth_key penalty request walk) ≡ Less
    by Less e = e
    by Equal e = absurd (not_back (ap is_gt (turned Equal e)))
    by Greater e = absurd (not_back (ap is_gt (turned Greater e)))

some_edges : (edges : List PointEdge) (request : Request) (walk : List PointEdge) → request.payer ≢ request.payee
    → IsRest edges request request.payer walk → 1 ≤ length walk
some_edges edges request [] apart joins = absurd (apart joins)
some_edges edges request (edge ∷ rest) apart joins = omega arith

-- the best walk by penalties that rise with the amount visits no node twice
pub preferred-simple : (penalty : PointEdge → ℕ → ℕ) → Rises penalty → (limits : RouteLimits) (edges : List PointEdge) (request : Request)
    (walk : List PointEdge) → request.payer ≢ request.payee → IsLeastBy penalty limits edges request walk
    → IsSimple request.payer walk
preferred-simple penalty rises limits edges request walk apart least =
    by (simple_or_better penalty rises edges request request.payer walk least.usable.joins)
  where
    timely : (most : Option ℕ) (other : List PointEdge) → delay other ≤ delay walk → IsInTime most walk → IsInTime most other
    timely None other less h = tt
    timely (Some most) other less h = omega (arith, less, h)

    by : IsSimple request.payer walk ⊎ Better penalty edges request request.payer walk → IsSimple request.payer walk
    by (inl s) = s
    by (inr b) =
        absurd (least.first b.other
        (record {
          some = some_edges edges request b.other apart b.joins;
          few = omega (arith, b.fewer, least.usable.few);
          joins = b.joins;
        })
        (record {
          short = omega (arith, b.fewer, least.within.short);
          in_time = timely limits.most_delay b.other b.takes least.within.in_time;
        })
        (preferred_of penalty request walk b.other b.fewer
        (omega (arith, b.sends, b.spends, worth_of penalty request.amount walk, worth_of penalty request.amount b.other))))

-- of two lists of which neither is after the other, each is the other
same_of : (xs ys : List ℕ) → NotAfter xs ys → NotAfter ys xs → xs ≡ ys
same_of [] [] h k = refl
same_of [] (y ∷ ys) h k = absurd (false≢true (sym k))
same_of (x ∷ xs) [] h k = absurd (false≢true (sym h))
same_of (x ∷ xs) (y ∷ ys) h k = by (NotAfter-split x y xs ys h) (NotAfter-split y x ys xs k) (same_of xs ys)
  where
    by : (x < y) ⊎ ((x ≡ y) × NotAfter xs ys) → (y < x) ⊎ ((y ≡ x) × NotAfter ys xs) → (NotAfter xs ys → NotAfter ys xs → xs ≡ ys) → x ∷ xs ≡ y ∷ ys
    by (inl p) (inl q) tails = absurd (omega arith)
    by (inl p) (inr q) tails = absurd (omega (arith, q.0))
    by (inr p) (inl q) tails = absurd (omega (arith, p.0))
    by (inr p) (inr q) tails = let tail = tails p.1 q.1 in cc (p.0, tail)

pub not_after : (xs ys : List ℕ) → (slice_cmp nat_cmp ys xs ≡ Less → ⊥) → NotAfter xs ys
not_after xs ys f = by (slice_cmp nat_cmp xs ys) refl
  where
    by : (o : Ordering) → slice_cmp nat_cmp xs ys ≡ o → is_gt (slice_cmp nat_cmp xs ys) ≡ false
    by Less e = ap is_gt e
    by Equal e = ap is_gt e
    by Greater e = absurd (f (nat_list_cmp_total.antisymm ys xs ∙ ap ordering_reverse e))

head_of : (x y : ℕ) (xs ys : List ℕ) → x ∷ xs ≡ y ∷ ys → x ≡ y
head_of x y xs ys e = cc

tail_of : (x y : ℕ) (xs ys : List ℕ) → x ∷ xs ≡ y ∷ ys → xs ≡ ys
tail_of x y xs ys e = cc

-- the ids of a walk that visits no node twice identify it
pub ids_name : (edges : List PointEdge) (request : Request) (node : Point) (walk other : List PointEdge) → AreKeyed edges →
    IsRest edges request node walk → IsRest edges request node other → IsSimple node walk → ids walk ≡ ids other → walk ≡ other
ids_name edges request node [] [] keyed joins also simple e = refl
ids_name edges request node [] (edge ∷ rest) keyed joins also simple e = absurd (cc)
ids_name edges request node (edge ∷ rest) [] keyed joins also simple e = absurd (cc)
ids_name edges request node (edge ∷ rest) (edge' ∷ rest') keyed joins also simple e =
    let same : edge ≡ edge' =
    keyed edge edge' joins.0.there also.0.there (joins.0.leaves ∙ sym also.0.leaves) (head_of edge.scid edge'.scid (ids rest) (ids rest') e)
    (λ back. simple.0 (inl (sym back ∙ joins.0.leaves))) in
    let tail : rest ≡ rest' =
    ids_name edges request edge.to rest rest' keyed joins.1 (subst (λ d. IsRest edges request d.to rest') (sym same) also.1) simple.1
    (tail_of edge.scid edge'.scid (ids rest) (ids rest') e) in
    cc (same, tail)

-- of two walks of which neither is preferred to the other, one that visits no node twice is the other
one_walk : (penalty : PointEdge → ℕ → ℕ) (edges : List PointEdge) (request : Request) (walk other : List PointEdge)
    → AreKeyed edges → IsRest edges request request.payer walk → IsRest edges request request.payer other
    → IsSimple request.payer walk → (IsPreferred penalty request other walk → ⊥)
    → (IsPreferred penalty request walk other → ⊥) → walk ≡ other
one_walk penalty edges request walk other keyed joins also simple first after =
    ids_name edges request request.payer walk other keyed joins also simple
    (tail_of (length walk) (length other) (ids walk) (ids other)
    (tail_of (worth penalty request.amount walk) (worth penalty request.amount other) (length walk ∷ ids walk) (length other ∷ ids other)
    (same_of (worth_key penalty request walk) (worth_key penalty request other)
    (not_after (worth_key penalty request walk) (worth_key penalty request other) first)
    (not_after (worth_key penalty request other) (worth_key penalty request walk) after))))

-- there is one best walk
pub preferred-unique : (penalty : PointEdge → ℕ → ℕ) → Rises penalty → (limits : RouteLimits) (edges : List PointEdge) (request : Request)
    (walk other : List PointEdge) → AreKeyed edges → request.payer ≢ request.payee
    → IsLeastBy penalty limits edges request walk → IsLeastBy penalty limits edges request other → walk ≡ other
preferred-unique penalty rises limits edges request walk other keyed apart least also =
    one_walk penalty edges request walk other keyed least.usable.joins also.usable.joins
    (preferred-simple penalty rises limits edges request walk apart least)
    (least.first other also.usable also.within) (also.first walk least.usable least.within)

-- ---- the walk that sends least is the best without penalties

free-rises : Rises free
free-rises edge x y h = omega arith

pub least_free : (edges : List PointEdge) (request : Request) (walk : List PointEdge) → IsLeast edges request walk
    → IsLeastBy free no_limits edges request walk
least_free edges request walk least = record {
  usable = least.usable;
  within = within_none edges request walk least.usable;
  first = λ other able within before. least.first other able (free_order free (λ edge amount. refl) request other walk ∙ before);
}

pub least-simple : (edges : List PointEdge) (request : Request) (walk : List PointEdge) → request.payer ≢ request.payee
    → IsLeast edges request walk → IsSimple request.payer walk
least-simple edges request walk apart least =
    preferred-simple free free-rises no_limits edges request walk apart (least_free edges request walk least)

pub least-unique : (edges : List PointEdge) (request : Request) (walk other : List PointEdge) → AreKeyed edges → request.payer ≢ request.payee →
    IsLeast edges request walk → IsLeast edges request other → walk ≡ other
least-unique edges request walk other keyed apart least also =
    preferred-unique free free-rises no_limits edges request walk other keyed apart
    (least_free edges request walk least) (least_free edges request other also)
