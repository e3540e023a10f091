-- Rests of walks: their amounts, and which dominates which.
use Rattle.std.proofs.Common.{◌≡◌, ◌⊎◌, ℕ, suc, ◌+◌, ◌-◌, ◌*◌, ◌/◌, ◌^◌, min, Option, Some, None, ◌<◌, ◌≤◌, List, [], ◌∷◌, length, drop, zero, refl, ap, inl, inr, arith}
use Rattle.std.specs.Prelude.{slice_get}
use Rattle.std.proofs.Math.Nat.{mul-le-mul_right, mul-le-mul_left, div-mul-le_self, min-le_left}
use Rattle.std.proofs.lemmas.Nat.{le-div}
use Rattle.lgm_graph.specs.Fee.{fee_of}
use Rattle.lgm_graph.specs.declared.edge.Edge.{Edge}
use Rattle.lgm_graph.specs.Edges.{PointEdge}
use Rattle.lgm_graph.specs.Estimates.{Entries, estimate_of}
use Rattle.lgm_graph.specs.declared.estimate.Estimate.{Estimate}
use Rattle.lgm_route.specs.declared.preferences.Preferences.{Preferences}
use Rattle.lgm_route.specs.inner.Numbered.{Ask, Terms, penalty_of, known_from}
use Rattle.lgm_route.specs.Odds.{odds, penalty_by}
use Rattle.lgm_route.specs.Preferred.{penalty_at}
use Rattle.lgm_route.specs.inner.Numbered.{owed, sent, penalties, weight, worth, ids, IsStep, IsSpent}
use Rattle.lgm_route.specs.inner.Searching.{cost, NotAfter, rest_key, walk_key, Dominates, AreCarried}
use Rattle.lgm_route.proofs.Orders.{NotAfter-refl, NotAfter-trans, NotAfter-split, NotAfter-join, NotAfter-heads}

-- a larger amount is charged no less
pub fee-monotone : (x y base millionths : ℕ) → x ≤ y → fee_of x base millionths ≤ fee_of y base millionths
unfolding fee_of
fee-monotone x y base millionths h = let grown = mul-le-mul_right millionths h in omega (arith, grown)

min-le-min : (most x y : ℕ) → x ≤ y → min most x ≤ min most y
min-le-min most x y h = grind (arith, h)

-- a larger amount has no less odds
odds-rises : (failure least most x y : ℕ) → x ≤ y → odds failure least most x ≤ odds failure least most y
odds-rises failure least most x y h =
    let over : failure * (x - least) ≤ failure * (y - least) = mul-le-mul_left failure (omega (arith, h)) in
    let q = failure * (x - least) / (most - x + 1) in
    let room : q * (most - y + 1) ≤ q * (most - x + 1) = mul-le-mul_left q (omega (arith, h)) in
    let back : q * (most - x + 1) ≤ failure * (x - least) = div-mul-le_self (failure * (x - least)) (most - x + 1) in
    let more : q ≤ failure * (y - least) / (most - y + 1) =
    le-div q (failure * (y - least)) (most - y + 1) (omega arith) (omega (arith, room, back, over)) in
    min-le-min (100 * failure) q (failure * (y - least) / (most - y + 1)) more

penalty_by-rises : (failure hop : ℕ) (estimate : Estimate) (max x y : ℕ) → x ≤ y
    → penalty_by failure hop estimate max x ≤ penalty_by failure hop estimate max y
penalty_by-rises failure hop estimate max x y h =
    let most = min max estimate.most in
    let more = odds-rises failure estimate.least most x y h in
    min-le-min (2 ^ 40) (hop + estimate.penalty + odds failure estimate.least most x)
    (hop + estimate.penalty + odds failure estimate.least most y) (omega (arith, more))

-- a greater amount has no less penalty
pub penalty_at-rises : (preferences : Preferences) (known : Entries) (edge : PointEdge) (x y : ℕ) → x ≤ y
    → penalty_at preferences known edge x ≤ penalty_at preferences known edge y
penalty_at-rises preferences known edge x y h =
    penalty_by-rises preferences.failure_msat preferences.hop_msat (estimate_of known edge.scid edge.from) edge.max x y h

pub penalty-rises : (terms : Option Terms) (edge : Edge) (x y : ℕ) → x ≤ y → penalty_of terms edge x ≤ penalty_of terms edge y
penalty-rises None edge x y h = omega arith
penalty-rises (Some terms) edge x y h =
    penalty_by-rises terms.failure terms.hop (known_from terms.known edge.scid (slice_get terms.points edge.from)) edge.max x y h

pub penalty-light : (terms : Option Terms) (edge : Edge) (x : ℕ) → penalty_of terms edge x ≤ 2 ^ 40
penalty-light None edge x = omega arith
penalty-light (Some terms) edge x =
    let estimate = known_from terms.known edge.scid (slice_get terms.points edge.from) in
    min-le_left (2 ^ 40) (terms.hop + estimate.penalty + odds terms.failure estimate.least (min edge.max estimate.most) x)

pub trichotomy : (a b : ℕ) → (a < b) ⊎ (a ≡ b) ⊎ (b < a)
trichotomy a b = grind arith

-- the amount before an edge is strictly increasing in the amount after it
pub raised-lt : (a b base millionths : ℕ) → a < b → a + fee_of a base millionths < b + fee_of b base millionths
raised-lt a b base millionths h = let grown = fee-monotone a b base millionths (omega arith) in omega (arith, grown)

pub raised-le : (a b base millionths : ℕ) → a ≤ b → a + fee_of a base millionths ≤ b + fee_of b base millionths
raised-le a b base millionths h = let grown = fee-monotone a b base millionths h in omega (arith, grown)

-- lemma 3: a lesser amount can be carried wherever a greater one can
pub step-cheaper : (edges : List Edge) (request : Ask) (node : ℕ) (edge : Edge) (rest other : List Edge) →
    owed request.amount rest ≤ owed request.amount other →
    IsStep edges request node edge other → IsStep edges request node edge rest
step-cheaper edges request node edge rest other h step =
    record { there = step.there; leaves = step.leaves; above_min = step.above_min; below_max = omega (arith, step.below_max) }

pub Dominates-refl : (request : Ask) (rest : List Edge) → Dominates request rest rest
Dominates-refl request rest = record { fewer = omega arith; sooner = omega arith; cheaper = omega arith; before = NotAfter-refl (rest_key request rest) }

pub Dominates-trans : (request : Ask) (a b c : List Edge) → Dominates request a b → Dominates request b c → Dominates request a c
Dominates-trans request a b c h k =
    record {
      fewer = omega (arith, h.fewer, k.fewer);
      sooner = omega (arith, h.sooner, k.sooner);
      cheaper = omega (arith, h.cheaper, k.cheaper);
      before =
          NotAfter-trans (rest_key request a) (rest_key request b) (rest_key request c) h.before k.before;
    }

pub Dominates-owed : (request : Ask) (a b : List Edge) → Dominates request a b → owed request.amount a ≤ owed request.amount b
Dominates-owed request a b h = h.cheaper

pub Dominates-weight : (request : Ask) (a b : List Edge) → Dominates request a b → weight request a ≤ weight request b
Dominates-weight request a b h = NotAfter-heads (weight request a) (weight request b) (length a ∷ ids a) (length b ∷ ids b) h.before

-- a lesser amount is charged no more, and has no greater penalty
weight_grows : (request : Ask) (edge : Edge) (a b : List Edge) → owed request.amount a ≤ owed request.amount b
    → weight request (edge ∷ a) + weight request b ≤ weight request (edge ∷ b) + weight request a
weight_grows request edge a b h =
    omega (
      arith,
      fee-monotone (owed request.amount a) (owed request.amount b) edge.base edge.millionths h,
      penalty-rises request.terms edge (owed request.amount a) (owed request.amount b) h,
    )

-- lemma 2: an edge in front of two rests preserves their order
abbrev Tails : List Edge → List Edge → Type 0
Tails a b = NotAfter (length a ∷ ids a) (length b ∷ ids b)

tails_prepend : (edge : Edge) (a b : List Edge) → Tails a b → Tails (edge ∷ a) (edge ∷ b)
tails_prepend edge a b h = by (NotAfter-split (length a) (length b) (ids a) (ids b) h)
  where
    by : (length a < length b) ⊎ ((length a ≡ length b) × NotAfter (ids a) (ids b)) → Tails (edge ∷ a) (edge ∷ b)
    by (inl p) = NotAfter-join (suc (length a)) (suc (length b)) (ids (edge ∷ a)) (ids (edge ∷ b)) (inl (omega arith))
    by (inr p) = NotAfter-join (suc (length a)) (suc (length b)) (ids (edge ∷ a)) (ids (edge ∷ b))
        (inr (ap suc p.0, NotAfter-join edge.scid edge.scid (ids a) (ids b) (inr (refl, p.1))))

pub Dominates-prepend : (request : Ask) (edge : Edge) (a b : List Edge) → Dominates request a b → Dominates request (edge ∷ a) (edge ∷ b)
Dominates-prepend request edge a b h =
    record {
      fewer = omega (arith, h.fewer);
      sooner = omega (arith, h.sooner);
      cheaper = raised-le (owed request.amount a) (owed request.amount b) edge.base edge.millionths h.cheaper;
      before = by (NotAfter-split x y (length a ∷ ids a) (length b ∷ ids b) h.before) (trichotomy (weight request (edge ∷ a)) (weight request (edge ∷ b)));
    }
  where
    x : ℕ
    x = weight request a

    y : ℕ
    y = weight request b

    grows : weight request (edge ∷ a) + weight request b ≤ weight request (edge ∷ b) + weight request a
    grows = weight_grows request edge a b h.cheaper

    Order : Type 0
    Order = (weight request (edge ∷ a) < weight request (edge ∷ b)) ⊎ (weight request (edge ∷ a) ≡ weight request (edge ∷ b))
        ⊎ (weight request (edge ∷ b) < weight request (edge ∷ a))

    by : (x < y) ⊎ ((x ≡ y) × Tails a b) → Order → NotAfter (rest_key request (edge ∷ a)) (rest_key request (edge ∷ b))
    by s (inl q) =
        NotAfter-join (weight request (edge ∷ a)) (weight request (edge ∷ b))
        (length (edge ∷ a) ∷ ids (edge ∷ a)) (length (edge ∷ b) ∷ ids (edge ∷ b)) (inl q)
    by (inl p) (inr (inl q)) = absurd (omega (arith, grows))
    by (inr p) (inr (inl q)) =
        NotAfter-join (weight request (edge ∷ a)) (weight request (edge ∷ b))
        (length (edge ∷ a) ∷ ids (edge ∷ a)) (length (edge ∷ b) ∷ ids (edge ∷ b))
        (inr (q, tails_prepend edge a b p.1))
    by (inl p) (inr (inr q)) = absurd (omega (arith, grows))
    by (inr p) (inr (inr q)) = absurd (omega (arith, grows, p.0))

-- and as whole walks, where the first edge charges nothing
pub Dominates-walk : (request : Ask) (edge : Edge) (a b : List Edge) → Dominates request a b
    → NotAfter (walk_key request (edge ∷ a)) (walk_key request (edge ∷ b))
Dominates-walk request edge a b h = by (NotAfter-split x y (length a ∷ ids a) (length b ∷ ids b) h.before)
  where
    x : ℕ
    x = weight request a

    y : ℕ
    y = weight request b

    by : (x < y) ⊎ ((x ≡ y) × Tails a b) → NotAfter (walk_key request (edge ∷ a)) (walk_key request (edge ∷ b))
    by (inl p) = NotAfter-join x y (length (edge ∷ a) ∷ ids (edge ∷ a)) (length (edge ∷ b) ∷ ids (edge ∷ b)) (inl p)
    by (inr p) = NotAfter-join x y (length (edge ∷ a) ∷ ids (edge ∷ a)) (length (edge ∷ b) ∷ ids (edge ∷ b)) (inr (p.0, tails_prepend edge a b p.1))

-- what is sent, and then the number of edges, in one number
pub walk_less : (request : Ask) (walk other : List Edge) → length walk ≤ 20 → length other ≤ 20 →
    cost (worth request walk) (length walk) < cost (worth request other) (length other) →
    NotAfter (walk_key request walk) (walk_key request other)
walk_less request walk other few also p = by (trichotomy (worth request walk) (worth request other))
  where
    by : (worth request walk < worth request other) ⊎ (worth request walk
        ≡ worth request other) ⊎ (worth request other < worth request walk) →
        NotAfter (walk_key request walk) (walk_key request other)
    by (inl r) = NotAfter-join (worth request walk) (worth request other) (length walk ∷ ids walk) (length other ∷ ids other) (inl r)
    by (inr (inl r)) = NotAfter-join (worth request walk) (worth request other) (length walk ∷ ids walk) (length other ∷ ids other)
        (inr (r, NotAfter-join (length walk) (length other) (ids walk) (ids other) (inl (omega arith))))
    by (inr (inr r)) = absurd (omega arith)

-- the amount of a rest is at least the payment's
pub owed-least : (amount : ℕ) (rest : List Edge) → amount ≤ owed amount rest
owed-least amount [] = omega arith
owed-least amount (edge ∷ rest) = omega (arith, owed-least amount rest)

-- without terms there are none
pub no_spent : (amount : ℕ) (rest : List Edge) → penalties None amount rest ≡ 0
no_spent amount [] = refl
no_spent amount (edge ∷ rest) = omega (arith, no_spent amount rest)

-- each edge adds at most 2^40
pub penalties_light : (request : Ask) (rest : List Edge) → penalties request.terms request.amount rest ≤ length rest * 2 ^ 40
penalties_light request [] = omega arith
penalties_light request (edge ∷ rest) =
    omega (arith, penalties_light request rest, penalty-light request.terms edge (owed request.amount rest))

sent_below : (amount : ℕ) (walk : List Edge) → sent amount walk ≤ owed amount walk
sent_below amount [] = omega arith
sent_below amount (edge ∷ rest) = omega arith

pub carried_under : (amount : ℕ) (walk : List Edge) → sent amount walk < 2 ^ 64 → AreCarried amount walk
carried_under amount [] small = tt
carried_under amount (edge ∷ rest) small = (small, carried_under amount rest (omega (arith, sent_below amount rest)))

-- the amount after each edge fits 64 bits
pub carried_at : (amount : ℕ) (walk : List Edge) (k : ℕ) → AreCarried amount walk → k < length walk → owed amount (drop (suc k) walk) < 2 ^ 64
carried_at amount [] k carried within = absurd (omega arith)
carried_at amount (edge ∷ rest) zero carried within = carried.0
carried_at amount (edge ∷ rest) (suc k) carried within = carried_at amount rest k carried.1 (omega arith)

-- the penalties of a rest fit 64 bits
pub spent_small : (terms : Option Terms) (spent : ℕ) → IsSpent terms spent → spent ≤ 20 * 2 ^ 40
spent_small terms spent is =
    let request : Ask = record { payer = 0; payee = 0; amount = is.0; limit = None; hops = 20; terms = terms } in
    omega (arith, penalties_light request is.1, is.2, is.3)
