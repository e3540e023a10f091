-- Laws of what is learnt.
use Rattle.std.proofs.Common.{◌≡◌, ℕ, ◌+◌, ◌-◌, ◌^◌, Bool, true, false, ◌&&◌, List, [], ◌∷◌, refl, sym, ap, subst, ◌∙◌, arith, Option, unwrap_or}
use Rattle.std.specs.Prelude.{◌==◌, nat_lt, fold, if◌then◌else◌}
use Rattle.std.proofs.lemmas.Bool.{and_parts, eqb-true}
use Rattle.std.proofs.lemmas.Bool.Decides.{nat_tests}
use Rattle.std.proofs.lemmas.List.Sums.{sum_by-cons}
use Rattle.lgm_wire.specs.declared.point.Point.{Point}
use Rattle.lgm_store.specs.Rows.{is_point}
use Rattle.lgm_store.proofs.Points.{same_point}
use Rattle.lgm_graph.specs.declared.estimate.Estimate.{Estimate}
use Rattle.lgm_graph.specs.declared.route.Hop.{Hop}
use Rattle.lgm_graph.specs.Estimates.{Entries, estimate_of, no_estimate, IsEstimated}
use Rattle.lgm_odds.specs.declared.lesson.Lesson.{Lesson}
use Rattle.lgm_odds.specs.Carried.{over, carried_over}
use Rattle.lgm_odds.specs.Lessons.{lowered, taught, taught_by, lowered_by, left_beside, AreTaught}

-- the edge was taught, and no other
pub taught_set : (lesson : Lesson) (hop : Hop) (amount : ℕ) (old new : Entries) (estimate : Estimate)
    → estimate ≡ taught lesson amount (estimate_of old hop.scid hop.from) → IsEstimated old hop.scid hop.from estimate new
    → AreTaught (taught_by lesson hop amount) old new
taught_set lesson hop amount old new estimate is set = λ scid from. by scid from (hop.scid == scid && is_point hop.from from) refl
  where
    by : (scid : ℕ) (from : Point) (b : Bool) → (hop.scid == scid && is_point hop.from from) ≡ b
        → estimate_of new scid from ≡ taught_by lesson hop amount scid from (estimate_of old scid from)
    by scid from true e =
        let both = and_parts _ _ e in
        let id : hop.scid ≡ scid = eqb-true hop.scid scid both.0 in
        let node : hop.from ≡ from = same_point hop.from from both.1 in
        let own : estimate_of new hop.scid hop.from ≡ taught lesson amount (estimate_of old hop.scid hop.from) =
        ap (λ (o : Option Estimate). unwrap_or o no_estimate) set.here ∙ is in
        let moved : estimate_of new scid from ≡ taught lesson amount (estimate_of old scid from) =
        subst (λ n. estimate_of new n from ≡ taught lesson amount (estimate_of old n from)) id
        (subst (λ (p : Point). estimate_of new hop.scid p ≡ taught lesson amount (estimate_of old hop.scid p)) node own) in
        rw e moved
    by scid from false e =
        rw e (ap (λ (o : Option Estimate). unwrap_or o no_estimate) (set.others (record { scid = scid; from = from }) e))

-- less by one amount and then by another is less by both
most_twice : (most top a c : ℕ)
    → (if nat_lt (if nat_lt most top then most - a else most) top then (if nat_lt most top then most - a else most) - c
    else (if nat_lt most top then most - a else most)) ≡ (if nat_lt most top then most - (a + c) else most)
most_twice most top a c = by (nat_lt most top) refl
  where
    by : (b : Bool) → nat_lt most top ≡ b
        → (if nat_lt (if b then most - a else most) top then (if b then most - a else most) - c else (if b then most - a else most))
        ≡ (if b then most - (a + c) else most)
    by true e =
        let still : nat_lt (most - a) top ≡ true = grind (arith, nat_tests) in
        rw still (omega arith)
    by false e = rw e refl

most_none : (most top : ℕ) → most ≡ (if nat_lt most top then most - 0 else most)
most_none most top = by (nat_lt most top)
  where
    by : (b : Bool) → most ≡ (if b then most - 0 else most)
    by true = omega arith
    by false = refl

with_parts : (penalty least least2 most most2 : ℕ) → least ≡ least2 → most ≡ most2
    → let one : Estimate = record { least = least; most = most; penalty = penalty } in
    let two : Estimate = record { least = least2; most = most2; penalty = penalty } in one ≡ two
with_parts penalty least least2 most most2 p q =
    ap (λ n. let e : Estimate = record { least = n; most = most; penalty = penalty } in e) p
    ∙ ap (λ n. let e : Estimate = record { least = least2; most = n; penalty = penalty } in e) q

lowered_twice : (a c : ℕ) (estimate : Estimate) → lowered c (lowered a estimate) ≡ lowered (a + c) estimate
lowered_twice a c estimate =
    with_parts estimate.penalty _ _ _ _ (let e : estimate.least - a - c ≡ estimate.least - (a + c) = omega arith in e)
    (most_twice estimate.most (2 ^ 64 - 1) a c)

lowered_none : (estimate : Estimate) → estimate ≡ lowered 0 estimate
lowered_none estimate =
    with_parts estimate.penalty _ _ _ _ (let e : estimate.least ≡ estimate.least - 0 = omega arith in e)
    (most_none estimate.most (2 ^ 64 - 1))

-- what hops lower one after the other is lowered by what they carry together
pub lowered_all : (busy : List Hop) (scid : ℕ) (from : Point) (estimate : Estimate)
    → fold (lowered_by scid from) estimate busy ≡ left_beside busy scid from estimate
lowered_all [] scid from estimate = lowered_none estimate
lowered_all (hop ∷ busy) scid from estimate =
    lowered_all busy scid from (lowered_by scid from estimate hop)
    ∙ by (hop.scid == scid && is_point hop.from from) refl
    ∙ ap (λ n. lowered n estimate) (sym (sum_by-cons (over scid from) hop busy))
  where
    by : (b : Bool) → (hop.scid == scid && is_point hop.from from) ≡ b
        → lowered (carried_over busy scid from) (lowered_by scid from estimate hop)
        ≡ lowered (over scid from hop + carried_over busy scid from) estimate
    by true e = rw e (lowered_twice hop.amount (carried_over busy scid from) estimate)
    by false e = rw e (ap (λ n. lowered n estimate) (omega arith))
