-- Payments that are dealt round-robin.
use Rattle.std.proofs.Common.{◌≡◌, ◌≢◌, ◌⊎◌, inl, inr, ℕ, zero, suc, ◌+◌, ◌-◌, ◌*◌, ◌/◌, ◌%◌, ◌<◌, ◌≤◌}
use Rattle.std.proofs.Common.{min, cond, List, [], ◌∷◌, Some, refl, sym, ap, subst, ◌∙◌, arith}
use Rattle.std.specs.Prelude.{slice_get}
use Rattle.std.proofs.Math.Nat.{mod-lt, zero-div, zero-mod}
use Rattle.std.proofs.lemmas.Nat.{div-add-mod', div-mul-add, mod-mul-add}
use Rattle.std.proofs.lemmas.Bool.{cases_lt}
use Rattle.std.proofs.lemmas.Bool.Decides.{eqb_tells}
use Rattle.lgm_script.specs.declared.grammar.route_parameters.RouteParameters.{RouteParameters}
use Rattle.lgm_live.specs.ParsedScript.{dealt_from}

-- how many of the first n payments are one worker's
abbrev turns : ℕ → ℕ → ℕ → ℕ
turns workers worker n = n / workers + min 1 (n % workers - worker)

-- the worker of the next payment: in the same round, or at the start of the next one
record Onward (workers n : ℕ) : Type 0 where
  pub rounds : ℕ
  pub turn : ℕ
  pub rounds_is : (n + 1) / workers ≡ rounds
  pub turn_is : (n + 1) % workers ≡ turn
  pub step : ((rounds ≡ n / workers) × (turn ≡ n % workers + 1)) ⊎ ((rounds ≡ n / workers + 1) × (turn ≡ 0) × (n % workers + 1 ≡ workers))

onward : (workers n : ℕ) → 0 < workers → Onward workers n
onward w n some = elim (cases_lt (n % w + 1) w) [
  | inl less ↦ record {
    rounds = n / w;
    turn = n % w + 1;
    rounds_is = ap (λ m. m / w) (same_round w n) ∙ div-mul-add (n / w) w (n % w + 1) less;
    turn_is = ap (λ m. m % w) (same_round w n) ∙ mod-mul-add (n / w) w (n % w + 1) less;
    step = inl (refl, refl);
  }
  | inr last ↦ let full : n % w + 1 ≡ w = omega (arith, last, mod-lt n some) in record {
    rounds = n / w + 1;
    turn = 0;
    rounds_is = ap (λ m. m / w) (next_round w n full) ∙ div-mul-add (n / w + 1) w 0 some;
    turn_is = ap (λ m. m % w) (next_round w n full) ∙ mod-mul-add (n / w + 1) w 0 some;
    step = inr (refl, refl, full);
  }
]
  where
    same_round : (w n : ℕ) → n + 1 ≡ n / w * w + (n % w + 1)
    same_round w n = omega (arith, div-add-mod' n w)

    next_round : (w n : ℕ) → n % w + 1 ≡ w → n + 1 ≡ (n / w + 1) * w + 0
    next_round w n full = omega (arith, div-add-mod' n w, full)

turns_own : (w i n : ℕ) → 0 < w → n % w ≡ i → turns w i (n + 1) ≡ turns w i n + 1
turns_own w i n some own =
    let on = onward w n some in
    elim on.step [
      | inl same ↦ omega (arith, own, on.rounds_is, on.turn_is, same.0, same.1)
      | inr next ↦ omega (arith, own, on.rounds_is, on.turn_is, next.0, next.1, next.2)
    ]

turns_other : (w i n : ℕ) → 0 < w → i < w → n % w ≢ i → turns w i (n + 1) ≡ turns w i n
turns_other w i n some below other =
    let on = onward w n some in
    elim on.step [
      | inl same ↦ omega (arith, other, on.rounds_is, on.turn_is, same.0, same.1)
      | inr next ↦ omega (arith, other, below, on.rounds_is, on.turn_is, next.0, next.1, next.2)
    ]

turns_grow : (w i n k : ℕ) → 0 < w → i < w → turns w i n ≤ turns w i (n + k)
turns_grow w i n zero some below = let same : n + zero ≡ n = omega arith in rw same (omega arith)
turns_grow w i n (suc k) some below =
    let more = turns_grow w i n k some below in
    let next : n + suc k ≡ n + k + 1 = omega arith in
    rw next (elim (eqb_tells ((n + k) % w) i) [
      | inl own ↦ omega (arith, more, turns_own w i (n + k) some own.1)
      | inr other ↦ omega (arith, more, turns_other w i (n + k) some below other.1)
    ])

pub dealt_here : (w i next : ℕ) (payment : RouteParameters) (payments : List RouteParameters) → next % w ≡ i
    → dealt_from w i next (payment ∷ payments) ≡ payment ∷ dealt_from w i (next + 1) payments
dealt_here w i next payment payments own =
    elim (eqb_tells (next % w) i) [
      | inl is ↦ ap (λ b. cond b (payment ∷ dealt_from w i (next + 1) payments) (dealt_from w i (next + 1) payments)) is.0
      | inr not ↦ absurd (not.1 own)
    ]

pub dealt_there : (w i next : ℕ) (payment : RouteParameters) (payments : List RouteParameters) → next % w ≢ i
    → dealt_from w i next (payment ∷ payments) ≡ dealt_from w i (next + 1) payments
dealt_there w i next payment payments other =
    elim (eqb_tells (next % w) i) [
      | inl is ↦ absurd (other is.1)
      | inr not ↦ ap (λ b. cond b (payment ∷ dealt_from w i (next + 1) payments) (dealt_from w i (next + 1) payments)) not.0
    ]

-- after its first turn
one_behind : (w i next place : ℕ) (p : RouteParameters) (others : List RouteParameters) (payment : RouteParameters) → 0 < w → i < w
    → ((n : ℕ) → n + turns w i (next + 1) ≡ turns w i (next + 1 + place) → slice_get others n ≡ Some payment)
    → (n : ℕ) → n + turns w i next ≡ turns w i (next + 1 + place) → turns w i (next + 1) ≡ turns w i next + 1
    → slice_get (p ∷ others) n ≡ Some payment
one_behind w i next place p others payment some below rest zero count more =
    absurd (omega (arith, count, more, turns_grow w i (next + 1) place some below))
one_behind w i next place p others payment some below rest (suc n) count more = rest n (omega (arith, count, more))

-- a worker's turn comes after its earlier turns
dealt_at : (w i next : ℕ) (payments : List RouteParameters) (place pos : ℕ) (payment : RouteParameters) → 0 < w → i < w
    → slice_get payments place ≡ Some payment → (next + place) % w ≡ i
    → pos + turns w i next ≡ turns w i (next + place) → slice_get (dealt_from w i next payments) pos ≡ Some payment
dealt_at w i next [] place pos payment some below at own count = absurd cc
dealt_at w i next (p ∷ ps) zero pos payment some below at own count =
    let here : next + zero ≡ next = omega arith in
    let first : pos ≡ 0 = omega (arith, subst (λ m. pos + turns w i next ≡ turns w i m) here count) in
    rw (dealt_here w i next p ps (subst (λ m. m % w ≡ i) here own), first) at
dealt_at w i next (p ∷ ps) (suc place) pos payment some below at own count =
    let on : next + suc place ≡ next + 1 + place = omega arith in
    let own' : (next + 1 + place) % w ≡ i = subst (λ m. m % w ≡ i) on own in
    let count' : pos + turns w i next ≡ turns w i (next + 1 + place) = subst (λ m. pos + turns w i next ≡ turns w i m) on count in
    let rest : (n : ℕ) → n + turns w i (next + 1) ≡ turns w i (next + 1 + place) → slice_get (dealt_from w i (next + 1) ps) n ≡ Some payment =
    λ n count. dealt_at w i (next + 1) ps place n payment some below at own' count in
    elim (eqb_tells (next % w) i) [
      | inl is ↦ subst (λ dealt. slice_get dealt pos ≡ Some payment) (sym (dealt_here w i next p ps is.1))
          (one_behind w i next place p (dealt_from w i (next + 1) ps) payment some below rest pos count'
          (turns_own w i next some is.1))
      | inr not ↦ subst (λ dealt. slice_get dealt pos ≡ Some payment) (sym (dealt_there w i next p ps not.1))
          (rest pos (omega (arith, count', turns_other w i next some below not.1)))
    ]

-- the payment at an index is dealt to the worker whose turn it is, after as many as there were rounds
pub dealt_in_turn : (workers place : ℕ) (payments : List RouteParameters) (payment : RouteParameters) → 0 < workers → slice_get payments place ≡ Some payment
    → slice_get (dealt_from workers (place % workers) 0 payments) (place / workers) ≡ Some payment
dealt_in_turn w place payments payment some at =
    let from : 0 + place ≡ place = omega arith in
    dealt_at w (place % w) 0 payments place (place / w) payment some (mod-lt place some) at (ap (λ m. m % w) from)
    (subst (λ m. place / w + turns w (place % w) 0 ≡ turns w (place % w) m) (sym from) (omega (arith, zero-div w, zero-mod w)))
