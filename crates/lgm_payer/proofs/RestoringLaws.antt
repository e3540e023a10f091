-- A payment is sound if and only if it keeps what all payments keep.
use Rattle.std.proofs.Common.{◌≡◌, ◌⊎◌, ℕ, zero, suc, ◌+◌, ◌<◌, ◌≤◌, Bool, true, false, ◌&&◌, ◌||◌, List, get_or, cond, Option, Some, None, ap, arith, refl, inl, inr}
use Rattle.std.proofs.lemmas.Bool.{leb-true, le-leb, ltb-true, lt-ltb, eqb-true, eq-eqb}
use Rattle.std.proofs.lemmas.List.Sums.{AllPass-from_list_all, list_all-from_AllPass}
use Rattle.lgm_graph.specs.Route.{sent}
use Rattle.lgm_payer.specs.declared.invoice.Invoice.{Invoice}
use Rattle.lgm_payer.specs.declared.bounds.Bounds.{Bounds}
use Rattle.lgm_payer.specs.declared.part.Part.{Part}
use Rattle.lgm_payer.specs.Payments.{PaymentState, KeepsBounds, most_at_once, least_amount}
use Rattle.lgm_payer.specs.Restoring.{is_sound_part, is_divisible, is_counted, is_covered, is_sound, restored}

-- two tests
pub both : (a b : Bool) → (a && b) ≡ true → (a ≡ true) × (b ≡ true)
both true b e = (refl, e)
both false b e = absurd cc

pub all_true : (a b : Bool) → a ≡ true → b ≡ true → (a && b) ≡ true
all_true a b e f = rw (e, f) refl

or_right : (a b : Bool) → b ≡ true → (a || b) ≡ true
or_right true b e = refl
or_right false b e = e

-- a sound part
pub part_is : (invoice : Invoice) (bounds : Bounds) (part : Part) → is_sound_part invoice bounds part ≡ true
    → (part.blocks ≤ bounds.most_blocks) × (sent part.route ≡ part.amount + part.fee) × (least_amount invoice bounds ≤ part.amount)
part_is invoice bounds part e =
    let p = both _ _ e in
    let q = both _ _ p.0 in
    (leb-true _ _ q.0, eqb-true _ _ q.1, leb-true _ _ p.1)

either : (a b : Bool) → (a || b) ≡ true → (a ≡ true) ⊎ (b ≡ true)
either true b e = inl refl
either false b e = inr e

-- what is left
left_is : (invoice : Invoice) (bounds : Bounds) (left held : ℕ) → is_divisible invoice bounds left held ≡ true
    → 0 < left → (least_amount invoice bounds ≤ left) × (held < most_at_once invoice bounds)
left_is invoice bounds left held e some =
    elim (either _ _ e) [
      | inl none ↦ let zero : left ≡ 0 = eqb-true left 0 none in absurd (omega arith)
      | inr h ↦ let p = both _ _ h in (leb-true _ _ p.0, ltb-true _ _ p.1)
    ]

pub sound_keeps : (invoice : Invoice) (bounds : Bounds) (parts : List Part) → is_sound invoice bounds parts ≡ true
    → (1 ≤ invoice.amount) × KeepsBounds invoice bounds parts
sound_keeps invoice bounds parts e =
    let a = both _ _ e in
    let b = both _ _ a.0 in
    let c = both _ _ b.0 in
    let counted = both _ _ c.0 in
    let few = both _ _ counted.0 in
    let covered = both _ _ b.1 in
    let amount = leb-true _ _ covered.0 in
    let each = AllPass-from_list_all _ parts a.1 in
    let rest = left_is invoice bounds _ _ covered.1 in (
      leb-true _ _ few.0,
      record {
        amount = amount;
        fee = leb-true _ _ c.1;
        few = leb-true _ _ few.1;
        tries = leb-true _ _ counted.1;
        in_time = λ k x lt. (part_is invoice bounds (get_or parts k x) (each k x lt)).0;
        sends = λ k x lt. (part_is invoice bounds (get_or parts k x) (each k x lt)).1;
        enough = λ k x lt. (part_is invoice bounds (get_or parts k x) (each k x lt)).2;
        leaves = λ some. let h = rest (omega arith) in omega (arith, h);
        spare = λ some. (rest (omega arith)).1;
      },
    )

divisible : (invoice : Invoice) (bounds : Bounds) (left held : ℕ)
    → (0 < left → (least_amount invoice bounds ≤ left) × (held < most_at_once invoice bounds)) → is_divisible invoice bounds left held ≡ true
divisible invoice bounds zero held h = refl
divisible invoice bounds (suc left) held h =
    let p = h (omega arith) in
    or_right _ _ (all_true _ _ (le-leb _ _ p.0) (lt-ltb _ _ p.1))

pub keeps_sound : (invoice : Invoice) (bounds : Bounds) (parts : List Part) → 1 ≤ invoice.amount → KeepsBounds invoice bounds parts
    → is_sound invoice bounds parts ≡ true
keeps_sound invoice bounds parts some keeps =
    let counted : is_counted invoice bounds parts ≡ true =
    all_true _ _ (all_true _ _ (le-leb _ _ some) (le-leb _ _ keeps.few)) (le-leb _ _ keeps.tries) in
    let covered : is_covered invoice bounds parts ≡ true =
    all_true _ _ (le-leb _ _ keeps.amount) (divisible invoice bounds _ _
    (λ left. (omega (arith, keeps.leaves (omega arith)), keeps.spare (omega arith)))) in
    let each = list_all-from_AllPass (is_sound_part invoice bounds) parts (λ k x lt.
    all_true _ _ (all_true _ _ (le-leb _ _ (keeps.in_time k x lt)) (eq-eqb _ _ (keeps.sends k x lt))) (le-leb _ _ (keeps.enough k x lt))) in
    all_true _ _ (all_true _ _ (all_true _ _ counted (le-leb _ _ keeps.fee)) covered) each

pub can_restore : (payment : PaymentState) → 1 ≤ payment.invoice.amount → KeepsBounds payment.invoice payment.bounds payment.parts
    → restored payment ≡ Some payment
can_restore payment some keeps =
    let none : Option PaymentState = None in
    ap (λ (b : Bool). cond b (Some payment) none) (keeps_sound payment.invoice payment.bounds payment.parts some keeps)
