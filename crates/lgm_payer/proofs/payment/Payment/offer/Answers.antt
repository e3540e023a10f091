use Rattle.std.proofs.Common.{◌≡◌, ◌∙◌, Some, None, Option, ℕ, true, false, sym, arith, rules, subst, inr}
use Rattle.std.specs.Prelude.{IfOk, IfErr}
use Rattle.lgm_payer.specs.declared.offer.Offer.{Offer}
use Rattle.lgm_payer.specs.declared.unfound.Unfound.{Unfound}
use Rattle.std.specs.Prelude.{Result}
use Rattle.lgm_payer.specs.Reasons.{is_mendable}
use Rattle.lgm_payer.specs.Searches.{IsOffered, start, next_pieces, is_likely}
use Rattle.lgm_payer.specs.Looking.{prospect_at, IsUnfound}
use Rattle.lgm_payer.proofs.ChoiceLaws.{better_fits, unlikely_next, without_next, last_unmended, best_offered, none_offered}
use Rattle.lgm_payer.proofs.payment.Payment.offer.Goals as goal

pub dividing-init : goal.dividing-init
dividing-init c = record { some = omega arith; few = λ two. absurd (omega (arith, two)); enough = λ two. absurd (omega (arith, two)); tried = start; fits = tt }

pub dividing-preserved-in-Some : goal.dividing-preserved-in-Some
dividing-preserved-in-Some c =
    let before = c.dividing.invariant in
    let odds : is_likely c.in-Ok.offer ≡ false = search rules in
    let next : Some c.in-Some.more ≡ next_pieces c.args.self.now c.dividing.pieces = sym c.in-Some.is ∙ c.next_pieces-next.ensures.exact in
    record {
      some = omega (arith, c.in-Some.ensures.more);
      few = λ two. c.in-Some.ensures.few;
      enough = λ two. c.in-Some.ensures.enough;
      tried =
          unlikely_next (prospect_at c.args.outlook.now) c.args.self.now c.dividing.pieces c.piece-amount.result c.dividing.best
          c.in-Ok.offer c.better-better.result (Some c.in-Some.more) before.tried c.in-Ok.ensures.fit c.in-Ok.ensures.amount
          c.piece-amount.ensures.exact odds next c.better-better.ensures;
      fits =
          rw c.better-better.ensures
          (better_fits (prospect_at c.args.outlook.now) c.args.self.now c.dividing.best c.in-Ok.offer before.fits c.in-Ok.ensures.fit);
    }

pub returns-in-None-clause-offered : goal.returns-in-None-clause-offered
returns-in-None-clause-offered c =
    let before = c.dividing.invariant in
    let odds : is_likely c.in-Ok.offer ≡ false = search rules in
    let none : Option ℕ = None in
    let next : none ≡ next_pieces c.args.self.now c.dividing.pieces = sym c.in-None.is ∙ c.next_pieces-next.ensures.exact in
    record {
      room = c.requires.room;
      payee_room = c.requires.payee_room;
      fit =
          rw c.better-better.ensures
          (better_fits (prospect_at c.args.outlook.now) c.args.self.now c.dividing.best c.in-Ok.offer before.fits c.in-Ok.ensures.fit);
      chosen =
          inr (unlikely_next (prospect_at c.args.outlook.now) c.args.self.now c.dividing.pieces c.piece-amount.result c.dividing.best
          c.in-Ok.offer c.better-better.result None before.tried c.in-Ok.ensures.fit c.in-Ok.ensures.amount
          c.piece-amount.ensures.exact odds next c.better-better.ensures);
    }

pub returns-then-not-may_be_mended-clause-why : goal.returns-then-not-may_be_mended-clause-why
returns-then-not-may_be_mended-clause-why c =
    let before = c.dividing.invariant in
    let unmended : is_mendable c.in-Err.reason ≡ false = search rules in
    inr (inr (last_unmended (prospect_at c.args.outlook.now) c.args.self.now c.dividing.pieces c.piece-amount.result c.dividing.best
    c.in-Err.reason before.tried c.in-Err.ensures.why c.piece-amount.ensures.exact unmended))

pub dividing-preserved : goal.dividing-preserved
dividing-preserved c =
    let before = c.dividing.invariant in
    let mended : is_mendable c.in-Err.reason ≡ true = search rules in
    let next : Some c.in-Some-next.more ≡ next_pieces c.args.self.now c.dividing.pieces =
    sym c.in-Some-next.is ∙ c.next_pieces-next.ensures.exact in
    record {
      some = omega (arith, c.in-Some-next.ensures.more);
      few = λ two. c.in-Some-next.ensures.few;
      enough = λ two. c.in-Some-next.ensures.enough;
      tried =
          without_next (prospect_at c.args.outlook.now) c.args.self.now c.dividing.pieces c.piece-amount.result c.dividing.best
          c.in-Err.reason (Some c.in-Some-next.more) before.tried c.in-Err.ensures.why c.piece-amount.ensures.exact mended next;
      fits = before.fits;
    }

pub returns-in-None-next-clause-offered : goal.returns-in-None-next-clause-offered
returns-in-None-next-clause-offered c =
    let before = c.dividing.invariant in
    let mended : is_mendable c.in-Err.reason ≡ true = search rules in
    let none : Option ℕ = None in
    let next : none ≡ next_pieces c.args.self.now c.dividing.pieces =
    sym c.in-None-next.is ∙ c.next_pieces-next.ensures.exact in
    subst (λ (r : Result Offer Unfound). IfOk r (IsOffered (prospect_at c.args.outlook.now) c.args.self.now)) (sym c.best_or.ensures)
    (best_offered (prospect_at c.args.outlook.now) c.args.self.now c.dividing.best c.in-Err.reason c.requires.room c.requires.payee_room
    (without_next (prospect_at c.args.outlook.now) c.args.self.now c.dividing.pieces c.piece-amount.result c.dividing.best
    c.in-Err.reason None before.tried c.in-Err.ensures.why c.piece-amount.ensures.exact mended next) before.fits)

pub returns-in-None-next-clause-why : goal.returns-in-None-next-clause-why
returns-in-None-next-clause-why c =
    let before = c.dividing.invariant in
    let none : Option ℕ = None in
    let next : none ≡ next_pieces c.args.self.now c.dividing.pieces =
    sym c.in-None-next.is ∙ c.next_pieces-next.ensures.exact in
    subst (λ (r : Result Offer Unfound). IfErr r (IsUnfound (prospect_at c.args.outlook.now) c.args.self.now)) (sym c.best_or.ensures)
    (none_offered (prospect_at c.args.outlook.now) c.args.self.now c.dividing.pieces c.piece-amount.result c.dividing.best
    c.in-Err.reason before.tried c.in-Err.ensures.why c.piece-amount.ensures.exact next)
