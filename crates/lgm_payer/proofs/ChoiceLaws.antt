-- Laws of what was tried, and of what is chosen.
use Rattle.std.proofs.Common.{◌≡◌, ◌≤◌, ℕ, Bool, true, false, Option, Some, None, refl, subst, sym, inr, true≢false, ◌∙◌, if◌then◌else◌}
use Rattle.std.specs.Prelude.{IfSome, IfOk, IfErr}
use Rattle.lgm_payer.specs.declared.offer.Offer.{Offer}
use Rattle.lgm_payer.specs.declared.unfound.Unfound.{Unfound}
use Rattle.lgm_payer.specs.Payments.{PaymentState, left}
use Rattle.lgm_payer.specs.Reasons.{is_mendable}
use Rattle.lgm_payer.specs.Searches.{Prospect, IsFit, IsTried, unlikely, without, IsReason, IsOffered, IsLast}
use Rattle.lgm_payer.specs.Searches.{piece, next_pieces, is_likely, brings_more, better}
use Rattle.lgm_payer.specs.Looking.{best_or, IsUnfound}

module _ (prospect : Prospect) (payment : PaymentState) where
  -- the better one fits if both do
  pub better_fits : (best : Option Offer) (offer : Offer) → IfSome best (IsFit prospect payment) → IsFit prospect payment offer
      → IsFit prospect payment (better best offer)
  better_fits None offer fits fit = fit
  better_fits (Some best) offer fits fit = by (brings_more offer best)
    where
      by : (b : Bool) → IsFit prospect payment (if b then offer else best)
      by true = fit
      by false = fits

  -- what was tried once another amount has no likely route
  pub unlikely_next : (pieces amount : ℕ) (best : Option Offer) (offer found : Offer) (next : Option ℕ)
      → IsTried prospect payment (Some pieces) best → IsFit prospect payment offer → offer.amount ≡ amount
      → amount ≡ piece payment pieces → is_likely offer ≡ false → next ≡ next_pieces payment pieces
      → found ≡ better best offer → IsTried prospect payment next (Some found)
  unlikely_next pieces amount best offer found next tried fit is piece_is odds goes kept =
      subst (λ (o : Option ℕ). IsTried prospect payment o (Some found)) (sym goes)
      (subst (λ (o : Offer). IsTried prospect payment (next_pieces payment pieces) (Some o)) (sym kept)
      (unlikely pieces best offer tried fit (is ∙ piece_is) odds))

  -- or none at all
  pub without_next : (pieces amount : ℕ) (best : Option Offer) (reason : Unfound) (next : Option ℕ)
      → IsTried prospect payment (Some pieces) best → IsReason prospect payment amount reason
      → amount ≡ piece payment pieces → is_mendable reason ≡ true → next ≡ next_pieces payment pieces
      → IsTried prospect payment next best
  without_next pieces amount best reason next tried why piece_is mendable goes =
      subst (λ (o : Option ℕ). IsTried prospect payment o best) (sym goes)
      (without pieces best reason tried (subst (λ n. IsReason prospect payment n reason) piece_is why) mendable)

  -- a reason that no smaller amount mends
  pub last_unmended : (pieces amount : ℕ) (best : Option Offer) (reason : Unfound)
      → IsTried prospect payment (Some pieces) best → IsReason prospect payment amount reason
      → amount ≡ piece payment pieces → is_mendable reason ≡ false → IsLast prospect payment reason
  last_unmended pieces amount best reason tried why piece_is unmended = record {
    pieces = pieces;
    best = best;
    tried = tried;
    why = subst (λ n. IsReason prospect payment n reason) piece_is why;
    last = λ mended. absurd (true≢false (sym mended ∙ unmended));
  }

  -- the best is offered once all amounts were tried
  pub best_offered : (best : Option Offer) (reason : Unfound) → left payment ≤ prospect.room → left payment ≤ prospect.payee_room → IsTried prospect payment None best
      → IfSome best (IsFit prospect payment) → IfOk (best_or best reason) (IsOffered prospect payment)
  best_offered None reason room payee_room tried fits = tt
  best_offered (Some offer) reason room payee_room tried fits = record { room = room; payee_room = payee_room; fit = fits; chosen = inr tried }

  -- or there is none
  pub none_offered : (pieces amount : ℕ) (best : Option Offer) (reason : Unfound)
      → IsTried prospect payment (Some pieces) best → IsReason prospect payment amount reason
      → amount ≡ piece payment pieces → None ≡ next_pieces payment pieces
      → IfErr (best_or best reason) (IsUnfound prospect payment)
  none_offered pieces amount (Some offer) reason tried why piece_is goes = tt
  none_offered pieces amount None reason tried why piece_is goes =
      inr (inr (record {
        pieces = pieces;
        best = None;
        tried = tried;
        why = subst (λ n. IsReason prospect payment n reason) piece_is why;
        last = λ mended. (refl, sym goes);
      }))
