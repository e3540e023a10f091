-- Why there is no route, as C gets it.
use Rattle.std.proofs.Common.{◌≡◌, ◌∙◌, ℕ, List, Option, Some, None, Result, Ok, Err, inl, inr, refl, sym, ap, subst}
use Rattle.lgm_store.specs.Rows.{Rows}
use Rattle.lgm_route.specs.Answers.{refusal}
use Rattle.lgm_route.specs.declared.found.SearchFault.{SearchFault}
use Rattle.lgm_route.specs.declared.no_route.NoRouteReason.{NoRouteReason}
use Rattle.lgm_c.specs.declared.fault.Fault.{Fault}
use Rattle.lgm_c.specs.Attempts.{AttemptParts, edges_for, unsearched, TellsReason, ExplainsIf, ExplainsIn}
use Rattle.lgm_c.specs.Status.{number_of, unfound}
use Rattle.lgm_c.specs.inner.Searching.{IsReasonFound, number_found}
use Rattle.lgm_c.proofs.Searches.{lawful}

-- its number, where one is searched for
tells : (attempt : AttemptParts) (known : Option (List ℕ)) (rows : Rows) (found : Result (Option NoRouteReason) SearchFault)
    → refusal attempt.request ≡ None → IsReasonFound attempt known rows found
    → TellsReason attempt (edges_for attempt known rows) (number_found found)
tells attempt known rows (Ok reason) searched is = inl (reason, is, refl)
tells attempt known rows (Err fault) searched (inl memory) = inr (inl (ap (λ f. number_of (unfound f)) memory))
tells attempt known rows (Err fault) searched (inr (inl used_up)) =
    inr (inr (ap (λ f. number_of (unfound f)) used_up.0, used_up.1))
tells attempt known rows (Err fault) searched (inr (inr refused)) =
    let never : None ≡ Some refused.0 = sym searched ∙ refused.1 in absurd cc

-- the same of a network with these rows
pub explains : (attempt : AttemptParts) (known : Option (List ℕ)) (rows : Rows) (own : Option (List ℕ)) (at : Rows)
    (found : Result (Option NoRouteReason) SearchFault) (number : ℕ) → unsearched attempt rows ≡ None → own ≡ known → at ≡ rows
    → IsReasonFound attempt own at found → number ≡ number_found found → ExplainsIn attempt known rows number
explains attempt known rows own at found number searched same_known same_rows is told =
    let here = subst (λ r. IsReasonFound attempt known r found) same_rows (subst (λ k. IsReasonFound attempt k at found) same_known is) in
    subst (λ (f : Option Fault). ExplainsIf f attempt (edges_for attempt known rows) number) (sym searched)
    (subst (λ n. TellsReason attempt (edges_for attempt known rows) n) (sym told)
    (tells attempt known rows found (lawful attempt known rows searched) here))
