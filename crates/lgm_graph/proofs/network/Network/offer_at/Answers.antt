use Rattle.std.proofs.Common.{◌≡◌, Result, Ok, Err, ap, subst, inr, ◌∙◌}
use Rattle.std.specs.Result.{IsErrAnd}
use Rattle.std.proofs.lemmas.Result.{err_from_is_err_and}
use Rattle.lgm_check.specs.declared.refusal.Refusal.{Refusal}
use Rattle.lgm_check.specs.declared.refusal.Refusal.TheVariants.{NoMemory}
use Rattle.lgm_store.specs.declared.op.Op.{Op}
use Rattle.lgm_store.specs.Rows.{Rows}
use Rattle.lgm_store.specs.Admission.{admitted, Offers}
use Rattle.lgm_graph.proofs.network.Network.offer_at.Goals as goal

-- an operation was admitted, and then memory ran out
offers_less : (admission first answer : Result Op Refusal) (op : Op) → Offers first admission → first ≡ Ok op
    → IsErrAnd answer (λ refusal. refusal ≡ NoMemory) → Offers answer admission
offers_less (Ok other) first answer op offers is err = let p = err_from_is_err_and answer err in inr (p.1 ∙ ap Err p.2)
offers_less (Err refusal) first answer op offers is err = absurd cc

pub returns-in_err-absorb-clause-admission : goal.returns-in_err-absorb-clause-admission
returns-in_err-absorb-clause-admission c =
    offers_less (admitted c.args.self.now.rows c.args.message) c.admit_checked.result c.from_residual-in_err-absorb.result c.in_ok-op.op
    (subst (λ (rows : Rows). Offers c.admit_checked.result (admitted rows c.args.message))
    (ap (λ network. network.rows) c.self.view_is) (rw c.deref-2.ensures at c.admit_checked.ensures)) c.in_ok-op.was c.from_residual-in_err-absorb.ensures.1
