use Rattle.std.proofs.Common.{◌≡◌, inr, subst, sym, Err}
use Rattle.std.proofs.lemmas.Result.{err_from_is_err_and}
use Rattle.lgm_wire.specs.declared.point.Point.{Point}
use Rattle.lgm_check.specs.Precheck.{checked_of}
use Rattle.lgm_gossip.specs.Layout.{IsLaidOut}
use Rattle.lgm_check.proofs.UpdateLaws.{update_sees}
use Rattle.lgm_check.proofs.validation.check_kind.Goals as goal

pub returns-in_ok-signer-in-Update-clause-exact : goal.returns-in_ok-signer-in-Update-clause-exact
returns-in_ok-signer-in-Update-clause-exact c =
    let bytes = c.args.bytes.now in
    let laid = subst (λ layout. IsLaidOut layout bytes) c.in-Update.is c.layout_of.ensures in
    let sees = update_sees c.args.chain.now bytes c.args.evidence.now c.in_bytes-in-Update.result (λ (signer : Point). signer) c.update.result laid
    c.in_bytes-in-Update.ensures (c.update.ensures bytes) in
    rw c.in_ok-signer-in-Update.was at sees

pub returns-in_err-signer-in-Update-clause-exact : goal.returns-in_err-signer-in-Update-clause-exact
returns-in_err-signer-in-Update-clause-exact c =
    let bytes = c.args.bytes.now in
    let laid = subst (λ layout. IsLaidOut layout bytes) c.in-Update.is c.layout_of.ensures in
    let sees = update_sees c.args.chain.now bytes c.args.evidence.now c.in_bytes-in-Update.result (λ (signer : Point). signer) c.update.result laid
    c.in_bytes-in-Update.ensures (c.update.ensures bytes) in
    let err = rw c.in_err-signer-in-Update.was at sees in
    let p = err_from_is_err_and c.from_residual-in_err-signer-in-Update.result c.from_residual-in_err-signer-in-Update.ensures.1 in
    rw p.1 (inr (subst (λ e. checked_of c.args.chain.now bytes c.args.evidence.now ≡ Err e) (sym p.2) err))
