use Rattle.std.proofs.Common.{subst}
use Rattle.lgm_wire.specs.declared.point.Point.{Point}
use Rattle.lgm_gossip.specs.Memory.{TakesMemory}
use Rattle.lgm_check.specs.declared.evidence.Evidence.{Evidence}
use Rattle.lgm_c.specs.Offering.{offered_to}
use Rattle.lgm_c.specs.Wanting.{right_verdicts, wanted, key_in}
use Rattle.lgm_c.specs.inner.Following.{Fails}
use Rattle.lgm_c.proofs.Unwanted.{told}
use Rattle.lgm_c.proofs.wanted.write_wanted.Goals as goal

pub returns-in_err-verdict : goal.returns-in_err-verdict
returns-in_err-verdict c =
    let rows = c.args.map.now in
    let bytes = c.args.bytes.now in
    let other : Point = record { 0 = c.args.signer.now } in
    told (TakesMemory bytes) (wanted c.args.chain.now rows bytes other) (key_in (right_verdicts rows bytes other).sig other)
    c.in_err-verdict.field-0.0 c.from_residual.result c.args.signer.now
    (subst (λ (evidence : Evidence). Fails (TakesMemory bytes) (offered_to c.args.chain.now rows bytes evidence) c.in_err-verdict.field-0.0)
    c.right_verdicts-evidence.ensures c.in_err-verdict.ensures.refused) c.from_residual.ensures.1
