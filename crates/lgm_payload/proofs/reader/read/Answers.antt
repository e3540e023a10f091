use Rattle.std.proofs.Common.{arith}
use Rattle.lgm_payload.proofs.PayloadLaws.{is_found, is_only}
use Rattle.lgm_payload.proofs.reader.read.Goals as goal

pub returns-clause-found : goal.returns-clause-found
returns-clause-found c = is_found c.args.bytes.now c.parse.result (λ i. omega (arith, c.type_inv.bytes i)) c.parse.ensures

pub returns-clause-only : goal.returns-clause-only
returns-clause-only c = λ payload is. is_only c.args.bytes.now c.parse.result payload c.parse.ensures is
