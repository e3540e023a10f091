use Rattle.std.proofs.Common.{◌<◌, get_or, ap, ◌∙◌, arith}
use Rattle.std.proofs.lemmas.Simd.{Each1-get_or, below_from_Fits}
use Rattle.std.proofs.Common.{w8}
use Rattle.hex.specs.Hex.{lower_digits}
use Rattle.lgm_hex.proofs.Encoded.{high_halves, low_halves, pairs_are}
use Rattle.lgm_hex.proofs.encode.pairs_of.Goals as goal

pub digits_of-high-requires : goal.digits_of-high-requires
digits_of-high-requires c k h =
    let bytes = c.args.bytes in
    let long = c.fits-bytes.0 in
    let byte : get_or bytes k 0 < 256 = Each1-get_or (λ b. b < 256) bytes k 0 (omega arith) (below_from_Fits w8 bytes c.fits-bytes.1) in
    omega (arith, high_halves bytes long k h)

pub digits_of-low-requires : goal.digits_of-low-requires
digits_of-low-requires c k h = omega (arith, low_halves c.args.bytes c.fits-bytes.0 k h)

pub returns-clause-lanes : goal.returns-clause-lanes
returns-clause-lanes c =
    pairs_are c.args.bytes c.digits_of-high.result c.digits_of-low.result c.digits_of-high.ensures.len c.digits_of-low.ensures.len
    (λ k h. c.digits_of-high.ensures.lanes k h ∙ ap (λ v. get_or lower_digits v 0) (high_halves c.args.bytes c.fits-bytes.0 k h))
    (λ k h. c.digits_of-low.ensures.lanes k h ∙ ap (λ v. get_or lower_digits v 0) (low_halves c.args.bytes c.fits-bytes.0 k h))
