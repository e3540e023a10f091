use Rattle.std.proofs.Common.{◌∙◌}
use Rattle.std.proofs.lemmas.Simd.{length-swz_l}
use Rattle.std.proofs.Common.{w8}
use Rattle.lgm_hex.proofs.Encoded.{table, may_look_up, digits_are}
use Rattle.lgm_hex.proofs.encode.digits_of.Goals as goal

pub swizzle : goal.swizzle
swizzle c = may_look_up c.args.values c.fits-values.0 c.requires

pub returns-clause-len : goal.returns-clause-len
returns-clause-len c = length-swz_l w8 16 table 0 c.args.values ∙ c.fits-values.0

pub returns-clause-lanes : goal.returns-clause-lanes
returns-clause-lanes c = digits_are c.args.values c.fits-values.0 c.requires
