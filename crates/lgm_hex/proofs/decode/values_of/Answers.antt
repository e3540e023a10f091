use Rattle.lgm_hex.proofs.Decoded.{values_are}
use Rattle.lgm_hex.proofs.decode.values_of.Goals as goal

pub returns : goal.returns
returns c = rw (c.fits-digits.0) at (values_are c.args.digits c.fits-digits.0 c.fits-digits.1)
