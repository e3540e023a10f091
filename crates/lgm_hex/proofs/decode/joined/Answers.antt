use Rattle.lgm_hex.proofs.Decoded.{joined_are}
use Rattle.lgm_hex.proofs.decode.joined.Goals as goal

pub returns-clause-lanes : goal.returns-clause-lanes
returns-clause-lanes c = joined_are c.args.values c.fits-values.0 c.fits-values.1
