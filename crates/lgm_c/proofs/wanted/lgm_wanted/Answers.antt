use Rattle.lgm_c.proofs.Mended.{none_mends}
use Rattle.lgm_c.proofs.wanted.lgm_wanted.Goals as goal

pub returns-in-Some-clause-mended : goal.returns-in-Some-clause-mended
returns-in-Some-clause-mended c = none_mends c.args.message.now c.args.signer.now c.args.map.now.value
