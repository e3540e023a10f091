use Rattle.std.proofs.Common.{◌∙◌, ap, length, take, arith}
use Rattle.std.proofs.lemmas.Slice.{between_to_end}
use Rattle.lgm_gossip.proofs.places.borrowed_array.Goals as goal

pub returns : goal.returns
returns c = c.in-Some.ensures.cases.same ∙ ap (take 64) (between_to_end c.args.bytes.now c.args.at (length c.args.bytes.now) (omega arith))
