use Rattle.lgm_hex.proofs.Decoded.{block_decoded}
use Rattle.lgm_hex.proofs.decode.decode_block.Goals as goal

pub returns-clause-bytes : goal.returns-clause-bytes
returns-clause-bytes c =
    block_decoded c.args.digits.now c.args.out.now c.joined.result c.values_of-values.result c.args.at
    c.requires.room c.requires.twice c.joined.ensures.len c.values_of-values.ensures
    c.joined.ensures.lanes
