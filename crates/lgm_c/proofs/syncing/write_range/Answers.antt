use Rattle.lgm_c.specs.Syncing.{range_query}
use Rattle.lgm_c.proofs.syncing.write_range.Goals as goal

pub returns : goal.returns
unfolding range_query
returns c = c.write_encoded.ensures (range_query c.args.first_block c.args.blocks c.args.chain.now) c.ask_range-encoded.ensures
