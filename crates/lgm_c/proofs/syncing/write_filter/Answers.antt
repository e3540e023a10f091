use Rattle.lgm_c.specs.Syncing.{filter_message}
use Rattle.lgm_c.proofs.syncing.write_filter.Goals as goal

pub returns : goal.returns
unfolding filter_message
returns c = c.write_encoded.ensures (filter_message c.args.first c.args.seconds c.args.chain.now) c.ask_filter-encoded.ensures
