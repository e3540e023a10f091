use Rattle.std.proofs.Common.{rules}
use Rattle.std.proofs.lemmas.Fn.{filter_same}
use Rattle.lgm_store.specs.inner.ScidSet.{is_other}
use Rattle.lgm_store.proofs.scid_set.discard.Goals as goal

pub returns : goal.returns
returns c =
    filter_same _ (is_other c.args.scid) _ (λ x b f' k. search rules) c.args.scids.now.items c.retain.new.self.items
    c.retain.ensures.filtered
