use Rattle.std.proofs.Common.{[], ap, sym, ◌∙◌}
use Rattle.lgm_store.specs.inner.ChannelsByNode.{without_id}
use Rattle.lgm_store.specs.inner.ScidSet.{collected, ids_in}
use Rattle.lgm_store.proofs.ScidSetLaws.{collected-others}
use Rattle.lgm_store.proofs.scid_set.ScidSet.remove.Goals as goal

pub returns-in-Many : goal.returns-in-Many
returns-in-Many c =
    ap (collected []) c.discard.ensures ∙ collected-others c.in-Many.scids.items c.args.scid
    ∙ ap (λ place. without_id (ids_in place) c.args.scid) (sym c.in-Many.is) ∙ ap (λ l. without_id l c.args.scid) c.self.view_is
