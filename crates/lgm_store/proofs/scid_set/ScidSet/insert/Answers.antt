use Rattle.std.proofs.Common.{[], ap, sym, ◌∙◌}
use Rattle.lgm_store.specs.inner.ChannelsByNode.{with_id}
use Rattle.lgm_store.specs.inner.ScidSet.{collected, ids_in}
use Rattle.lgm_store.proofs.ScidSetLaws.{collected-push}
use Rattle.lgm_store.proofs.scid_set.ScidSet.insert.Goals as goal

pub returns-in_ok-push-in-Many-clause-ok : goal.returns-in_ok-push-in-Many-clause-ok
returns-in_ok-push-in-Many-clause-ok c =
    ap (collected []) c.in_ok-push-in-Many.ensures.items ∙ collected-push [] c.in-Many.scids.items c.args.scid
    ∙ ap (λ place. with_id (ids_in place) c.args.scid) (sym c.in-Many.is) ∙ ap (λ l. with_id l c.args.scid) c.self.view_is
