use Rattle.std.proofs.Common.{ap, sym, ◌∙◌}
use Rattle.lgm_store.specs.inner.ChannelsByNode.{with_id}
use Rattle.lgm_store.proofs.ScidSetLaws.{collected-more}
use Rattle.lgm_store.proofs.scid_set.sorted.Goals as goal

pub loop-scid-preserved : goal.loop-scid-preserved
loop-scid-preserved c =
    c.in_ok-insert.ensures.keys ∙ ap (λ l. with_id l c.scid-item.result) c.loop-scid.invariant
    ∙ sym (collected-more c.args.scids.now c.loop-scid.scid-index c.scid-item.result c.loop-scid-test.true c.scid-item.is)
