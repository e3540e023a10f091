use Rattle.std.proofs.Common.{◌∙◌, ap, sym}
use Rattle.lgm_store.specs.History.{absorbed}
use Rattle.lgm_store.proofs.Histories.{fold-more}
use Rattle.lgm_store.proofs.map.Map.replay.Goals as goal

pub loop-op-preserved : goal.loop-op-preserved
loop-op-preserved c =
    c.in_ok-absorb.ensures.ok ∙ ap (λ rows. absorbed rows c.op-item.result) c.loop-op.invariant
    ∙ sym (fold-more c.args.history.now c.loop-op.op-index c.op-item.result c.loop-op-test.true c.op-item.is)
