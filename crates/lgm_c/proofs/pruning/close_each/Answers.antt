use Rattle.std.proofs.Common.{◌≡◌, ◌∙◌, ◌<◌, length, rules, sym, ap}
use Rattle.lgm_store.specs.declared.op.Op.TheVariants as ops
use Rattle.lgm_timeline.specs.History.{Moment, behind}
use Rattle.lgm_timeline.specs.Timeline.{newest}
use Rattle.lgm_c.proofs.Pruned.{closed_more}
use Rattle.lgm_c.proofs.pruning.close_each.Goals as goal

pub loop-place-preserved : goal.loop-place-preserved
loop-place-preserved c =
    let stale = c.args.stale.now in
    let place = c.loop-place.place in
    let one = c.index-stale-place.result in
    let within : place < length stale = search rules in
    let applied : newest c.absorb.new.self ≡ behind (newest c.loop-place.timeline) (ops.Close one.scid) = search rules in
    record {
      newest =
          applied ∙ ap (λ (now : Moment). behind now (ops.Close one.scid)) c.loop-place.invariant.newest
          ∙ sym (closed_more (newest c.args.timeline.now) stale place one within c.index-stale-place.is);
      marked = c.absorb.ensures.marked ∙ c.loop-place.invariant.marked;
    }
