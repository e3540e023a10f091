use Rattle.std.proofs.Common.{◌<◌, length, length-append, ap, arith, rules}
use Rattle.lgm_graph.proofs.TouchedNodeLaws.{more_again, reached_next}
use Rattle.lgm_graph.proofs.overlay_view.touched_nodes.TouchedNodes.touch_targets.Goals as goal

pub loop-k-preserved : goal.loop-k-preserved
loop-k-preserved c =
    let start = c.args.self.now in
    let before = c.loop-k.self in
    let more = c.loop-k.invariant.more in
    let first : c.loop-k.k < length start.nodes = search rules in
    let within : c.loop-k.k < length before.nodes = omega (arith, first, ap length more.nodes, length-append start.nodes more.more) in
    record {
      more = more_again start before c.touch_targets_of.new.self more c.in_ok-touch_targets_of.ensures.more;
      reached = reached_next c.args.view.now before c.touch_targets_of.new.self c.loop-k.k c.in_ok-touch_targets_of.ensures.more within
          c.loop-k.invariant.reached c.in_ok-touch_targets_of.ensures.reached;
    }
