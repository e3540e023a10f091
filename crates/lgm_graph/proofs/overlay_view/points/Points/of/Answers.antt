use Rattle.std.proofs.Common.{arith, ◌∙◌}
use Rattle.lgm_graph.proofs.Further.{joined_next}
use Rattle.lgm_graph.proofs.overlay_view.points.Points.of.Goals as goal

pub loop-edge-preserved : goal.loop-edge-preserved
loop-edge-preserved c =
    let first = c.in_ok-add.ensures in
    let second = c.in_ok-add-2.ensures in
    let was = c.loop-edge.invariant in
    record {
      few = omega (arith, was.few, first.few, second.few);
      further = second.further c.args.view.now.points (first.further c.args.view.now.points was.further);
      joined = joined_next c.loop-edge.points c.add-in-loop-edge.new.self c.args.extra.now c.loop-edge.edge-index c.edge-item.result
          c.loop-edge-test.true c.edge-item.is
          (λ p there. let one = first.kept p there in let two = second.kept p one.1 in (two.0 ∙ one.0, two.1))
          (second.kept c.edge-item.result.from first.numbered).1 second.numbered was.joined;
    }
