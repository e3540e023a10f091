use Rattle.std.proofs.Common.{arith}
use Rattle.std.specs.Prelude.{Some}
use Rattle.lgm_route.proofs.Rests.{spent_small}
use Rattle.lgm_route.proofs.preferences.WeightsPenalties.add.Goals as goal

pub overflow_add-result : goal.overflow_add-result
overflow_add-result g c =
    omega (
      arith,
      spent_small (Some (record {
        failure = c.args.self.now.preferences.failure_msat;
        hop = c.args.self.now.preferences.hop_msat;
        points = (g.V.RoutingGraph.graph c.args.self.now.graph.now).points;
        known = c.args.self.now.estimates.now;
      })) c.args.spent c.requires,
      c.penalty.ensures.low,
    )
