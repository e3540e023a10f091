use Rattle.std.proofs.Common.{◌<◌, ◌≤◌, ◌+◌, ◌∙◌, add-one, arith, length, sym, ap}
use Rattle.std.specs.Prelude.{min}
use Rattle.lgm_graph.proofs.Counted.{counted_more, counted_all}
use Rattle.lgm_graph.proofs.view.View.edge_count.Goals as goal

pub loop-number-preserved : goal.loop-number-preserved
loop-number-preserved c =
    let lt : c.loop-number.number < length c.args.self.now.points = omega (arith, c.nodes-nodes.ensures.count) in
    let inv = c.loop-number.invariant in
    let whole =
    counted_more c.args.self.now c.nodes-nodes.ensures.listed c.loop-number.number inv.0
    c.edges_into.result.now lt c.edges_into.ensures inv.1 in
    (inv.0 + length c.edges_into.result.now, rw add-one whole, omega (arith, c.saturating_add-count.ensures, inv.2))

pub returns : goal.returns
returns c =
    let le : length c.args.self.now.points ≤ c.loop-number.number = omega (arith, c.nodes-nodes.ensures.count) in
    let inv = c.loop-number.invariant in
    let all = counted_all c.args.self.now c.nodes-nodes.ensures.listed c.loop-number.number inv.0 le inv.1 in
    inv.2 ∙ ap (λ n. min n 18446744073709551615) (sym all)
