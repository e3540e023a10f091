use Rattle.std.proofs.Common.{◌≡◌, ◌∙◌, ◌+◌, sym, ap, arith, take, get_or}
use Rattle.std.specs.Prelude.{sum_by}
use Rattle.std.proofs.lemmas.List.Sums.{sum_by_more}
use Rattle.lgm_graph.specs.Estimates.{estimate_of}
use Rattle.lgm_odds.specs.RouteOdds.{hop_odds}
use Rattle.lgm_odds.proofs.odds.sum_of_odds.Goals as goal

pub loop-hop-preserved : goal.loop-hop-preserved
loop-hop-preserved c =
    let of = hop_odds c.args.map.now c.args.extra.now c.args.limits.now (estimate_of c.args.estimates.now) in
    let hops = c.args.hops.now in
    let at = c.loop-hop.hop-index in
    let hop = c.hop-item.result in
    let more : sum_by of (take (at + 1) hops) ≡ sum_by of (take at hops) + of (get_or hops at hop) =
    sum_by_more of hops at hop c.loop-hop-test.true in
    let own : of (get_or hops at hop) ≡ c.hop_odds-sum.result = ap of (sym c.hop-item.is) ∙ sym c.hop_odds-sum.ensures.exact in
    let before = c.loop-hop.invariant.0 in
    let low = c.hop_odds-sum.ensures.low in
    let few = c.loop-hop.invariant.1 in
    (omega (arith, more, own, before), omega (arith, low, few))
