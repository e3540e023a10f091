use Rattle.std.proofs.Common.{◌≡◌, take}
use Rattle.lgm_graph.specs.Overlay.{most_of}
use Rattle.lgm_odds.proofs.edge_most.most_of.Given as goal

-- the least of it and the first limits
abbrev pub invariant-loop-limit : goal.invariant-loop-limit
invariant-loop-limit l = l.most ≡ most_of (take l.limit-index l.limits) l.scid l.from l.max
