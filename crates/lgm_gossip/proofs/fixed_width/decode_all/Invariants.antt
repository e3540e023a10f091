use Rattle.std.proofs.Common.{◌≡◌, map, take}
use Rattle.lgm_gossip.proofs.fixed_width.decode_all.Given as goal

abbrev pub invariant-loop-chunk : goal.invariant-loop-chunk
invariant-loop-chunk g l = l.values.items ≡ map g.T.FixedWidth.value_of (take l.chunk-index l.chunks)
