use Rattle.std.proofs.Common.{◌≡◌, map, take}
use Rattle.lgm_sync.specs.declared.lacking.Lacking.{Lacking}
use Rattle.lgm_sync.proofs.asking.parts.Given as goal

abbrev pub invariant-loop-it : goal.invariant-loop-it
invariant-loop-it l = record {
  ids : l.ids.items ≡ map (λ (it : Lacking). it.scid) (take l.it-index l.lacking);
  flags : l.flags.items ≡ map (λ (it : Lacking). it.flags) (take l.it-index l.lacking);
}
