use Rattle.std.proofs.Common.{◌≡◌, ◌++◌, drop}
use Rattle.lgm_sync.specs.Lacking.{lacking_in, lacking_of}
use Rattle.lgm_sync.proofs.lacking.lacking_of.Given as goal

-- what is lacking so far, and of the ids to come
abbrev pub invariant-loop-scid : goal.invariant-loop-scid
invariant-loop-scid l = l.found.items ++ lacking_in l.fn.map l.after (drop l.scid-index l.scid-items) l.times ≡ lacking_of l.fn.map l.fn.reply
