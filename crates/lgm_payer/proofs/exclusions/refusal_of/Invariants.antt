use Rattle.std.proofs.Common.{◌≡◌, take}
use Rattle.lgm_payer.specs.Searches.{refusal_of}
use Rattle.lgm_payer.proofs.exclusions.refusal_of.Given as goal

-- the first refusal of the first parts
abbrev pub invariant-loop-part : goal.invariant-loop-part
invariant-loop-part l = l.refusal ≡ refusal_of (take l.part-index l.parts)
