use Rattle.std.proofs.Common.{◌≡◌, ◌++◌, take}
use Rattle.lgm_payer.specs.Overlays.{all_silenced}
use Rattle.lgm_payer.proofs.overlays.silence_by_failures.Given as goal

-- what the first ones give was added
abbrev pub invariant-loop-part : goal.invariant-loop-part
invariant-loop-part l = l.silent.items ≡ l.initial.silent.items ++ all_silenced l.payer l.hints (take l.part-index l.parts)
