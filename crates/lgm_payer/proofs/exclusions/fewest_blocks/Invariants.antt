use Rattle.std.proofs.Common.{◌≡◌, ◌≤◌, take}
use Rattle.std.specs.Prelude.{fold}
use Rattle.lgm_payer.specs.Searches.{or_fewer}
use Rattle.lgm_payer.proofs.exclusions.fewest_blocks.Given as goal

-- what the first parts leave
abbrev pub invariant-loop-part : goal.invariant-loop-part
invariant-loop-part l = (l.fewest ≡ fold or_fewer l.most (take l.part-index l.parts)) × (l.fewest ≤ l.most)
