use Rattle.std.proofs.Common.{◌≡◌, ◌++◌, take}
use Rattle.std.specs.List.{flat_map}
use Rattle.lgm_payer.specs.Parts.{held_hops}
use Rattle.lgm_payer.proofs.under_way.add_all_held.Given as goal

-- the hops of the first parts were added
abbrev pub invariant-loop-part : goal.invariant-loop-part
invariant-loop-part l = l.busy.items ≡ l.initial.busy.items ++ flat_map held_hops (take l.part-index l.parts)
