use Rattle.std.proofs.Common.{◌≡◌, ◌++◌, take}
use Rattle.std.specs.List.{flat_map}
use Rattle.lgm_payer.specs.UnderWay.{hops_since}
use Rattle.lgm_payer.proofs.under_way.add_all_since.Given as goal

-- the hops of the first parts were added
abbrev pub invariant-loop-part : goal.invariant-loop-part
invariant-loop-part l = l.since.items ≡ l.initial.since.items ++ flat_map (hops_since l.number) (take l.part-index l.parts)
