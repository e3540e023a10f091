use Rattle.std.proofs.Common.{◌≡◌, take}
use Rattle.lgm_payload.proofs.BuildingLaws.{forwarded}
use Rattle.lgm_payload.proofs.builder.write_all.Given as goal

abbrev pub invariant-loop-next : goal.invariant-loop-next
invariant-loop-next l = l.payloads.items ≡ forwarded (take l.next-index l.next-items)
