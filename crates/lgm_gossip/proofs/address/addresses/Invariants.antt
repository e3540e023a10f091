use Rattle.std.proofs.Common.{length}
use Rattle.lgm_gossip.proofs.AddressLaws.{IsRead}
use Rattle.lgm_gossip.proofs.address.addresses.Given as goal

abbrev pub invariant-loop-address : goal.invariant-loop-address
invariant-loop-address l = IsRead l.items.items l.bytes l.rest

abbrev pub decreases-loop-address : goal.decreases-loop-address
decreases-loop-address l = length l.rest
