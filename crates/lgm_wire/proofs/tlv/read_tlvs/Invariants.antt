use Rattle.std.proofs.Common.{length}
use Rattle.lgm_wire.specs.TlvView.{records_of}
use Rattle.lgm_wire.proofs.TlvLaws.{IsRead}
use Rattle.lgm_wire.proofs.tlv.read_tlvs.Given as goal

abbrev pub invariant-loop-rest : goal.invariant-loop-rest
invariant-loop-rest l = IsRead l.bytes (records_of l.items.items) l.rest l.last

abbrev pub decreases-loop-rest : goal.decreases-loop-rest
decreases-loop-rest l = length l.rest
