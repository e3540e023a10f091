use Rattle.std.proofs.Common.{take}
use Rattle.lgm_wire.specs.TlvView.{records_of}
use Rattle.lgm_payload.proofs.Records.{AreTold}
use Rattle.lgm_payload.proofs.reader.told.Given as goal

abbrev pub invariant-loop-tlv : goal.invariant-loop-tlv
invariant-loop-tlv l = AreTold (records_of (take l.tlv-index l.records)) l.known
