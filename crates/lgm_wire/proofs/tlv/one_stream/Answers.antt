use Rattle.lgm_wire.proofs.TlvLaws.{stream_takes, whole_read, is_only}
use Rattle.lgm_wire.proofs.tlv.one_stream.Goals as goal

pub returns : goal.returns
returns c = record {
  read = stream_takes;
  spelled = whole_read;
  once = is_only;
}
