use Rattle.lgm_payload.proofs.ArrivalLaws.{types_rise, carried, built_for_spelled}
use Rattle.lgm_payload.proofs.builder.built_for_is_read.Goals as goal

pub returns : goal.returns
returns c = record {
  rise = types_rise;
  carried = carried;
  spelled = built_for_spelled;
}
