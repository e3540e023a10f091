use Rattle.lgm_payload.proofs.PayloadLaws.{once, spelled, faultless}
use Rattle.lgm_payload.proofs.reader.one_payload.Goals as goal

pub returns : goal.returns
returns c = record {
  once = once;
  spelled = spelled;
  faultless = faultless;
}
