use Rattle.lgm_gossip.proofs.MessageLaws.{message_takes, message_again, once, spelled, faultless}
use Rattle.lgm_gossip.proofs.decoder.one_message.Goals as goal

pub returns : goal.returns
returns c = record {
  once = once;
  spelled = spelled;
  faultless = faultless;
  read = λ m b fits e. message_takes b m fits e;
  again = λ m b wire. message_again b m wire;
}
