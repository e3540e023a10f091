use Rattle.lgm_save.proofs.ChangeLaws.{changed_not_saved, cut_not_saved, chain_not_saved}
use Rattle.lgm_save.proofs.laws.damage_is_refused.Goals as goal

pub returns : goal.returns
returns c = record {
  changed = λ chain records bytes lawful changed. changed_not_saved chain records bytes changed;
  cut = cut_not_saved;
  chain = chain_not_saved;
}
