use Rattle.lgm_world.proofs.Runs.{are_appended, are_answered, were_published, are_published, are_entered, never_shrink, stay_in_order}
use Rattle.lgm_world.proofs.laws.eyes_answer_on_published_maps.Goals as goal

pub returns : goal.returns
returns c = record {
  appended = are_appended;
  answered = are_answered;
  were_published = were_published;
  published = are_published;
  entered = are_entered;
  never_shrink = never_shrink;
  in_order = stay_in_order;
}
