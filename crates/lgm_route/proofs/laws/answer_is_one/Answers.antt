use Rattle.lgm_route.proofs.ChoiceLaws.{tried, answer-unique}
use Rattle.lgm_route.specs.Choice.{answer_of}
use Rattle.lgm_route.proofs.laws.answer_is_one.Goals as goal

pub returns : goal.returns
returns c = record {
  found = tried;
  one = λ edges request answer keyed is. answer-unique edges request answer (answer_of edges request) keyed is (tried edges request);
}
