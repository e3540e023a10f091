-- The filter that an answer sets.
use Rattle.std.specs.Prelude.{List, Ok}
use Rattle.lgm_answers.specs.declared.answer.Answer.{Answer}
use Rattle.lgm_answers.specs.declared.answer.Answer.TheVariants as answers
use Rattle.lgm_answers.specs.declared.filters.PeerFilter.{PeerFilter}
use Rattle.lgm_answers.specs.Filters.{filters_with}

-- the filters after an answer, which may be a filter
abbrev pub filters_by : List PeerFilter → Answer → List PeerFilter
filters_by filters (answers.Filter own) = filters_with filters own.peer (Ok own.filter)
filters_by filters _ = filters
