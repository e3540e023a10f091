-- The kind of a line, by its first word.
use Rattle.lgm_script.specs.declared.grammar.line_form.LineKind.{LineKind}
use Rattle.lgm_script.specs.declared.grammar.line_form.LineKind.TheVariants.{Item, Question, Other}
use Rattle.lgm_script.specs.declared.grammar.line_form.Word.{Word}
use Rattle.lgm_script.specs.declared.grammar.line_form.Word.TheVariants as words

abbrev pub kind_by : Word → LineKind
kind_by words.Message = Item
kind_by words.Close = Item
kind_by words.Query = Question
kind_by words.Filter = Question
kind_by words.Route = Question
kind_by _ = Other
