use Rattle.std.proofs.lemmas.List.{take_rest}
use Rattle.lgm_script.proofs.FieldsLaws.{one_field, last_field}
use Rattle.lgm_script.proofs.grammar.fields.cut_last.Goals as goal

pub returns-in_default-clause-none : goal.returns-in_default-clause-none
returns-in_default-clause-none c = one_field c.args.separator c.args.text.now c.in_default.ensures

pub returns-clause-some : goal.returns-clause-some
returns-clause-some c = rw take_rest (last_field c.args.separator c.args.text.now c.in-Some.end c.in-Some.ensures)
