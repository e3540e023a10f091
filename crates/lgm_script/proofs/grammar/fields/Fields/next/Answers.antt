use Rattle.std.proofs.Common.{sym, ◌∙◌}
use Rattle.std.proofs.lemmas.List.{take_rest}
use Rattle.lgm_script.proofs.FieldsLaws.{one_field, first_field}
use Rattle.lgm_script.proofs.grammar.fields.Fields.next.Goals as goal

pub returns-in_default-clause-some : goal.returns-in_default-clause-some
returns-in_default-clause-some c =
    let all = rw c.in_ok-text.was at c.self.view_is in
    sym all ∙ one_field c.self.inside.separator c.in_ok-text.text.now c.in_default.ensures

pub returns-clause-some : goal.returns-clause-some
returns-clause-some c =
    let all = rw c.in_ok-text.was at c.self.view_is in
    rw take_rest (sym all ∙ first_field c.self.inside.separator c.in_ok-text.text.now c.in-Some.end c.in-Some.ensures)
