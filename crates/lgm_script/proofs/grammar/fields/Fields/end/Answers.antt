use Rattle.std.proofs.Common.{◌∙◌}
use Rattle.lgm_script.proofs.FieldsLaws.{some_field}
use Rattle.lgm_script.proofs.grammar.fields.Fields.end.Goals as goal

pub returns-in-Some : goal.returns-in-Some
returns-in-Some c =
    let all = rw c.in-Some.is at c.self.view_is in
    (λ e. absurd cc, λ none. absurd (some_field c.self.inside.separator c.in-Some.field-0.now (all ∙ none)))
