use Rattle.std.proofs.Common.{ℕ, ◌∷◌, ap, sym, ◌∙◌}
use Rattle.lgm_save.proofs.RecordLaws.{no_update}
use Rattle.lgm_save.proofs.reader.next_record.Goals as goal

pub returns-in-3-clause-none : goal.returns-in-3-clause-none
returns-in-3-clause-none c none record' rest is e =
    no_update c.in_ok-kind.rest.now (c.update_in.ensures.none none) record' rest is
    (sym (c.in_ok-kind.ensures.cases.0 ∙ ap (λ (k : ℕ). k ∷ c.in_ok-kind.rest.now) c.in-3.is) ∙ e)
