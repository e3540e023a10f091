use Rattle.std.proofs.Common.{length, ap, sym, ◌∙◌}
use Rattle.std.specs.Prelude.{◌==◌}
use Rattle.lgm_store.specs.inner.ScidSet.{ids_in}
use Rattle.lgm_store.proofs.ScidSetLaws.{is_empty-collected}
use Rattle.lgm_store.proofs.scid_set.ScidSet.is_empty.Goals as goal

pub returns-in-Many : goal.returns-in-Many
returns-in-Many c =
    c.is_empty.ensures ∙ ap (λ l. length l == 0) c.as_slice.ensures.value ∙ sym (is_empty-collected c.in-Many.scids.items)
    ∙ ap (λ place. length (ids_in place) == 0) (sym c.in-Many.is) ∙ ap (λ l. length l == 0) c.self.view_is
