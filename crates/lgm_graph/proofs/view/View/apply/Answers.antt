use Rattle.std.proofs.Common.{◌∙◌, sym, ap, subst, arith, length}
use Rattle.std.proofs.lemmas.Result.{err_from_is_err_and}
use Rattle.lgm_graph.specs.Graph.{Graph}
use Rattle.lgm_graph.specs.inner.Sound.{IsSound}
use Rattle.lgm_graph.proofs.view.Opened.{opened}
use Rattle.lgm_graph.proofs.view.View.apply.Goals as goal

pub invariant_of-self : goal.invariant_of-self
invariant_of-self c =
    let parts = opened c.deref_mut-parts.ensures.value c.self.invariant c.self.view_is in
    subst IsSound (sym (c.in_err-apply.ensures.graph c.deref_mut-parts.result.now.known)) parts.sound

pub returns-in_err-apply-clause-few : goal.returns-in_err-apply-clause-few
returns-in_err-apply-clause-few c =
    let parts = opened c.deref_mut-parts.ensures.value c.self.invariant c.self.view_is in
    let same = c.in_err-apply.ensures.graph c.deref_mut-parts.result.now.known ∙ parts.seen in
    omega (arith, ap (λ (graph : Graph). length graph.points) same)

pub returns-in_err-apply-clause-stays : goal.returns-in_err-apply-clause-stays
returns-in_err-apply-clause-stays c =
    let parts = opened c.deref_mut-parts.ensures.value c.self.invariant c.self.view_is in
    let p = err_from_is_err_and c.from_residual.result c.from_residual.ensures.1 in
    rw p.1 (c.in_err-apply.ensures.graph c.deref_mut-parts.result.now.known ∙ parts.seen)
