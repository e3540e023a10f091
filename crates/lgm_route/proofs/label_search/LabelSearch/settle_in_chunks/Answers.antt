use Rattle.std.proofs.Common.{ℕ, get_or, IfOk, Result, Vec, Global, sym, subst, arith}
use Rattle.std.specs.declared.alloc.AllocError.{AllocError}
use Rattle.std.proofs.lemmas.Slice.Zip.{AllZip-long}
use Rattle.lgm_par.proofs.PlacewiseLaws.{zip_at}
use Rattle.lgm_route.specs.declared.label.Label.{Label}
use Rattle.lgm_route.specs.inner.SearchState.{AreRelaxationsAt}
use Rattle.lgm_route.proofs.Searches.{extends-refl, leads_at_later}
use Rattle.lgm_route.proofs.label_search.LabelSearch.settle_in_chunks.Goals as goal

pub loop-k-init : goal.loop-k-init
loop-k-init g c = extends-refl c.args.self.now

pub index-requires : goal.index-requires
index-requires g c =
    let R = λ (i : ℕ) (relaxations : Result (Vec Label Global) AllocError). IfOk relaxations (λ relaxations. AreRelaxationsAt c.args.self.now i relaxations.items) in
    omega (arith, AllZip-long R c.args.frontier.now c.in_ok-all.all.items c.in_ok-all.ensures, c.in_ok-all.all.ok.0, c.loop-k-test.true)

pub merge-requires-clause-relaxations : goal.merge-requires-clause-relaxations
merge-requires-clause-relaxations g c =
    let first = c.args.self.now in
    let k = c.loop-k.k in
    let i : ℕ = get_or c.args.frontier.now k 0 in
    let R = λ (i : ℕ) (relaxations : Result (Vec Label Global) AllocError). IfOk relaxations (λ relaxations. AreRelaxationsAt first i relaxations.items) in
    let at =
    subst (R i) (sym c.index.ensures) (zip_at R c.args.frontier.now c.in_ok-all.all.items k 0
    c.index.result.now c.in_ok-all.ensures c.loop-k-test.true) in
    let found : AreRelaxationsAt first i c.in-Ok.relaxations.items = subst (R i) c.in-Ok.is at in
    subst (AreRelaxationsAt c.loop-k.self i) (sym c.deref.ensures.value)
    (leads_at_later first c.loop-k.self i c.in-Ok.relaxations.items c.loop-k.invariant (c.requires k 0 c.loop-k-test.true) found)
