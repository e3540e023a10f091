use Rattle.std.proofs.Common.{◌≡◌, None, Some, subst}
use Rattle.lgm_store.specs.Rows.{Rows}
use Rattle.lgm_c.specs.Attempts.{unsearched}
use Rattle.lgm_c.proofs.Searches.{gives_refusal, short_of_memory}
use Rattle.lgm_c.proofs.chain_map.ChainMap.route.Goals as goal

pub returns-in_err-make_view-in-Changing-clause-route :
    goal.returns-in_err-make_view-in-Changing-clause-route
returns-in_err-make_view-in-Changing-clause-route c =
    let state = c.args.self.now in
    let searched : unsearched c.args.attempt.now state.rows ≡ None =
    subst (λ (rows : Rows). unsearched c.args.attempt.now rows ≡ None) c.map.ensures c.in_ok-is_searched.ensures.searched in
    short_of_memory c.args.attempt.now state.known state.rows searched
    c.from_residual-in_err-make_view-in-Changing.result c.from_residual-in_err-make_view-in-Changing.ensures.1

pub returns-in_err-is_searched-clause-route : goal.returns-in_err-is_searched-clause-route
returns-in_err-is_searched-clause-route c =
    let state = c.args.self.now in
    let fault = c.in_err-is_searched.field-0.0 in
    gives_refusal c.args.attempt.now state.known state.rows fault
    (subst (λ (rows : Rows). unsearched c.args.attempt.now rows ≡ Some fault) c.map.ensures c.in_err-is_searched.ensures.refused)
    c.from_residual.result c.from_residual.ensures.1
