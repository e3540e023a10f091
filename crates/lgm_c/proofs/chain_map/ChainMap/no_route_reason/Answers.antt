use Rattle.std.proofs.Common.{◌≡◌, ◌∙◌, None, subst, rules}
use Rattle.lgm_store.specs.Rows.{Rows}
use Rattle.lgm_c.specs.Attempts.{unsearched}
use Rattle.lgm_c.proofs.ReasonTold.{explains}
use Rattle.lgm_c.proofs.chain_map.ChainMap.no_route_reason.Goals.{in-Changing+else-is_err, in-Published}
use Rattle.lgm_c.proofs.chain_map.ChainMap.no_route_reason.Goals as goal

pub returns-clause-reason : goal.returns-clause-reason
returns-clause-reason c =
    let state = c.args.self.now in
    let attempt = c.args.attempt.now in
    let searched : unsearched attempt state.rows ≡ None =
    subst (λ (rows : Rows). unsearched attempt rows ≡ None) c.map.ensures c.in_default.ensures.searched in
    elim c.match-self.branch [
      | in-Changing+else-is_err w ↦
          let known : w.network.result.now.known ≡ state.known = search rules in
          let rows : w.network.result.now.rows ≡ state.rows = search rules in
          explains attempt state.known state.rows w.network.result.now.known w.network.result.now.rows w.reason.result
          c.match-self.result searched known rows w.reason.ensures (w.result-is ∙ w.reason_number.ensures)
      | in-Published w ↦
          let known : w.network-in-Published.result.now.known ≡ state.known = search rules in
          let rows : w.network-in-Published.result.now.rows ≡ state.rows = search rules in
          explains attempt state.known state.rows w.network-in-Published.result.now.known w.network-in-Published.result.now.rows
          w.reason-in-Published.result c.match-self.result searched known rows w.reason-in-Published.ensures
          (w.result-is ∙ w.reason_number-in-Published.ensures)
    ]
