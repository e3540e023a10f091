use Rattle.std.proofs.Common.{◌≡◌, ◌∙◌, List, take, subst, rules}
use Rattle.std.specs.Prelude.{IfOk}
use Rattle.lgm_gossip.specs.Spelling.{spelling}
use Rattle.lgm_sync.specs.Asking.{ids_asked}
use Rattle.lgm_sync.specs.declared.lacking.Lacking.{Lacking}
use Rattle.lgm_c.specs.Syncing.{all_given, ids_query}
use Rattle.lgm_c.proofs.syncing.write_ids.Goals as goal

pub returns : goal.returns
unfolding ids_query
returns c =
    let made : c.in_ok-given.given.items ≡ all_given c.args.lacking.now = search rules in
    let given : c.deref.result.now ≡ all_given c.args.lacking.now = c.deref.ensures.value ∙ made in
    c.write_encoded.ensures (ids_query c.args.lacking.now c.args.chain.now)
    (subst (λ (them : List Lacking). IfOk c.ask_ids-encoded.result (λ bytes. bytes ≡ spelling (ids_asked c.args.chain.now (take 7000 them))))
    given c.ask_ids-encoded.ensures)
