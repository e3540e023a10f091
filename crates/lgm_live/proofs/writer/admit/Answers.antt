use Rattle.std.proofs.Common.{◌≡◌, ℕ, List, Result, Ok, ap, sym, ◌∙◌}
use Rattle.lgm_wire.specs.reading.Reading.{Gives}
use Rattle.lgm_wire.specs.declared.chain_hash.ChainHash.{ChainHash}
use Rattle.lgm_check.specs.declared.evidence.Evidence.{Evidence}
use Rattle.lgm_check.specs.declared.row.Checked.{Checked}
use Rattle.lgm_check.specs.declared.refusal.Refusal.{Refusal}
use Rattle.lgm_check.specs.declared.refusal.Refusal.TheVariants.{NoMemory}
use Rattle.lgm_check.specs.Precheck.{checked_of}
use Rattle.lgm_store.specs.declared.op.Op.{Op}
use Rattle.lgm_store.specs.Rows.{Rows}
use Rattle.lgm_store.specs.Admission.{admitted, Offers}
use Rattle.lgm_store.proofs.Verdicts.{offers_gives}
use Rattle.lgm_script.specs.declared.grammar.item.Item.{Item}
use Rattle.lgm_script.specs.declared.grammar.item.Item.TheVariants.{Gossip}
use Rattle.lgm_answers.specs.Outcomes.{outcome_of}
use Rattle.lgm_live.proofs.writer.admit.Goals as goal

-- a checked message has the outcome of its admission
offers_outcome : (chain : ChainHash) (rows : Rows) (item : Item) (bytes : List ℕ) (evidence : Evidence)
    (checked : Checked) (answer : Result Op Refusal)
    → item ≡ Gossip bytes evidence → checked_of chain bytes evidence ≡ Ok checked → Offers answer (admitted rows checked)
    → Gives NoMemory (λ op. op) answer (outcome_of chain rows item)
unfolding outcome_of
offers_outcome chain rows item bytes evidence checked answer is made offers = rw (is, made) (offers_gives answer (admitted rows checked) offers)

pub returns-in_ok-message-in-Gossip-clause-outcome : goal.returns-in_ok-message-in-Gossip-clause-outcome
returns-in_ok-message-in-Gossip-clause-outcome c =
    let evidence = c.in-Gossip.evidence in
    let is = c.in-Gossip.is ∙ ap (λ bytes. Gossip bytes evidence) (sym c.as_slice.ensures) in
    offers_outcome c.args.chain.now c.args.map.now c.args.item.now _ _ _ _ is c.in_ok-message-in-Gossip.ensures c.offer_checked.ensures.admission
