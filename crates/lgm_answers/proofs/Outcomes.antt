-- Histories of accepted items.
use Rattle.std.proofs.Common.{◌≡◌, List, [], ◌∷◌, ◌++◌, Result, Ok, Err, refl, sym, append_assoc}
use Rattle.std.specs.List.{cons_option}
use Rattle.std.specs.Result.{result_ok}
use Rattle.lgm_check.specs.declared.refusal.Refusal.{Refusal}
use Rattle.lgm_store.specs.declared.op.Op.{Op}
use Rattle.lgm_answers.specs.Outcomes.{with_outcome}

-- the operation of an item stands between those before it and the others
pub outcome_joins : (history : List Op) (outcome : Result Op Refusal) (others : List Op)
    → history ++ cons_option (result_ok outcome) others ≡ with_outcome history outcome ++ others
outcome_joins history (Ok op) others = sym (append_assoc history (op ∷ []) others)
outcome_joins history (Err refusal) others = refl
