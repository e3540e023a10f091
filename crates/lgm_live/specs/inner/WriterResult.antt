-- The result of the writer.
use Rattle.std.specs.Prelude.{◌≡◌, ◌≤◌, List, length, map, All}
use Rattle.std.specs.Result.{result_err}
use Rattle.lgm_wire.specs.declared.chain_hash.ChainHash.{ChainHash}
use Rattle.lgm_script.specs.declared.grammar.item.Item.{Item}
use Rattle.lgm_store.specs.declared.op.Op.{Op}
use Rattle.lgm_answers.specs.Outcomes.{outcomes, history_of}
use Rattle.lgm_live.specs.Batches.{items_of, ends_of}
use Rattle.lgm_live.specs.declared.writer.WriterResult.{WriterResult}

-- each item has its outcome, and these are the operations of those that were accepted
pub record IsWritten (chain : ChainHash) (items : List Item) (written : WriterResult) : Type 0 where
  pub outcomes : written.outcomes.items ≡ map result_err (outcomes chain items)
  pub ops : written.ops.items ≡ history_of chain items

-- the items of all batches were offered, and what was accepted was published, batch by batch
pub record ArePublished (chain : ChainHash) (batches : List (List Item)) (published : List Op)
    (written : WriterResult) : Type 0 where
  pub items : IsWritten chain (items_of batches) written
  pub ends : written.ends.items ≡ ends_of chain batches
  pub within : All (λ end. end ≤ length written.ops.items) written.ends.items
  pub shown : published ≡ written.ops.items
