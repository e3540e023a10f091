-- Outcomes of items: each is judged on those that were accepted before it.
use Rattle.std.specs.Prelude.{List, [], ◌∷◌, ◌++◌, Result, Ok, Err}
use Rattle.std.specs.List.{filter_map}
use Rattle.std.specs.Result.{result_ok}
use Rattle.lgm_wire.specs.reading.Reading.{◌>>=◌}
use Rattle.lgm_wire.specs.declared.chain_hash.ChainHash.{ChainHash}
use Rattle.lgm_check.specs.declared.refusal.Refusal.{Refusal}
use Rattle.lgm_check.specs.Precheck.{checked_of}
use Rattle.lgm_store.specs.declared.op.Op.{Op}
use Rattle.lgm_store.specs.Rows.{Rows}
use Rattle.lgm_store.specs.Admission.{admitted, admitted_close}
use Rattle.lgm_store.specs.History.{fold}
use Rattle.lgm_script.specs.declared.grammar.item.Item.{Item}
use Rattle.lgm_script.specs.declared.grammar.item.Item.TheVariants.{Gossip, Close}

-- the operation of an item that a map of these rows accepts, or the refusal
unfoldable pub outcome_of : ChainHash → Rows → Item → Result Op Refusal
outcome_of chain rows (Gossip bytes evidence) =
    checked_of chain bytes evidence >>= λ checked. admitted rows checked
outcome_of chain rows (Close id) = admitted_close rows id

-- a history with the operation of one more item, if it is accepted
abbrev pub with_outcome : List Op → Result Op Refusal → List Op
with_outcome history (Ok op) = history ++ op ∷ []
with_outcome history (Err refusal) = history

-- the outcomes of items, each on the rows after the history and the accepted items before it
abbrev pub outcomes_behind : ChainHash → List Op → List Item → List (Result Op Refusal)
outcomes_behind chain history [] = []
outcomes_behind chain history (item ∷ items) =
    outcome_of chain (fold history) item
    ∷ outcomes_behind chain (with_outcome history (outcome_of chain (fold history) item)) items

-- the outcomes of items that are offered to an empty map, in order
abbrev pub outcomes : ChainHash → List Item → List (Result Op Refusal)
outcomes chain items = outcomes_behind chain [] items

-- the accepted history: the operations of the items that are accepted
abbrev pub history_of : ChainHash → List Item → List Op
history_of chain items = filter_map result_ok (outcomes chain items)
