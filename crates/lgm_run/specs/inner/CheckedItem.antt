-- Items after their check, which needs no map, and before their turn, which does.
use Rattle.std.specs.Prelude.{◌≡◌, ◌⊎◌, Option, Some, Result, Ok, Err}
use Rattle.std.specs.Option.{option_map}
use Rattle.lgm_wire.specs.reading.Reading.{◌>>=◌}
use Rattle.lgm_wire.specs.declared.chain_hash.ChainHash.{ChainHash}
use Rattle.lgm_check.specs.declared.refusal.Refusal.{Refusal}
use Rattle.lgm_check.specs.declared.refusal.Refusal.TheVariants as refusals
use Rattle.lgm_check.specs.Precheck.{checked_of}
use Rattle.lgm_store.specs.declared.op.Op.{Op}
use Rattle.lgm_store.specs.Rows.{Rows}
use Rattle.lgm_store.specs.Admission.{admitted, admitted_close}
use Rattle.lgm_script.specs.declared.grammar.item.Item.{Item}
use Rattle.lgm_script.specs.declared.grammar.item.Item.TheVariants as items
use Rattle.lgm_script.specs.declared.grammar.line_form.LineKind.TheVariants as kinds
use Rattle.lgm_script.specs.declared.grammar.command.Command.{Command}
use Rattle.lgm_script.specs.Command.{item_in}
use Rattle.lgm_script.specs.Groups.{IsOfKind}
use Rattle.lgm_run.specs.declared.checked_item.CheckedItem.{CheckedItem}
use Rattle.lgm_run.specs.declared.checked_item.CheckedItem.TheVariants.{Message, Close}

-- an item after its check, or why it is refused
abbrev pub checked_item : ChainHash → Item → Result CheckedItem Refusal
checked_item chain (items.Gossip bytes evidence) =
    checked_of chain bytes evidence >>= λ checked. Ok (Message checked)
checked_item chain (items.Close id) = Ok (Close id)

-- this is the check of the item that a line offers, if it offers one, or memory ran out
abbrev pub IsCheckOf : ChainHash → Option Item → Option (Result CheckedItem Refusal) → Type 0
IsCheckOf chain item checked =
    (checked ≡ option_map (checked_item chain) item) ⊎ (checked ≡ Some (Err refusals.NoMemory))

-- a line that begins as an item requests this, and this is the check of its item
pub record IsItemOf (chain : ChainHash) (request : Command) (item : Option (Result CheckedItem Refusal)) : Type 0 where
  pub kind : IsOfKind kinds.Item request
  pub check : IsCheckOf chain (item_in request) item

-- the operation of a checked item that a map of these rows accepts, or the refusal
unfoldable pub admitted_item : Rows → CheckedItem → Result Op Refusal
admitted_item rows (Message checked) = admitted rows checked
admitted_item rows (Close id) = admitted_close rows id

-- the outcome of an item in its turn, on these rows
abbrev pub outcome_on : Rows → Result CheckedItem Refusal → Result Op Refusal
outcome_on rows checked = checked >>= admitted_item rows

-- the outcome without its operation
abbrev pub settled : Result Op Refusal → Result (Unit {0}) Refusal
settled (Ok op) = Ok tt
settled (Err refusal) = Err refusal
