-- What is written of one more item, and of one more batch.
use Rattle.std.proofs.Common.{◌≡◌, ℕ, ◌+◌, ◌<◌, List, [], ◌∷◌, ◌++◌, length, map, take, get_or}
use Rattle.std.proofs.Common.{Some, None, Result, Ok, Err, sym, ap, ◌∙◌, append_assoc}
use Rattle.std.specs.List.{filter_map, cons_option}
use Rattle.std.specs.Result.{result_ok, result_err}
use Rattle.std.proofs.lemmas.List.{append-nil, map-append, take_more}
use Rattle.std.proofs.lemmas.List.Elements.{filter_map-append}
use Rattle.std.proofs.lemmas.List.Concat.{flat_map-append}
use Rattle.lgm_wire.specs.declared.chain_hash.ChainHash.{ChainHash}
use Rattle.lgm_check.specs.declared.refusal.Refusal.{Refusal}
use Rattle.lgm_store.specs.declared.op.Op.{Op}
use Rattle.lgm_store.specs.Rows.{Rows, empty}
use Rattle.lgm_store.specs.History.{fold, absorbed}
use Rattle.lgm_store.proofs.Histories.{fold_from-push}
use Rattle.lgm_script.specs.declared.grammar.item.Item.{Item}
use Rattle.lgm_answers.specs.Outcomes.{outcome_of, with_outcome, outcomes_behind, outcomes, history_of}
use Rattle.lgm_answers.proofs.Outcomes.{outcome_joins}
use Rattle.lgm_live.specs.declared.writer.WriterResult.{WriterResult}
use Rattle.lgm_live.specs.Batches.{items_of, ends_behind, ends_of}
use Rattle.lgm_live.specs.inner.WriterResult.{IsWritten}

outcomes_behind-push : (chain : ChainHash) (history : List Op) (items : List Item) (item : Item)
    → outcomes_behind chain history (items ++ item ∷ []) ≡ outcomes_behind chain history items ++ outcome_of
    chain (fold (history ++ filter_map result_ok (outcomes_behind chain history items))) item ∷ []
outcomes_behind-push chain history [] item = ap (λ (h : List Op). outcome_of chain (fold h) item ∷ []) (sym (append-nil history))
outcomes_behind-push chain history (i ∷ items) item =
    let first = outcome_of chain (fold history) i in
    let next = with_outcome history first in
    ap (λ os. first ∷ os) (outcomes_behind-push chain next items item)
    ∙ ap (λ (h : List Op). first ∷ (outcomes_behind chain next items ++ outcome_of chain (fold h) item ∷ []))
    (sym (outcome_joins history first (filter_map result_ok (outcomes_behind chain next items))))

-- the outcome of one more item comes after the others
outcomes-push : (chain : ChainHash) (items : List Item) (item : Item) (written : WriterResult)
    (outcome : Result Op Refusal) → IsWritten chain items written
    → outcome_of chain (fold written.ops.items) item ≡ outcome
    → outcomes chain (items ++ item ∷ []) ≡ outcomes chain items ++ outcome ∷ []
outcomes-push chain items item written outcome w is =
    outcomes_behind-push chain [] items item ∙ ap (λ o. outcomes chain items ++ o ∷ []) (ap (λ rows. outcome_of chain rows item) (ap fold (sym w.ops)) ∙ is)

history-push : (chain : ChainHash) (items : List Item) (item : Item) (written : WriterResult)
    (outcome : Result Op Refusal) → IsWritten chain items written
    → outcome_of chain (fold written.ops.items) item ≡ outcome
    → history_of chain (items ++ item ∷ []) ≡ history_of chain items ++ cons_option (result_ok outcome) []
history-push chain items item written outcome w is =
    ap (filter_map result_ok) (outcomes-push chain items item written outcome w is)
    ∙ filter_map-append result_ok (outcomes chain items) (outcome ∷ [])

refusals-push : (chain : ChainHash) (items : List Item) (item : Item) (written : WriterResult)
    (outcome : Result Op Refusal) → IsWritten chain items written
    → outcome_of chain (fold written.ops.items) item ≡ outcome
    → written.outcomes.items ++ result_err outcome ∷ [] ≡ map result_err (outcomes chain (items ++ item ∷ []))
refusals-push chain items item written outcome w is =
    ap (λ os. os ++ result_err outcome ∷ []) w.outcomes ∙ sym (map-append result_err (outcomes chain items) (outcome ∷ []))
    ∙ ap (map result_err) (sym (outcomes-push chain items item written outcome w is))

-- the map with one more operation is that of these operations
pub fold_push : (rows next : Rows) (old new : List Op) (op : Op) → next ≡ absorbed rows op → rows ≡ fold old → new ≡ old ++ op ∷ [] → next ≡ fold new
fold_push rows next old new op becomes is more =
    becomes ∙ ap (λ (rows : Rows). absorbed rows op) is ∙ sym (fold_from-push empty old op) ∙ ap fold (sym more)

-- an item that is accepted
pub accepted_written : (chain : ChainHash) (items : List Item) (item : Item) (old new : WriterResult) (op : Op)
    → outcome_of chain (fold old.ops.items) item ≡ Ok op → new.outcomes.items ≡ old.outcomes.items ++ None ∷ [] → new.ops.items ≡ old.ops.items ++ op ∷ []
    → IsWritten chain items old → IsWritten chain (items ++ item ∷ []) new
accepted_written chain items item old new op is outcomes_are ops_are w =
    let history = history-push chain items item old (Ok op) w is in
    record {
      outcomes = outcomes_are ∙ refusals-push chain items item old (Ok op) w is;
      ops = ops_are ∙ ap (λ ops. ops ++ op ∷ []) w.ops ∙ sym history;
    }

-- an item that is refused
pub refused_written : (chain : ChainHash) (items : List Item) (item : Item) (old new : WriterResult)
    (refusal : Refusal) → outcome_of chain (fold old.ops.items) item ≡ Err refusal
    → new.outcomes.items ≡ old.outcomes.items ++ Some refusal ∷ [] → new.ops.items ≡ old.ops.items
    → IsWritten chain items old → IsWritten chain (items ++ item ∷ []) new
refused_written chain items item old new refusal is outcomes_are ops_are w =
    let history = history-push chain items item old (Err refusal) w is ∙ append-nil (history_of chain items) in
    record {
      outcomes = outcomes_are ∙ refusals-push chain items item old (Err refusal) w is;
      ops = ops_are ∙ w.ops ∙ sym history;
    }

ends_behind-push : (chain : ChainHash) (before : List Item) (batches : List (List Item)) (batch : List Item)
    → ends_behind chain before (batches ++ batch ∷ []) ≡ ends_behind chain before batches
    ++ length (history_of chain (before ++ items_of (batches ++ batch ∷ []))) ∷ []
ends_behind-push chain before [] batch = ap (λ (items : List Item). length (history_of chain (before ++ items)) ∷ []) (sym (append-nil batch))
ends_behind-push chain before (first ∷ batches) batch =
    ap (λ ends. length (history_of chain (before ++ first)) ∷ ends) (ends_behind-push chain (before ++ first) batches batch)
    ∙ ap (λ (items : List Item). length (history_of chain (before ++ first))
    ∷ (ends_behind chain (before ++ first) batches ++ length (history_of chain items) ∷ []))
    (append_assoc before first (items_of (batches ++ batch ∷ [])))

-- the items with one more batch
pub items_more : (batches : List (List Item)) (i : ℕ) (batch : List Item) → i < length batches → batch ≡ get_or batches i batch
    → items_of (take (i + 1) batches) ≡ items_of (take i batches) ++ batch
items_more batches i batch below is =
    ap items_of (take_more batches i batch below) ∙ flat_map-append (λ (b : List Item). b) (take i batches) (get_or batches i batch ∷ [])
    ∙ ap (λ (b : List Item). items_of (take i batches) ++ b) (append-nil (get_or batches i batch) ∙ sym is)

-- the ends with one more batch
pub ends_more : (chain : ChainHash) (batches : List (List Item)) (i : ℕ) (batch : List Item) → i < length batches → batch ≡ get_or batches i batch
    → ends_of chain (take (i + 1) batches) ≡ ends_of chain (take i batches) ++ length (history_of chain (items_of (take (i + 1) batches))) ∷ []
ends_more chain batches i batch below is =
    let more = take_more batches i batch below in
    ap (ends_of chain) more ∙ ends_behind-push chain [] (take i batches) (get_or batches i batch)
    ∙ ap (λ (bs : List (List Item)). ends_of chain (take i batches) ++ length (history_of chain (items_of bs)) ∷ []) (sym more)
