-- Where batches end.
use Rattle.std.specs.Prelude.{ℕ, List, [], ◌∷◌, ◌++◌, length, flat_map}
use Rattle.lgm_wire.specs.declared.chain_hash.ChainHash.{ChainHash}
use Rattle.lgm_script.specs.declared.grammar.item.Item.{Item}
use Rattle.lgm_answers.specs.Outcomes.{history_of}

-- the items of all batches, in order
abbrev pub items_of : List (List Item) → List Item
items_of batches = flat_map (λ (batch : List Item). batch) batches

-- the length of the history after each batch, after items that came before
abbrev pub ends_behind : ChainHash → List Item → List (List Item) → List ℕ
ends_behind chain before [] = []
ends_behind chain before (batch ∷ batches) =
    length (history_of chain (before ++ batch)) ∷ ends_behind chain (before ++ batch) batches

-- the length of the history after each batch
abbrev pub ends_of : ChainHash → List (List Item) → List ℕ
ends_of chain batches = ends_behind chain [] batches
