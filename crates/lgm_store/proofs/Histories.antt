-- Folds of histories.
use Rattle.std.proofs.Common.{◌≡◌, ℕ, ◌+◌, ◌<◌, List, [], ◌∷◌, ◌++◌, length, take, get_or, refl, sym, ap, ◌∙◌}
use Rattle.std.proofs.lemmas.Grind.{take_at_read}
use Rattle.lgm_store.specs.declared.op.Op.{Op}
use Rattle.lgm_store.specs.Rows.{Rows, empty}
use Rattle.lgm_store.specs.History.{absorbed, fold_from, fold}

pub fold_from-push : (rows : Rows) (ops : List Op) (op : Op) → fold_from rows (ops ++ op ∷ []) ≡ absorbed (fold_from rows ops) op
fold_from-push rows [] op = refl
fold_from-push rows (first ∷ ops) op = fold_from-push (absorbed rows first) ops op

-- one operation more
pub fold-more : (ops : List Op) (i : ℕ) (op : Op) → i < length ops → op ≡ get_or ops i op → fold (take (i + 1) ops) ≡ absorbed (fold (take i ops)) op
fold-more ops i op in_range is =
    ap fold ((take_at_read ops i op in_range).1) ∙ fold_from-push empty (take i ops) (get_or ops i op)
    ∙ ap (absorbed (fold (take i ops))) (sym is)
