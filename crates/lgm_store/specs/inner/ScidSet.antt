-- Sets of channel ids.
use Rattle.std.specs.Prelude.{ℕ, Bool, not, ◌==◌, List, [], ◌∷◌}
use Rattle.lgm_store.specs.declared.scid_set.OneOrMany.{OneOrMany}
use Rattle.lgm_store.specs.declared.scid_set.OneOrMany.TheVariants.{One, Many}
use Rattle.lgm_store.specs.inner.ChannelsByNode.{with_id}

-- a set with more ids
abbrev pub collected : List ℕ → List ℕ → List ℕ
collected set [] = set
collected set (id ∷ ids) = collected (with_id set id) ids

-- the ids, wherever they are stored
abbrev pub ids_in : OneOrMany → List ℕ
ids_in (One id) = id ∷ []
ids_in (Many ids) = collected [] ids.items

-- whether it is another id
abbrev pub is_other : ℕ → ℕ → Bool
is_other id own = not (own == id)
