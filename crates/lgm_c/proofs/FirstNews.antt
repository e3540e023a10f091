-- News where there was nothing before.
use Rattle.std.proofs.Common.{◌≡◌, ℕ, List, [], ◌∷◌, filter, refl, sym, ap}
use Rattle.std.specs.Prelude.{not}
use Rattle.lgm_store.specs.Rows.{Rows, empty}
use Rattle.lgm_query.specs.declared.filter.Filter.{Filter}
use Rattle.lgm_query.specs.Backlog.{is_among, backlog, news}
use Rattle.lgm_c.specs.Writing.{all_framed}

-- of no messages none is known
all_news : (messages : List (List ℕ)) → filter (λ message. not (is_among [] message)) messages ≡ messages
all_news [] = refl
all_news (message ∷ messages) = ap (λ others. message ∷ others) (all_news messages)

-- where nothing passed before, all that passes is news
pub first_news : (rows : Rows) (f : Filter) → all_framed (backlog rows f) ≡ all_framed (news empty rows f)
first_news rows f = ap all_framed (sym (all_news (backlog rows f)))
