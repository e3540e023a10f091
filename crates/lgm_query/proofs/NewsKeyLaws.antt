-- News are at the keys that operations touch.
use Rattle.std.proofs.Common.{◌≡◌, ◌⊎◌, inl, inr, ℕ, Bool, true, false, cond, List, [], ◌∷◌, ◌++◌, Option, Some, None, refl, sym, ap, ◌∙◌}
use Rattle.std.specs.Prelude.{◌==◌}
use Rattle.std.specs.List.{AllByRecursion, flat_map}
use Rattle.std.specs.Option.{option_map_or}
use Rattle.std.proofs.lemmas.Bool.{eqb-true, or_right}
use Rattle.std.proofs.lemmas.Cmp.{nat_list_eq_equiv}
use Rattle.lgm_wire.specs.declared.point.Point.{Point}
use Rattle.lgm_check.specs.declared.row.ChannelRow.{ChannelRow}
use Rattle.lgm_store.specs.declared.op.Op.{Op}
use Rattle.lgm_store.specs.Rows.{Rows, IsAscending, channel_of}
use Rattle.lgm_store.specs.History.{fold_from}
use Rattle.lgm_store.specs.Spelled.{AreSpelled}
use Rattle.lgm_query.specs.declared.filter.Filter.{Filter}
use Rattle.lgm_query.specs.Backlog.{is_among, news}
use Rattle.lgm_query.specs.KeyNews.{passing_of_channel, passing_of_node, not_among, news_of_channel, news_of_node}
use Rattle.lgm_query.specs.Touched.{Touched, HasTouched}
use Rattle.lgm_query.specs.ComesOf.{ComesOf}
use Rattle.lgm_query.proofs.KeyNews.{passing_at, LieAt, news_at_keys}
use Rattle.lgm_query.proofs.Subjects.{spelled_tell}
use Rattle.lgm_query.proofs.Untouched.{SameChannel, NoChannel, SameNode, channel_untouched, node_untouched}
use Rattle.lgm_query.proofs.KeyNewsLaws.{All-given}

all_known : (known messages : List (List ℕ)) → AllByRecursion (λ m. is_among known m ≡ true) messages → not_among known messages ≡ []
all_known known [] all = refl
all_known known (m ∷ ms) all = rw (all.0, all_known known ms all.1) refl

each_known : (messages : List (List ℕ)) → AllByRecursion (λ m. is_among messages m ≡ true) messages
each_known [] = tt
each_known (m ∷ ms) = (rw (nat_list_eq_equiv.refl m) refl, All-given _ _ _ ms (λ x is other. rw is (or_right _ true refl)) (each_known ms) (each_known ms))

-- nothing is new compared with itself
nothing_new : (messages : List (List ℕ)) → not_among messages messages ≡ []
nothing_new messages = all_known messages messages (each_known messages)

-- the row that is found at an id has it
found_id : (id : ℕ) (rows : List ChannelRow) (row : ChannelRow) → channel_of rows id ≡ Some row → row.message.short_channel_id ≡ id
found_id id [] row is = absurd cc
found_id id (r ∷ rs) row is = by (found_id id rs row) (r.message.short_channel_id == id) refl is
  where
    by : (channel_of rs id ≡ Some row → row.message.short_channel_id ≡ id) → (b : Bool)
        → (r.message.short_channel_id == id) ≡ b → cond (r.message.short_channel_id
        == id) (Some r) (channel_of rs id) ≡ Some row → row.message.short_channel_id ≡ id
    by others true test is =
        let same : Some r ≡ Some row = rw test at is in
        let own : r ≡ row = cc in
        ap (λ (x : ChannelRow). x.message.short_channel_id) (sym own)
        ∙ eqb-true r.message.short_channel_id id test
    by others false test is = others (rw test at is)

passing_same : (f : Filter) (id : ℕ) (before after : Rows) → SameChannel id before after
    → passing_of_channel f after id ≡ passing_of_channel f before id
passing_same f id before after same = ap (λ o. option_map_or (passing_at f after) o []) same.0 ∙ by (channel_of before.channels id) refl
  where
    updates : (row : ChannelRow) → row.message.short_channel_id ≡ id → passing_at f after row ≡ passing_at f before row
    updates row own = rw (own, same.1 false, same.1 true) refl

    by : (o : Option ChannelRow) → channel_of before.channels id ≡ o
        → option_map_or (passing_at f after) o [] ≡ option_map_or (passing_at f before) o []
    by None is = refl
    by (Some row) is = updates row (found_id id before.channels row is)

no_channel_news : (f : Filter) (id : ℕ) (before after : Rows)
    → SameChannel id before after ⊎ NoChannel id after → news_of_channel f before after id ≡ []
no_channel_news f id before after (inl same) = rw (passing_same f id before after same) (nothing_new (passing_of_channel f before id))
no_channel_news f id before after (inr none) = rw none refl

no_node_news : (f : Filter) (node : Point) (before after : Rows) → SameNode node before after → news_of_node f before after node ≡ []
no_node_news f node before after (inl same) = rw same (nothing_new (passing_of_node f before node))
no_node_news f node before after (inr none) = rw none refl

-- news are at the keys that operations touch
pub lie_at : (f : Filter) (before after : Rows) (history : List Op) (touched : Touched) → IsAscending before
    → after ≡ fold_from before history → HasTouched history touched
    → LieAt f before after touched.channels touched.nodes
lie_at f before after history touched ascend is has = rw is (record {
  channels_ascend = has.channels_ascend;
  nodes_ascend = has.nodes_ascend;
  of_channels =
      λ id none. no_channel_news f id before (fold_from before history)
      (channel_untouched id before history ascend (sym (has.of_channels id) ∙ none));
  of_nodes = λ node none. no_node_news f node before (fold_from before history) (node_untouched node before history (sym (has.of_nodes node) ∙ none));
})

-- the news of a map that was made from an earlier one
pub news_of_touched : (f : Filter) (before after : Rows) (touched : Touched) → IsAscending before → IsAscending after
    → AreSpelled before → AreSpelled after → ComesOf before after touched
    → news before after f ≡ flat_map (news_of_channel f before after) touched.channels ++ flat_map (news_of_node f before after) touched.nodes
news_of_touched f before after touched before_ascends after_ascends before_spelled after_spelled comes =
    news_at_keys f before after touched.channels touched.nodes before_ascends after_ascends
    (spelled_tell before before_spelled) (spelled_tell after after_spelled)
    (lie_at f before after comes.history touched before_ascends comes.folds comes.touches)
