-- The news of channels and of nodes, key by key.
use Rattle.std.proofs.Common.{◌≡◌, ℕ, Bool, true, false, not, cond, List, [], ◌∷◌, ◌++◌, Option, Some, None, refl, sym, ap, ◌∙◌, arith}
use Rattle.std.specs.Prelude.{nat_eq, map}
use Rattle.std.specs.Cmp.Lexicographic.{pointwise}
use Rattle.std.specs.List.{AllByRecursion, find, flat_map, list_any}
use Rattle.std.specs.List.Sorted.{IsStrictlySortedBy}
use Rattle.std.specs.Option.{option_map_or, option_to_list}
use Rattle.std.specs.declared.cmp.Ordering.{Ordering}
use Rattle.std.specs.declared.cmp.Ordering.TheVariants.{Less, Equal, Greater}
use Rattle.std.specs.Ordering.{is_eq, nat_cmp, ordering_reverse}
use Rattle.std.proofs.lemmas.Bool.Decides.{nat_tests}
use Rattle.std.proofs.lemmas.Bool.{eqb-true, and_parts}
use Rattle.std.proofs.lemmas.Map.Lookups.{exact_unsigned}
use Rattle.std.proofs.Math.Bool.{or-false}
use Rattle.std.proofs.lemmas.Cmp.{nat_cmp_total}
use Rattle.std.proofs.lemmas.List.Elements.{filter-append}
use Rattle.std.proofs.lemmas.List.Folds.{flat_map-map, list_any-append}
use Rattle.lgm_wire.specs.declared.point.Point.{Point}
use Rattle.lgm_check.specs.declared.row.ChannelRow.{ChannelRow}
use Rattle.lgm_check.specs.declared.row.UpdateRow.{UpdateRow}
use Rattle.lgm_check.specs.declared.row.NodeRow.{NodeRow}
use Rattle.lgm_store.specs.Rows.{Rows, IsAscending, update_of}
use Rattle.lgm_store.specs.ChannelInfo.{stored_at}
use Rattle.lgm_store.specs.Keys.{point_cmp, point_of, id_of}
use Rattle.lgm_store.proofs.ListLaws.{All-append, All-each, filter-alike, find-same}
use Rattle.lgm_store.proofs.Points.{is_at-point}
use Rattle.lgm_store.specs.inner.SameKeys.{same_node}
use Rattle.lgm_store.proofs.Lists.{node_total}
use Rattle.lgm_query.specs.declared.filter.Filter.{Filter}
use Rattle.lgm_query.specs.Backlog.{passes, passing_update, behind_announcement, passing_channel, passing_node, backlog, is_among, news}
use Rattle.lgm_query.specs.KeyNews.{passing_of_channel, passing_of_node, not_among, news_of_channel, news_of_node}
use Rattle.lgm_query.proofs.Subjects.{Subject, of_channel, of_node, subject_of, TellKeys}
use Rattle.lgm_query.proofs.Ids.{id_test, id_level}
use Rattle.lgm_query.proofs.KeyNewsLaws.{other_subject, filter-flat_map, flat_map-alike, among_its_row, along_keys, All-given}
use Rattle.std.specs.BTreeMap.{is_at}

-- nothing is new of channels and nodes that aren't among these, which ascend
pub record LieAt (f : Filter) (before after : Rows) (ids : List ℕ) (nodes : List Point) : Type 0 where
  pub channels_ascend : IsStrictlySortedBy nat_cmp ids
  pub nodes_ascend : IsStrictlySortedBy point_cmp nodes
  pub of_channels : (id : ℕ) → list_any (is_at (nat_cmp id)) ids ≡ false → news_of_channel f before after id ≡ []
  pub of_nodes : (node : Point) → list_any (is_at (point_cmp node)) nodes ≡ false → news_of_node f before after node ≡ []

channel_apart : (a b : ℕ) → of_channel a ≡ of_channel b → nat_cmp a b ≡ Equal
channel_apart a b e = let own : a ≡ b = cc in grind (arith, nat_tests)

node_equal : (a : Point) → point_cmp a a ≡ Equal
node_equal a = by (point_cmp a a) refl (node_total.antisymm a a)
  where
    by : (o : Ordering) → point_cmp a a ≡ o → point_cmp a a ≡ ordering_reverse (point_cmp a a) → point_cmp a a ≡ Equal
    by Less is flip = let never : Less ≡ Greater = rw is at flip in absurd cc
    by Equal is flip = is
    by Greater is flip = let never : Greater ≡ Less = rw is at flip in absurd cc

node_apart : (a b : Point) → of_node a ≡ of_node b → point_cmp a b ≡ Equal
node_apart a b e = let own : a ≡ b = cc in rw own (node_equal b)

-- ---- each message is about its row's key

abbrev About : Subject → List ℕ → Type 0
About subject message = subject_of message ≡ subject

-- what is found passes the test, and has what all have
found : {X : Type 0} (P : X → Type 0) (p : X → Bool) (xs : List X) (x : X) → AllByRecursion P xs → find p xs ≡ Some x → P x × (p x ≡ true)
found P p [] x all is = absurd cc
found P p (y ∷ ys) x all is = by (found P p ys x all.1) (p y) refl is
  where
    by : (find p ys ≡ Some x → P x × (p x ≡ true)) → (b : Bool) → p y ≡ b → cond (p y) (Some y) (find p ys) ≡ Some x → P x × (p x ≡ true)
    by others true holds is = let same : Some y ≡ Some x = rw holds at is in let own : y ≡ x = cc in (rw (← own) all.0, rw (← own) holds)
    by others false holds is = others (rw holds at is)

update_about : (rows : Rows) (id : ℕ) (second : Bool) (row : UpdateRow) → TellKeys rows
    → update_of rows.updates id second ≡ Some row → About (of_channel id) row.raw
update_about rows id second row tell is =
    let both = found (λ r. subject_of r.raw ≡ of_channel r.message.short_channel_id) _ rows.updates row tell.updates is in
    both.0 ∙ ap of_channel (eqb-true row.message.short_channel_id id (and_parts _ _ both.1).0)

passing_about : (f : Filter) (subject : Subject) (o : Option UpdateRow) → ((row : UpdateRow) → o ≡ Some row → About subject row.raw)
    → AllByRecursion (About subject) (option_to_list (passing_update f o))
passing_about f subject None about = tt
passing_about f subject (Some row) about = by (passes f row.message.timestamp)
  where
    by : (b : Bool) → AllByRecursion (About subject) (option_to_list (cond b (Some row.raw) None))
    by true = (about row refl, tt)
    by false = tt

-- what passes of a row's channel
abbrev pub passing_at : Filter → Rows → ChannelRow → List (List ℕ)
passing_at f rows row = passing_channel f (stored_at rows row)

backlog_rows : (f : Filter) (rows : Rows) → backlog rows f ≡ flat_map (passing_at f rows) rows.channels ++ flat_map (passing_node f) rows.nodes
backlog_rows f rows =
    ap (λ (messages : List (List ℕ)). messages ++ flat_map (passing_node f) rows.nodes)
    (flat_map-map (passing_channel f) (stored_at rows) rows.channels)

behind_about : (subject : Subject) (row : ChannelRow) (updates : List (List ℕ)) → About subject row.raw
    → AllByRecursion (About subject) updates
    → AllByRecursion (About subject) (behind_announcement row updates)
behind_about subject row [] own all = tt
behind_about subject row (u ∷ us) own all = (own, all)

channel_about : (f : Filter) (rows : Rows) (row : ChannelRow) → TellKeys rows → About (of_channel (id_of row))
    row.raw → AllByRecursion (About (of_channel (id_of row))) (passing_at f rows row)
channel_about f rows row tell own =
    behind_about _ row _ own
    (All-append _ _ _ (passing_about f _ (update_of rows.updates (id_of row) false) (λ u is. update_about rows (id_of row) false u tell is))
    (passing_about f _ (update_of rows.updates (id_of row) true) (λ u is. update_about rows (id_of row) true u tell is)))

channels_about : (f : Filter) (rows : Rows) → TellKeys rows → (channels : List ChannelRow)
    → AllByRecursion (λ row. subject_of row.raw ≡ of_channel (id_of row)) channels
    → AllByRecursion (λ row. AllByRecursion (About (of_channel (id_of row))) (passing_at f rows row)) channels
channels_about f rows tell [] own = tt
channels_about f rows tell (row ∷ channels) own = (channel_about f rows row tell own.0, channels_about f rows tell channels own.1)

node_about : (f : Filter) (row : NodeRow) → About (of_node (point_of row)) row.raw
    → AllByRecursion (About (of_node (point_of row))) (passing_node f row)
node_about f row own = by (passes f row.message.timestamp)
  where
    by : (b : Bool) → AllByRecursion (About (of_node (point_of row))) (cond b (row.raw ∷ []) [])
    by true = (own, tt)
    by false = tt

nodes_about : (f : Filter) (nodes : List NodeRow) → AllByRecursion (λ row. subject_of row.raw ≡ of_node (point_of row)) nodes
    → AllByRecursion (λ row. AllByRecursion (About (of_node (point_of row))) (passing_node f row)) nodes
nodes_about f [] own = tt
nodes_about f (row ∷ nodes) own = (node_about f row own.0, nodes_about f nodes own.1)

-- ---- of the earlier backlog, a message can only be among those of its key

-- no message of these rows is about that
none_about : {R : Type 0} (h : R → List (List ℕ)) (about : R → Subject) (message : List ℕ) (rows : List R)
    → ((row : R) → subject_of message ≡ about row → ⊥)
    → AllByRecursion (λ row. AllByRecursion (About (about row)) (h row)) rows → is_among (flat_map h rows) message ≡ false
none_about h about message [] other all = refl
none_about h about message (row ∷ rows) other all =
    list_any-append (pointwise nat_eq message) (h row) (flat_map h rows)
    ∙ rw (other_subject message (h row) (about row) all.0 (other row), none_about h about message rows other all.1) refl

pub among_channel : (f : Filter) (rows : Rows) (message : List ℕ) (id : ℕ) → IsAscending rows → TellKeys rows → subject_of message ≡ of_channel id
    → is_among (backlog rows f) message ≡ is_among (passing_of_channel f rows id) message
among_channel f rows message id ascend tell is =
    ap (λ (messages : List (List ℕ)). is_among messages message) (backlog_rows f rows)
    ∙ list_any-append (pointwise nat_eq message) (flat_map (passing_at f rows) rows.channels) (flat_map (passing_node f) rows.nodes)
    ∙ rw (none_about (passing_node f) (λ row. of_node (point_of row)) message rows.nodes
    (λ row e. let never : of_channel id ≡ of_node (point_of row) = sym is ∙ e in absurd cc)
    (nodes_about f rows.nodes tell.nodes))
    (or-false _)
    ∙ among_its_row id_of nat_cmp nat_cmp_total of_channel channel_apart (passing_at f rows) message id
    rows.channels is ascend.channels (channels_about f rows tell rows.channels tell.channels)
    ∙ ap (λ o. is_among (option_map_or (passing_at f rows) o []) message) (find-same _ _ (λ row. id_test (id_of row) id) rows.channels)

pub among_node : (f : Filter) (rows : Rows) (message : List ℕ) (node : Point) → IsAscending rows → TellKeys rows → subject_of message ≡ of_node node
    → is_among (backlog rows f) message ≡ is_among (passing_of_node f rows node) message
among_node f rows message node ascend tell is =
    ap (λ (messages : List (List ℕ)). is_among messages message) (backlog_rows f rows)
    ∙ list_any-append (pointwise nat_eq message) (flat_map (passing_at f rows) rows.channels) (flat_map (passing_node f) rows.nodes)
    ∙ rw (none_about (passing_at f rows) (λ row. of_channel (id_of row)) message rows.channels
    (λ row e. let never : of_node node ≡ of_channel (id_of row) = sym is ∙ e in absurd cc)
    (channels_about f rows tell rows.channels tell.channels))
    (among_its_row point_of point_cmp node_total of_node node_apart (passing_node f) message node rows.nodes
    is ascend.nodes (nodes_about f rows.nodes tell.nodes))
    ∙ ap (λ o. is_among (option_map_or (passing_node f) o []) message) (find-same _ _ (λ row. is_at-point (point_of row) node) rows.nodes)

-- ---- the news

-- each row is found at its key
own_rows : {R K : Type 0} (key : R → K) (c : K → K → Ordering) → ((k : K) → c k k ≡ Equal) → (rows : List R)
    → IsStrictlySortedBy (λ a b. c (key a) (key b)) rows
    → AllByRecursion (λ row. find (λ other. is_eq (c (key other) (key row))) rows ≡ Some row) rows
unfolding IsStrictlySortedBy
own_rows key c level [] sorted = tt
own_rows key c level (row ∷ rows) sorted =
    (rw (level (key row)) refl, All-given _ _ _ rows (λ other less is. rw less is) sorted.0 (own_rows key c level rows sorted.1))

same_as_given : (known given : List (List ℕ)) (messages : List (List ℕ))
    → AllByRecursion (λ m. is_among known m ≡ is_among given m) messages
    → not_among known messages ≡ not_among given messages
same_as_given known given messages same = filter-alike _ _ messages (All-given _ _ _ messages (λ m is other. ap not is) same same)

-- the news of a row are those of its key
told : {R K : Type 0} (key : R → K) (c : K → K → Ordering) (about : K → Subject) (h : R → List (List ℕ))
    (g : K → List (List ℕ)) (earlier : List (List ℕ)) (given : K → List (List ℕ)) (rows : List R)
    → ((m : List ℕ) (k : K) → subject_of m ≡ about k → is_among earlier m ≡ is_among (given k) m)
    → ((row : R) → find (λ other. is_eq (c (key other) (key row))) rows ≡ Some row → not_among (given (key row)) (h row) ≡ g (key row))
    → (some : List R) → AllByRecursion (λ row. find (λ other. is_eq (c (key other) (key row))) rows ≡ Some row) some
    → AllByRecursion (λ row. AllByRecursion (About (about (key row))) (h row)) some
    → AllByRecursion (λ row. not_among earlier (h row) ≡ g (key row)) some
told key c about h g earlier given rows among at some own tell =
    All-given _ _ _ some
    (λ row is own_about. same_as_given earlier (given (key row)) (h row)
    (All-given _ _ _ (h row) (λ m one other. among m (key row) one) own_about own_about) ∙ at row is)
    own tell

channel_rows : (f : Filter) (before after : Rows) → IsAscending before → IsAscending after → TellKeys before → TellKeys after
    → not_among (backlog before f) (flat_map (passing_at f after) after.channels)
    ≡ flat_map (λ row. news_of_channel f before after (id_of row)) after.channels
channel_rows f before after before_ascends after_ascends before_tells after_tells =
    filter-flat_map _ (passing_at f after) after.channels
    ∙ flat_map-alike _ (λ row. news_of_channel f before after (id_of row)) after.channels
    (told id_of nat_cmp of_channel (passing_at f after) (news_of_channel f before after) (backlog before f)
    (passing_of_channel f before) after.channels
    (λ m id about. among_channel f before m id before_ascends before_tells about)
    (λ row is. ap (λ o. not_among (passing_of_channel f before (id_of row)) (option_map_or (passing_at f after) o []))
    (sym is ∙ find-same _ _ (λ other. id_test (id_of other) (id_of row)) after.channels))
    after.channels (own_rows id_of nat_cmp id_level after.channels after_ascends.channels)
    (channels_about f after after_tells after.channels after_tells.channels))

node_rows : (f : Filter) (before after : Rows) → IsAscending before → IsAscending after → TellKeys before → TellKeys after
    → not_among (backlog before f) (flat_map (passing_node f) after.nodes)
    ≡ flat_map (λ row. news_of_node f before after (point_of row)) after.nodes
node_rows f before after before_ascends after_ascends before_tells after_tells =
    filter-flat_map _ (passing_node f) after.nodes
    ∙ flat_map-alike _ (λ row. news_of_node f before after (point_of row)) after.nodes
    (told point_of point_cmp of_node (passing_node f) (news_of_node f before after) (backlog before f) (passing_of_node f before) after.nodes
    (λ m node about. among_node f before m node before_ascends before_tells about)
    (λ row is. ap (λ o. not_among (passing_of_node f before (point_of row)) (option_map_or (passing_node f) o []))
    (sym is ∙ find-same _ _ (λ other. is_at-point (point_of other) (point_of row)) after.nodes))
    after.nodes (own_rows point_of point_cmp node_equal after.nodes after_ascends.nodes) (nodes_about f after.nodes after_tells.nodes))

channel_news : (f : Filter) (before after : Rows) (ids : List ℕ) → IsAscending before → IsAscending after
    → TellKeys before → TellKeys after → IsStrictlySortedBy nat_cmp ids
    → ((id : ℕ) → list_any (is_at (nat_cmp id)) ids ≡ false → news_of_channel f before after id ≡ [])
    → not_among (backlog before f) (flat_map (passing_at f after) after.channels) ≡ flat_map (news_of_channel f before after) ids
channel_news f before after ids before_ascends after_ascends before_tells after_tells ascend lie =
    channel_rows f before after before_ascends after_ascends before_tells after_tells
    ∙ along_keys id_of nat_cmp nat_cmp_total exact_unsigned (news_of_channel f before after) after.channels ids after_ascends.channels ascend
    (All-each _ after.channels (λ row. lie (id_of row))) (All-each _ ids none)
  where
    none : (id : ℕ) → find (λ row. is_eq (nat_cmp (id_of row) id)) after.channels ≡ None → news_of_channel f before after id ≡ []
    none id is =
        ap (λ o. not_among (passing_of_channel f before id) (option_map_or (passing_at f after) o []))
        (sym (find-same _ _ (λ row. id_test (id_of row) id) after.channels) ∙ is)

node_news : (f : Filter) (before after : Rows) (nodes : List Point) → IsAscending before → IsAscending after
    → TellKeys before → TellKeys after → IsStrictlySortedBy point_cmp nodes
    → ((node : Point) → list_any (is_at (point_cmp node)) nodes ≡ false → news_of_node f before after node ≡ [])
    → not_among (backlog before f) (flat_map (passing_node f) after.nodes) ≡ flat_map (news_of_node f before after) nodes
node_news f before after nodes before_ascends after_ascends before_tells after_tells ascend lie =
    node_rows f before after before_ascends after_ascends before_tells after_tells
    ∙ along_keys point_of point_cmp node_total same_node (news_of_node f before after) after.nodes nodes after_ascends.nodes ascend
    (All-each _ after.nodes (λ row. lie (point_of row))) (All-each _ nodes none)
  where
    none : (node : Point) → find (λ row. is_eq (point_cmp (point_of row) node)) after.nodes ≡ None → news_of_node f before after node ≡ []
    none node is =
        ap (λ o. not_among (passing_of_node f before node) (option_map_or (passing_node f) o []))
        (sym (find-same _ _ (λ row. is_at-point (point_of row) node) after.nodes) ∙ is)

-- if bytes determine their keys, the news are those of the keys that have any
pub news_at_keys : (f : Filter) (before after : Rows) (ids : List ℕ) (nodes : List Point) → IsAscending before
    → IsAscending after → TellKeys before → TellKeys after
    → LieAt f before after ids nodes → news before after f
    ≡ flat_map (news_of_channel f before after) ids ++ flat_map (news_of_node f before after) nodes
news_at_keys f before after ids nodes before_ascends after_ascends before_tells after_tells lie =
    ap (not_among (backlog before f)) (backlog_rows f after)
    ∙ filter-append _ (flat_map (passing_at f after) after.channels) (flat_map (passing_node f) after.nodes)
    ∙ rw (
      channel_news f before after ids before_ascends after_ascends before_tells after_tells lie.channels_ascend lie.of_channels,
      node_news f before after nodes before_ascends after_ascends before_tells after_tells lie.nodes_ascend lie.of_nodes,
    ) refl

-- in any case they are those of the rows of the later map
pub news_at_rows : (f : Filter) (before after : Rows) → IsAscending before → IsAscending after → TellKeys before → TellKeys after
    → news before after f ≡ flat_map (news_of_channel f before after) (map id_of after.channels)
    ++ flat_map (news_of_node f before after) (map point_of after.nodes)
news_at_rows f before after before_ascends after_ascends before_tells after_tells =
    ap (not_among (backlog before f)) (backlog_rows f after)
    ∙ filter-append _ (flat_map (passing_at f after) after.channels) (flat_map (passing_node f) after.nodes)
    ∙ rw (
      channel_rows f before after before_ascends after_ascends before_tells after_tells,
      node_rows f before after before_ascends after_ascends before_tells after_tells,
      flat_map-map (news_of_channel f before after) id_of after.channels,
      flat_map-map (news_of_node f before after) point_of after.nodes,
    ) refl
