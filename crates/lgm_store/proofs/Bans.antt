-- Bans: closing the channels of banned nodes, one after the other.
-- the rows with channels closed, in order
use Rattle.std.proofs.Common.{◌≡◌, ℕ, Bool, true, false, not, ◌&&◌, ◌||◌, cond, List, [], ◌∷◌, ◌++◌, ◌+◌}
use Rattle.std.proofs.Common.{◌<◌, length, take, get_or, map, Some, refl, sym, ap, subst, ◌∙◌, eqb, arith}
use Rattle.std.specs.Prelude.{is_some, if◌then◌else◌}
use Rattle.std.specs.List.{AllByRecursion, filter, list_any}
use Rattle.std.specs.List.Sorted.{IsStrictlySortedBy}
use Rattle.std.specs.declared.cmp.Ordering.{Ordering}
use Rattle.std.specs.declared.cmp.Ordering.TheVariants.{Less, Equal, Greater}
use Rattle.std.specs.Ordering.{is_lt, is_gt, nat_cmp}
use Rattle.std.proofs.lemmas.List.Folds.{list_any-append}
use Rattle.std.proofs.lemmas.Bool.Decides.{nat_tests}
use Rattle.std.proofs.lemmas.Grind.{take_at_read}
use Rattle.std.proofs.lemmas.Bool.{and_right, or_right}
use Rattle.lgm_wire.specs.declared.point.Point.{Point}
use Rattle.lgm_check.specs.declared.row.ChannelRow.{ChannelRow}
use Rattle.lgm_check.specs.declared.row.UpdateRow.{UpdateRow}
use Rattle.lgm_check.specs.declared.row.NodeRow.{NodeRow}
use Rattle.lgm_store.specs.Keys.{id_of}
use Rattle.lgm_store.specs.Rows.{Rows, put, by_point, by_id, is_point, channel_of, ends_at, ends_channel, is_banned, ends_banned}
use Rattle.lgm_store.specs.History.{without_channel, channels_without, updates_without, ended_nodes, without_stored}
use Rattle.lgm_store.specs.History.{banned_channels, banning, with_banned, with_ban}
use Rattle.lgm_store.specs.Reading.{ids_at}
use Rattle.lgm_store.specs.inner.Sound.{AreEnded, AreAllowed}
use Rattle.lgm_check.specs.declared.row.BanRow.{BanRow}
use Rattle.lgm_store.specs.Laws.{IsLawful, AreStored}
use Rattle.lgm_store.specs.Laws as Lawful
use Rattle.lgm_store.specs.declared.op.Op.TheVariants as ops
use Rattle.lgm_store.proofs.ListLaws.{All-filter, filter-filter, filter-same, filter-alike, filter-true}
use Rattle.lgm_store.specs.inner.SameKeys.{same_node}
use Rattle.lgm_store.proofs.Lawful.{AreStored-absorbed, AreEnded-absorbed}

abbrev pub closed_all : Rows → List ℕ → Rows
closed_all rows [] = rows
closed_all rows (id ∷ ids) = closed_all (without_channel rows id) ids

pub closed_all-push : (rows : Rows) (ids : List ℕ) (id : ℕ) → closed_all rows (ids ++ id ∷ []) ≡ without_channel (closed_all rows ids) id
closed_all-push rows [] id = refl
closed_all-push rows (first ∷ ids) id = closed_all-push (without_channel rows first) ids id

-- one more
pub closed_all-more : (rows : Rows) (ids : List ℕ) (i : ℕ) (id : ℕ) → i < length ids → id ≡ get_or ids i id
    → closed_all rows (take (i + 1) ids) ≡ without_channel (closed_all rows (take i ids)) id
closed_all-more rows ids i id in_range is =
    ap (closed_all rows) ((take_at_read ids i id in_range).1) ∙ closed_all-push rows (take i ids)
    (get_or ids i id) ∙ ap (without_channel (closed_all rows (take i ids))) (sym is)

-- ---- ids of channels

another : (a b : ChannelRow) → by_id a b ≡ Less → eqb (id_of b) (id_of a) ≡ false
another a b less = let is : nat_cmp (id_of a) (id_of b) ≡ Less = less in grind (arith, nat_tests)

other : (a b : ChannelRow) → by_id a b ≡ Less → eqb (id_of a) (id_of b) ≡ false
other a b less = let is : nat_cmp (id_of a) (id_of b) ≡ Less = less in grind (arith, nat_tests)

pub id_again : (id : ℕ) → eqb id id ≡ true
id_again id = grind (arith, nat_tests)

-- nodes that are removed at once, or in two steps
any-filter : (p q : ChannelRow → Bool) (rows : List ChannelRow) → list_any q (filter p rows) ≡ true → list_any q rows ≡ true
any-filter p q [] any = any
any-filter p q (x ∷ xs) any = by (any-filter p q xs) (p x) any
  where
    at : (b : Bool) → (list_any q (filter p xs) ≡ true → list_any q xs ≡ true) → (b || list_any q (filter p xs)) ≡ true → (b || list_any q xs) ≡ true
    at true others any = refl
    at false others any = others any

    by : (list_any q (filter p xs) ≡ true → list_any q xs ≡ true) → (b : Bool)
        → list_any q (cond b (x ∷ filter p xs) (filter p xs)) ≡ true → (q x || list_any q xs) ≡ true
    by others true any = at (q x) others any
    by others false any = or_right (q x) (list_any q xs) (others any)

nodes-step : (p : ChannelRow → Bool) (channels : List ChannelRow) (nodes : List NodeRow)
    → ended_nodes (filter p channels) (ended_nodes channels nodes) ≡ ended_nodes (filter p channels) nodes
nodes-step p channels nodes =
    filter-filter _ _ nodes
    ∙ filter-same _ _ (λ row. by row (ends_channel (filter p channels) row.message.node_id) refl) nodes
  where
    by : (row : NodeRow) (b : Bool) → ends_channel (filter p channels) row.message.node_id ≡ b
        → (ends_channel channels row.message.node_id && ends_channel (filter p channels) row.message.node_id)
        ≡ ends_channel (filter p channels) row.message.node_id
    by row true is = rw (is, any-filter p (ends_at row.message.node_id) channels is) refl
    by row false is = rw is (and_right (ends_channel channels row.message.node_id) false refl)

all_ended : (channels : List ChannelRow) (nodes : List NodeRow) → AreEnded channels nodes → ended_nodes channels nodes ≡ nodes
all_ended channels [] ended = refl
all_ended channels (x ∷ xs) ended = rw (ended.0, all_ended channels xs ended.1) refl

-- rows by their lists
rows_same : (a b : Rows) → a.channels ≡ b.channels → a.updates ≡ b.updates → a.nodes ≡ b.nodes → a.banned ≡ b.banned → a ≡ b
rows_same a b c u n p =
    let rows : List ChannelRow → List UpdateRow → List NodeRow → List Point → Rows =
    λ cs us ns ps. record { channels = cs; updates = us; nodes = ns; banned = ps } in
    ap (λ cs. rows cs a.updates a.nodes a.banned) c ∙ ap (λ us. rows b.channels us a.nodes a.banned) u
    ∙ ap (λ ns. rows b.channels b.updates ns a.banned) n ∙ ap (λ ps. rows b.channels b.updates b.nodes ps) p

-- ---- closing a channel twice is closing it once

-- whether an id is among some
abbrev pub has : List ℕ → ℕ → Bool
has ids id = list_any (λ other. eqb id other) ids

-- without the channels of the ids that pass
abbrev dropping : Rows → (ℕ → Bool) → Rows
dropping rows gone = record {
  channels = filter (λ row. not (gone (id_of row))) rows.channels;
  updates = filter (λ row. not (gone row.message.short_channel_id)) rows.updates;
  nodes = ended_nodes (filter (λ row. not (gone (id_of row))) rows.channels) rows.nodes;
  banned = rows.banned;
}

-- closing a channel that isn't there changes nothing
channels_stay : (rows : List ChannelRow) (id : ℕ) → is_some (channel_of rows id) ≡ false → channels_without rows id ≡ rows
channels_stay [] id none = refl
channels_stay (x ∷ xs) id none = by (channels_stay xs id) (eqb (id_of x) id) refl none
  where
    by : (is_some (channel_of xs id) ≡ false → channels_without xs id ≡ xs) → (b : Bool)
        → eqb (id_of x) id ≡ b → is_some (cond (eqb (id_of x) id) (Some x) (channel_of xs id)) ≡ false
        → cond (not (eqb (id_of x) id)) (x ∷ channels_without xs id) (channels_without xs id) ≡ x ∷ xs
    by others true is none = let never : true ≡ false = rw is at none in absurd cc
    by others false is none = rw (is, others (rw is at none)) refl

updates_stay : (channels : List ChannelRow) (id : ℕ) (updates : List UpdateRow) → is_some (channel_of channels id) ≡ false
    → AllByRecursion (λ row. is_some (channel_of channels row.message.short_channel_id) ≡ true) updates → updates_without updates id ≡ updates
updates_stay channels id [] none stored = refl
updates_stay channels id (x ∷ xs) none stored = by (updates_stay channels id xs none stored.1) (eqb x.message.short_channel_id id) refl
  where
    same_id : (a b : ℕ) → eqb a b ≡ true → a ≡ b
    same_id a b e = grind (arith, nat_tests)

    by : updates_without xs id ≡ xs → (b : Bool) → eqb x.message.short_channel_id id ≡ b
        → cond (not (eqb x.message.short_channel_id id)) (x ∷ updates_without xs id) (updates_without xs id) ≡ x ∷ xs
    by others true is =
        let never : true ≡ false =
        sym stored.0
        ∙ ap (λ i. is_some (channel_of channels i)) (same_id x.message.short_channel_id id is) ∙ none in
        absurd cc
    by others false is = rw (is, others) refl

without_channel-is : (rows : Rows) (id : ℕ) → AreStored rows → Lawful.AreEnded rows → without_channel rows id ≡ without_stored rows id
without_channel-is rows id stored ended = by (is_some (channel_of rows.channels id)) refl
  where
    by : (b : Bool) → is_some (channel_of rows.channels id) ≡ b → (if b then without_stored rows id else rows) ≡ without_stored rows id
    by true is = refl
    by false is =
        let channels = channels_stay rows.channels id is in
        rw (channels, updates_stay rows.channels id rows.updates is stored, all_ended rows.channels rows.nodes ended) refl

dropping-step : (rows : Rows) (id : ℕ) (gone : ℕ → Bool) → dropping (without_stored rows id) gone ≡ dropping rows (λ i. eqb i id || gone i)
dropping-step rows id gone =
    let both : (i : ℕ) → (not (eqb i id) && not (gone i)) ≡ not (eqb i id || gone i) = λ i. neither (eqb i id) (gone i) in
    let channels : filter (λ row. not (gone (id_of row))) (channels_without rows.channels id)
    ≡ filter (λ row. not (eqb (id_of row) id || gone (id_of row))) rows.channels =
    filter-filter _ _ rows.channels ∙ filter-same _ _ (λ row. both (id_of row)) rows.channels in
    let updates : filter (λ row. not (gone row.message.short_channel_id)) (updates_without rows.updates id)
    ≡ filter (λ row.
    not (eqb row.message.short_channel_id id || gone row.message.short_channel_id)) rows.updates =
    filter-filter _ _ rows.updates ∙ filter-same _ _ (λ row. both row.message.short_channel_id) rows.updates in
    let nodes =
    nodes-step (λ row. not (gone (id_of row))) (channels_without rows.channels id) rows.nodes
    ∙ ap (λ channels. ended_nodes channels rows.nodes) channels in
    rows_same (dropping (without_stored rows id) gone) (dropping rows (λ i. eqb i id || gone i)) channels updates nodes refl
  where
    neither : (a b : Bool) → (not a && not b) ≡ not (a || b)
    neither a b = grind arith

pub closed_all-drops : (ids : List ℕ) (rows : Rows) → AreStored rows → Lawful.AreEnded rows → closed_all rows ids ≡ dropping rows (has ids)
closed_all-drops [] rows stored ended = rows_same rows (dropping rows (λ i. false)) (sym (filter-true rows.channels)) (sym (filter-true rows.updates))
    (sym (ap (λ channels. ended_nodes channels rows.nodes) (filter-true rows.channels) ∙ all_ended rows.channels rows.nodes ended)) refl
closed_all-drops (id ∷ ids) rows stored ended =
    closed_all-drops ids (without_channel rows id) (AreStored-absorbed rows (ops.Close id) stored) (AreEnded-absorbed rows (ops.Close id) ended)
    ∙ ap (λ r. dropping r (has ids)) (without_channel-is rows id stored ended) ∙ dropping-step rows id (has ids)

-- ---- the channels of banned points are those with their ids

has-channel : (id : ℕ) (rows : List ChannelRow) → has (map id_of rows) id ≡ is_some (channel_of rows id)
has-channel id [] = refl
has-channel id (x ∷ xs) = rw (turned id (id_of x)) (by (has-channel id xs) (eqb (id_of x) id))
  where
    turned : (a b : ℕ) → eqb a b ≡ eqb b a
    turned a b = grind (arith, nat_tests)

    by : has (map id_of xs) id ≡ is_some (channel_of xs id) → (b : Bool)
        → (b || has (map id_of xs) id) ≡ is_some (cond b (Some x) (channel_of xs id))
    by others true = refl
    by others false = others

absent : (x : ChannelRow) (rows : List ChannelRow) → AllByRecursion (λ y. by_id x y ≡ Less) rows → has (map id_of rows) (id_of x) ≡ false
absent x [] above = refl
absent x (y ∷ ys) above = rw (other x y above.0, absent x ys above.1) refl

-- in rows with different ids, a row has the id of one that passes where it passes itself
passes : (p : ChannelRow → Bool) (rows : List ChannelRow) → IsStrictlySortedBy by_id rows
    → AllByRecursion (λ row. not (has (map id_of (filter p rows)) (id_of row)) ≡ not (p row)) rows
unfolding IsStrictlySortedBy
passes p [] sorted = tt
passes p (x ∷ xs) sorted = by (passes p xs sorted.1) (p x) refl
  where
    gone : List ℕ
    gone = map id_of (filter p xs)

    later : (ys : List ChannelRow) → AllByRecursion (λ y. by_id x y ≡ Less) ys
        → AllByRecursion (λ y. not (has gone (id_of y)) ≡ not (p y)) ys
        → AllByRecursion (λ y. not (eqb (id_of y) (id_of x) || has gone (id_of y)) ≡ not (p y)) ys
    later [] above each = tt
    later (y ∷ ys) above each = (rw (another x y above.0) each.0, later ys above.1 each.1)

    Passes : List ChannelRow → List ChannelRow → Type 0
    Passes left ys = AllByRecursion (λ y. not (has (map id_of left) (id_of y)) ≡ not (p y)) ys

    by : Passes (filter p xs) xs → (b : Bool) → p x ≡ b → Passes (filter p (x ∷ xs)) (x ∷ xs)
    by others true is =
        let left : filter p (x ∷ xs) ≡ x ∷ filter p xs = rw is refl in
        subst (λ (l : List ChannelRow). Passes l (x ∷ xs)) (sym left)
        (rw (id_again (id_of x), is) refl, later xs sorted.0 others)
    by others false is =
        let left : filter p (x ∷ xs) ≡ filter p xs = rw is refl in
        subst (λ (l : List ChannelRow). Passes l (x ∷ xs)) (sym left)
        (rw (absent x (filter p xs) (All-filter (λ y. by_id x y ≡ Less) p xs sorted.0), is) refl, others)

dropping-bans : (rows : Rows) (banned : List Point) → rows.banned ≡ banned → IsStrictlySortedBy by_id rows.channels
    → dropping rows (has (map id_of (banned_channels banned rows.channels))) ≡ banning rows banned
dropping-bans rows banned is ascend =
    let gone = banned_channels banned rows.channels in
    let channels = filter-alike _ _ rows.channels (passes (ends_banned banned) rows.channels ascend) in
    rows_same (dropping rows (has (map id_of gone))) (banning rows banned) channels
    (filter-same _ _ (λ row. ap not (has-channel row.message.short_channel_id gone)) rows.updates)
    (ap (λ channels. ended_nodes channels rows.nodes) channels) is

-- ---- the ids at points that are banned one after the other

-- these are the ids of the channels of banned points
abbrev pub Gathers : List ChannelRow → List Point → List ℕ → Type 0
Gathers rows points ids = (id : ℕ) → has ids id ≡ has (map id_of (banned_channels points rows)) id

pub gathers-none : (rows : List ChannelRow) (points : List Point) → AreAllowed points rows → Gathers rows points []
gathers-none rows points allowed id = ap (λ gone. has (map id_of gone) id) (sym (none rows allowed))
  where
    none : (xs : List ChannelRow) → AreAllowed points xs → banned_channels points xs ≡ []
    none [] all = refl
    none (x ∷ xs) all = rw (all.0) (none xs all.1)

-- an inserted point is there, and the others are unchanged
pub is_banned-put : (points : List Point) (p x : Point) → is_banned (put by_point points p) x ≡ (is_point x p || is_banned points x)
is_banned-put points p x =
    list_any-append (is_point x) (filter (λ other. is_lt (by_point other p)) points) (p
    ∷ filter (λ other. is_gt (by_point other p)) points) ∙ parts points
  where
    last : (a b c : Bool) → (a || (b || c)) ≡ (b || (a || c))
    last a b c = grind arith

    twice : (a b c : Bool) → (a || (b || c)) ≡ (b || (b || (a || c)))
    twice a b c = grind arith

    inside : (a b c d : Bool) → (a || (b || c)) ≡ (b || d) → (a || (b || (true || c))) ≡ (b || (true || d))
    inside a b c d is = grind arith

    again : (a b : Bool) → (a || b) ≡ (a || (a || b))
    again a b = grind arith

    parts : (qs : List Point) → (is_banned (filter (λ other. is_lt (by_point other p)) qs) x || (is_point x p
        || is_banned (filter (λ other. is_gt (by_point other p)) qs) x)) ≡ (is_point x p || is_banned qs x)
    parts [] = refl
    parts (q ∷ qs) = by (parts qs) (by_point q p) refl (is_point x q) refl
      where
        less : List Point
        less = filter (λ other. is_lt (by_point other p)) qs

        more : List Point
        more = filter (λ other. is_gt (by_point other p)) qs

        by : (is_banned less x || (is_point x p || is_banned more x)) ≡ (is_point x p || is_banned qs x)
            → (o : Ordering) → by_point q p ≡ o → (b : Bool) → is_point x q ≡ b
            → (is_banned (cond (is_lt (by_point q p)) (q ∷ less) less) x
            || (is_point x p || is_banned (cond (is_gt (by_point q p)) (q ∷ more) more) x))
            ≡ (is_point x p || (is_point x q || is_banned qs x))
        by others Less is true here = rw (is, here) (sym (last (is_point x p) true (is_banned qs x)))
        by others Less is false here = rw (is, here) others
        by others Equal is b here =
            let own : is_point x p ≡ is_point x q = ap (is_point x) (sym (same_node q p is)) in
            rw is (others ∙ rw own (again (is_point x q) (is_banned qs x)))
        by others Greater is true here = rw (is, here) (inside (is_banned less x) (is_point x p) (is_banned more x) (is_banned qs x) others)
        by others Greater is false here = rw (is, here) others

pub ends_banned-put : (points : List Point) (p : Point) (row : ChannelRow)
    → ends_banned (put by_point points p) row ≡ (ends_banned points row || ends_at p row)
ends_banned-put points p row =
    rw (is_banned-put points p row.message.node_id_1, is_banned-put points p row.message.node_id_2)
    (turned (is_point row.message.node_id_1 p) (is_banned points row.message.node_id_1)
    (is_point row.message.node_id_2 p) (is_banned points row.message.node_id_2))
  where
    turned : (a b c d : Bool) → ((a || b) || (c || d)) ≡ ((b || d) || (a || c))
    turned a b c d = grind arith

-- those of one point more
pub gathers-more : (rows : List ChannelRow) (points : List Point) (ids : List ℕ) (p : Point)
    → Gathers rows points ids → Gathers rows (put by_point points p) (ids ++ ids_at rows p)
gathers-more rows points ids p gathers id =
    list_any-append (λ other. eqb id other) ids (ids_at rows p) ∙ ap (λ (b : Bool). b || has (ids_at rows p) id) (gathers id) ∙ both rows
  where
    or_true : (a b : Bool) → (a || (true || b)) ≡ true
    or_true a b = grind arith

    swap : (a b c : Bool) → (a || (b || c)) ≡ (b || (a || c))
    swap a b c = grind arith

    both : (xs : List ChannelRow) → (has (map id_of (banned_channels points xs)) id || has (ids_at xs p) id)
        ≡ has (map id_of (banned_channels (put by_point points p) xs)) id
    both [] = refl
    both (x ∷ xs) = rw (ends_banned-put points p x) (by (both xs) (ends_banned points x) (ends_at p x) (eqb id (id_of x)) refl)
      where
        by : (has (map id_of (banned_channels points xs)) id || has (ids_at xs p) id)
            ≡ has (map id_of (banned_channels (put by_point points p) xs)) id
            → (b d e : Bool) → eqb id (id_of x) ≡ e
            → (has (map id_of (cond b (x ∷ banned_channels points xs) (banned_channels points xs))) id
            || has (map id_of (cond d (x ∷ filter (ends_at p) xs) (filter (ends_at p) xs))) id)
            ≡ has (map id_of (cond (b || d) (x ∷ banned_channels (put by_point points p) xs) (banned_channels (put by_point points p) xs))) id
        by others true true true is = rw is refl
        by others true true false is = rw is others
        by others true false true is = rw is refl
        by others true false false is = rw is others
        by others false true true is = rw is (or_true (has (map id_of (banned_channels points xs)) id) (has (ids_at xs p) id))
        by others false true false is = rw is others
        by others false false e is = others

-- closing them all, where the points are set aside meanwhile, bans the points
pub closed_all-buffered : (rows : Rows) (ids : List ℕ) (banned : List Point) → Gathers rows.channels banned
    ids → AreStored rows → Lawful.AreEnded rows → IsStrictlySortedBy by_id rows.channels
    → record (closed_all (record rows { banned = [] }) ids) { banned = banned } ≡ banning rows banned
closed_all-buffered rows ids banned gathers stored ended ascend =
    let gone = map id_of (banned_channels banned rows.channels) in
    let aside : Rows = record rows { banned = [] } in
    let put_back : Rows = record rows { banned = banned } in
    ap (λ (r : Rows). let back : Rows = record r { banned = banned } in back) (closed_all-drops ids aside stored ended)
    ∙ rows_same (dropping put_back (has ids)) (dropping put_back (has gone))
    (filter-same _ _ (λ row. ap not (gathers (id_of row))) rows.channels)
    (filter-same _ _ (λ row. ap not (gathers row.message.short_channel_id)) rows.updates)
    (ap (λ channels. ended_nodes channels rows.nodes) (filter-same _ _ (λ row. ap not (gathers (id_of row))) rows.channels)) refl
    ∙ dropping-bans put_back banned refl ascend

-- without points there are no channels of them
pub allowed-none : (rows : List ChannelRow) → AreAllowed [] rows
allowed-none [] = tt
allowed-none (x ∷ xs) = (refl, allowed-none xs)

-- the whole of a ban
pub banned-all : (rows start end : Rows) (aside points : List Point) (ids : List ℕ) (ban : BanRow)
    → IsLawful rows → aside ≡ [] → start ≡ record rows { banned = aside }
    → ids ≡ ((ids_at rows.channels ban.held1 ++ ids_at rows.channels ban.held2) ++ ids_at rows.channels ban.new1) ++ ids_at rows.channels ban.new2
    → end ≡ closed_all start ids → points ≡ with_banned rows.banned ban → record end { banned = points } ≡ with_ban rows ban
banned-all rows start end aside points ids ban lawful aside_is start_is ids_are end_is points_are =
    let gathers : Gathers rows.channels (with_banned rows.banned ban) (((ids_at rows.channels ban.held1
    ++ ids_at rows.channels ban.held2) ++ ids_at rows.channels ban.new1) ++ ids_at rows.channels ban.new2) =
    gathers-more rows.channels _ _ ban.new2
    (gathers-more rows.channels _ _ ban.new1 (gathers-more rows.channels _ _ ban.held2 (gathers-more
    rows.channels _ [] ban.held1 (gathers-none rows.channels rows.banned lawful.allowed)))) in
    rw (points_are, end_is, start_is, aside_is, ids_are) (closed_all-buffered rows _
    (with_banned rows.banned ban) gathers lawful.stored lawful.ended lawful.ascend.channels)
