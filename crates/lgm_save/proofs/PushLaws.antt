-- Pushing the records of a map.
use Rattle.std.proofs.Common.{◌≡◌, Bool, true, false, cond, List, [], ◌∷◌, ◌++◌, map, Option, Some, None, refl, sym, ap, subst, ◌∙◌, append_assoc}
use Rattle.std.specs.Prelude.{find}
use Rattle.std.specs.List.{AllByRecursion, filter}
use Rattle.std.specs.List.Sorted.{IsStrictlySortedBy}
use Rattle.std.specs.declared.cmp.Ordering.{Ordering}
use Rattle.std.specs.declared.cmp.Ordering.TheVariants.{Less, Equal, Greater}
use Rattle.std.specs.Ordering.{is_lt, ordering_reverse}
use Rattle.lgm_wire.specs.declared.point.Point.{Point}
use Rattle.lgm_gossip.specs.Message.{Wire}
use Rattle.lgm_gossip.specs.declared.message.Message.TheVariants as messages
use Rattle.lgm_gossip.specs.Layout.{IsAnnounce, IsNodeAnnounce}
use Rattle.lgm_gossip.proofs.LayoutLaws.{announce_is, update_is, node_is}
use Rattle.lgm_check.specs.declared.row.ChannelRow.{ChannelRow}
use Rattle.lgm_check.specs.declared.row.UpdateRow.{UpdateRow}
use Rattle.lgm_check.specs.declared.row.NodeRow.{NodeRow}
use Rattle.lgm_store.specs.ChannelInfo.{stored_at}
use Rattle.lgm_store.specs.Rows.{Rows, by_point}
use Rattle.lgm_store.specs.Reading.{next_point_of}
use Rattle.lgm_store.proofs.Lists.{node_total}
use Rattle.lgm_store.proofs.ListLaws.{filter-all, All-append, All-each}
use Rattle.lgm_save.specs.declared.record.Record.{Record}
use Rattle.lgm_save.specs.Records.{IsRecord, channel_record, ban_record, update_record}
use Rattle.lgm_save.specs.inner.Pushing.{Pushes, OnUpdate, update_list, is_behind}

-- one more record
pub pushed : (old new : List Record) (r : Record) → new ≡ old ++ r ∷ [] → IsRecord r → Pushes (r ∷ []) old new
pushed old new r is lawful = record {
  items = is;
  lawful = λ all. rw is (All-append IsRecord old (r ∷ []) all (lawful, tt));
}

-- those that are pushed first, and then the others
pub pushes_both : (a b old between new : List Record) → Pushes a old between → Pushes b between new → Pushes (a ++ b) old new
pushes_both a b old between new first second = record {
  items = second.items ∙ ap (λ (xs : List Record). xs ++ b) first.items ∙ append_assoc old a b;
  lawful = λ all. second.lawful (first.lawful all);
}

-- ---- channels

pub channels_all : (rows : Rows) (cs : List ChannelRow) → map (λ stored. channel_record stored.channel) (map (stored_at rows) cs) ≡ map channel_record cs
channels_all rows [] = refl
channels_all rows (c ∷ cs) = ap (λ (rs : List Record). channel_record c ∷ rs) (channels_all rows cs)

pub channels_encode : (rows : Rows) (cs : List ChannelRow) → AllByRecursion (λ row. Wire (messages.Announce row.message) row.raw) cs
    → AllByRecursion (λ stored. IsAnnounce stored.channel.raw) (map (stored_at rows) cs)
channels_encode rows [] all = tt
channels_encode rows (c ∷ cs) all = ((announce_is c.message c.raw all.0).0, channels_encode rows cs all.1)

-- ---- nodes

pub nodes_encode : (rs : List NodeRow) → AllByRecursion (λ row. Wire (messages.NodeAnnounce row.message) row.raw) rs
    → AllByRecursion (λ row. IsNodeAnnounce row.raw) rs
nodes_encode [] all = tt
nodes_encode (r ∷ rs) all = ((node_is r.message r.raw all.0).0, nodes_encode rs all.1)

-- ---- updates

found_encodes : (us : List UpdateRow) (p : UpdateRow → Bool) → AllByRecursion (λ row. Wire (messages.ChannelUpdate row.message) row.raw) us → OnUpdate (find p us)
found_encodes [] p all = tt
found_encodes (u ∷ us) p all = by (found_encodes us p all.1) (p u)
  where
    by : OnUpdate (find p us) → (b : Bool) → OnUpdate (cond b (Some u) (find p us))
    by others true = (update_is u.message u.raw all.0).0
    by others false = others

pub updates_encode : (rows : Rows) (cs : List ChannelRow) → AllByRecursion (λ row. Wire (messages.ChannelUpdate row.message) row.raw) rows.updates
    → AllByRecursion (λ stored. OnUpdate stored.first × OnUpdate stored.second) (map (stored_at rows) cs)
updates_encode rows [] all = tt
updates_encode rows (c ∷ cs) all = ((found_encodes rows.updates _ all, found_encodes rows.updates _ all), updates_encode rows cs all)

-- ---- bans

pub bans_all : (points : List Point) → filter (is_behind None) points ≡ points
bans_all points = filter-all _ points (All-each _ points (λ point. refl))

-- points behind another one
abbrev AreBehind : Point → List Point → Type 0
AreBehind point points = AllByRecursion (λ other. by_point point other ≡ Less) points

all_behind : (point : Point) (points : List Point) → AreBehind point points → filter (is_behind (Some point)) points ≡ points
all_behind point [] behind = refl
all_behind point (p ∷ ps) behind = rw behind.0 (ap (λ (qs : List Point). p ∷ qs) (all_behind point ps behind.1))

not_self : (p : Point) → is_behind (Some p) p ≡ false
not_self p = by (by_point p p) refl
  where
    by : (o : Ordering) → by_point p p ≡ o → is_lt (by_point p p) ≡ false
    by Less is = let bad : Less ≡ Greater = sym is ∙ node_total.antisymm p p ∙ ap ordering_reverse is in absurd cc
    by Equal is = rw is refl
    by Greater is = rw is refl

behind_found : (after : Option Point) (x : Point) (ps : List Point) (y : Point) → AreBehind y ps → find (is_behind after) ps ≡ Some x → by_point y x ≡ Less
behind_found after x [] y behind found = absurd cc
behind_found after x (p ∷ ps) y behind found = by (behind_found after x ps y behind.1) (is_behind after p) refl found
  where
    by : (find (is_behind after) ps ≡ Some x → by_point y x ≡ Less) → (b : Bool) → is_behind after p ≡ b
        → cond (is_behind after p) (Some p) (find (is_behind after) ps) ≡ Some x → by_point y x ≡ Less
    by others true e f = let same : Some p ≡ Some x = rw e at f in let it : p ≡ x = cc in ap (by_point y) (sym it) ∙ behind.0
    by others false e f = others (rw e at f)

through : (after : Option Point) (p : Point) (ps : List Point) → is_behind after p ≡ true → AreBehind p ps → filter (is_behind after) ps ≡ ps
through None p ps here behind = bans_all ps
through (Some after) p ps here behind = all_behind after ps (each ps behind)
  where
    less : (o : Ordering) → is_lt o ≡ true → o ≡ Less
    less Less e = refl
    less Equal e = absurd cc
    less Greater e = absurd cc

    each : (qs : List Point) → AreBehind p qs → AreBehind after qs
    each [] all = tt
    each (q ∷ qs) all = (node_total.trans after p q (less (by_point after p) here) all.0, each qs all.1)

pub behind_more : (after : Option Point) (points : List Point) (x : Point) → IsStrictlySortedBy by_point points → find (is_behind after) points ≡ Some x
    → filter (is_behind after) points ≡ x ∷ filter (is_behind (Some x)) points
unfolding IsStrictlySortedBy
behind_more after [] x sorted found = absurd cc
behind_more after (p ∷ ps) x sorted found = by (behind_more after ps x sorted.1) (is_behind after p) refl found
  where
    by : (find (is_behind after) ps ≡ Some x → filter (is_behind after) ps ≡ x ∷ filter (is_behind (Some x)) ps) → (b : Bool) → is_behind after p ≡ b → cond (is_behind after p) (Some p) (find (is_behind after) ps) ≡ Some x
        → cond (is_behind after p) (p ∷ filter (is_behind after) ps) (filter (is_behind after) ps)
        ≡ x ∷ cond (is_behind (Some x) p) (p ∷ filter (is_behind (Some x)) ps) (filter (is_behind (Some x)) ps)
    by others true e f =
        let same : Some p ≡ Some x = rw e at f in
        let it : p ≡ x = cc in
        rw (e, ← it, not_self p, through after p ps e sorted.0, all_behind p ps sorted.0) refl
    by others false e f =
        let there : find (is_behind after) ps ≡ Some x = rw e at f in
        let less = behind_found after x ps p sorted.0 there in
        let greater : by_point x p ≡ Greater = node_total.antisymm x p ∙ ap ordering_reverse less in
        rw (e, greater) (others there)

pub none_behind : (after : Option Point) (points : List Point) → find (is_behind after) points ≡ None → filter (is_behind after) points ≡ []
none_behind after [] found = refl
none_behind after (p ∷ ps) found = by (none_behind after ps) (is_behind after p) refl found
  where
    by : (find (is_behind after) ps ≡ None → filter (is_behind after) ps ≡ []) → (b : Bool) → is_behind after p ≡ b → cond (is_behind after p) (Some p) (find (is_behind after) ps) ≡ None
        → cond (is_behind after p) (p ∷ filter (is_behind after) ps) (filter (is_behind after) ps) ≡ []
    by others true e f = let bad : Some p ≡ None = rw e at f in absurd cc
    by others false e f = rw e (others (rw e at f))

pub next_is : (after : Option Point) (points : List Point) → next_point_of points after ≡ find (is_behind after) points
next_is None points = refl
next_is (Some after) points = refl

pub ban_pushed : (old new : List Record) (x : Point) (left rest : List Point) → new ≡ old ++ ban_record x ∷ [] → left ≡ x ∷ rest
    → new ++ map ban_record rest ≡ old ++ map ban_record left
ban_pushed old new x left rest is more =
    ap (λ (rs : List Record). rs ++ map ban_record rest) is ∙ append_assoc old (ban_record x ∷ []) (map ban_record rest)
    ∙ ap (λ (ps : List Point). old ++ map ban_record ps) (sym more)

pub bans_whole : (old : List Record) (left : List Point) → left ≡ [] → old ++ map ban_record left ≡ old
bans_whole old left none = ap (λ (ps : List Point). old ++ map ban_record ps) none ∙ whole old
  where
    whole : (xs : List Record) → xs ++ [] ≡ xs
    whole [] = refl
    whole (x ∷ xs) = ap (λ (ys : List Record). x ∷ ys) (whole xs)

-- a record is pushed, and those to come are the others
pub one_of : (old new first all : List Record) (x : Record) (rest : List Record) → new ≡ old ++ x ∷ [] → old ++ (x ∷ rest) ≡ first ++ all → new ++ rest ≡ first ++ all
one_of old new first all x rest is whole = ap (λ (rs : List Record). rs ++ rest) is ∙ append_assoc old (x ∷ []) rest ∙ whole

pub update_pushed : (row : Option UpdateRow) (r : UpdateRow) (old new : List Record) → row ≡ Some r → new ≡ old ++ update_record r ∷ []
    → OnUpdate row → Pushes (update_list row) old new
update_pushed row r old new is pushed' on =
    subst (λ (o : Option UpdateRow). OnUpdate o → Pushes (update_list o) old new) (sym is) (λ encodes. pushed old new (update_record r) pushed' encodes) on
