-- The records of a map leave its rows.
use Rattle.std.proofs.Common.{◌≡◌, ℕ, true, false, List, [], ◌∷◌, ◌++◌, map, None, refl, sym, ap, subst, ◌∙◌, eqb, arith, append_assoc}
use Rattle.std.specs.Prelude.{is_some}
use Rattle.std.specs.List.{AllByRecursion}
use Rattle.std.specs.List.Sorted.{IsStrictlySortedBy}
use Rattle.std.specs.declared.cmp.Ordering.{Ordering}
use Rattle.std.specs.declared.cmp.Ordering.TheVariants.{Less, Equal, Greater}
use Rattle.std.specs.Ordering.{nat_cmp, ordering_reverse}
use Rattle.std.proofs.lemmas.Bool.Decides.{nat_tests}
use Rattle.lgm_wire.specs.declared.point.Point.{Point}
use Rattle.lgm_gossip.specs.Message.{Wire}
use Rattle.lgm_gossip.specs.declared.message.Message.TheVariants as messages
use Rattle.lgm_gossip.specs.declared.announce.Announce.{Announce}
use Rattle.lgm_gossip.specs.declared.channel_update.ChannelUpdate.{ChannelUpdate}
use Rattle.lgm_gossip.specs.declared.node_announce.NodeAnnounce.{NodeAnnounce}
use Rattle.lgm_gossip.proofs.LayoutLaws.{announce_is, update_is, node_is}
use Rattle.lgm_check.specs.Row.{channel_row, update_row, node_row}
use Rattle.lgm_check.specs.declared.row.ChannelRow.{ChannelRow}
use Rattle.lgm_check.specs.declared.row.UpdateRow.{UpdateRow}
use Rattle.lgm_check.specs.declared.row.NodeRow.{NodeRow}
use Rattle.lgm_store.specs.declared.op.Op.{Op}
use Rattle.lgm_store.specs.declared.op.Op.TheVariants as ops
use Rattle.lgm_store.specs.Rows.{Rows, empty, put, by_id, by_direction, by_node, by_point, channel_of, ends_channel, ends_banned}
use Rattle.lgm_store.specs.History.{absorbed, fold, fold_from, with_channel, with_update, with_node, with_banned}
use Rattle.lgm_store.specs.Laws.{IsLawful}
use Rattle.lgm_store.specs.Spelled.{AreSpelled}
use Rattle.lgm_store.proofs.Lists.{node_total}
use Rattle.lgm_save.specs.declared.record.Record.{Record}
use Rattle.lgm_save.specs.Records.{op_of, ban_of, ban_record, channel_record, update_record, node_record, records_of}
use Rattle.lgm_save.specs.Records.{ban_records, channel_records, update_records, node_records}

append-nil : {X : Type 0} (xs : List X) → xs ++ [] ≡ xs
append-nil [] = refl
append-nil {X} (x ∷ xs) = ap (λ (ys : List X). x ∷ ys) (append-nil xs)

map-append : {X Y : Type 0} (f : X → Y) (xs ys : List X) → map f (xs ++ ys) ≡ map f xs ++ map f ys
map-append f [] ys = refl
map-append f (x ∷ xs) ys = ap (λ zs. f x ∷ zs) (map-append f xs ys)

-- ---- rows behind all others

module _ {R : Type 0} (order : R → R → Ordering) where
  put-last : (rows : List R) (row : R) → AllByRecursion (λ other. order other row ≡ Less) rows → put order rows row ≡ rows ++ row ∷ []
  put-last [] row below = refl
  put-last (x ∷ xs) row below = rw below.0 (ap (λ (ys : List R). x ∷ ys) (put-last xs row below.1))

  put-again : (rows : List R) (row : R) → order row row ≡ Equal → AllByRecursion (λ other. order other row ≡ Less) rows
      → put order (rows ++ row ∷ []) row ≡ rows ++ row ∷ []
  put-again [] row same below = rw same refl
  put-again (x ∷ xs) row same below = rw below.0 (ap (λ (ys : List R). x ∷ ys) (put-again xs row same below.1))

  All-middle : (P : R → Type 0) (xs ys : List R) (x : R) → AllByRecursion P (xs ++ x ∷ ys) → P x
  All-middle P [] ys x all = all.0
  All-middle P (z ∷ zs) ys x all = All-middle P zs ys x all.1

  sorted_front : (done rest : List R) (x : R) → IsStrictlySortedBy order (done ++ x ∷ rest) → AllByRecursion (λ other. order other x ≡ Less) done
  unfolding IsStrictlySortedBy
  sorted_front [] rest x sorted = tt
  sorted_front (d ∷ ds) rest x sorted = (All-middle (λ y. order d y ≡ Less) ds rest x sorted.0, sorted_front ds rest x sorted.1)

-- ---- bans

abbrev bans_alone : List Point → Rows
bans_alone banned = record { channels = []; updates = []; nodes = []; banned = banned }

equal_point : (p : Point) → by_point p p ≡ Equal
equal_point p = by (by_point p p) refl
  where
    by : (o : Ordering) → by_point p p ≡ o → by_point p p ≡ Equal
    by Less is = let bad : Less ≡ Greater = sym is ∙ node_total.antisymm p p ∙ ap ordering_reverse is in absurd cc
    by Equal is = is
    by Greater is = let bad : Greater ≡ Less = sym is ∙ node_total.antisymm p p ∙ ap ordering_reverse is in absurd cc

four_bans : (done : List Point) (p : Point) → AllByRecursion (λ other. by_point other p ≡ Less) done → with_banned done (ban_of p) ≡ done ++ p ∷ []
four_bans done p below =
    let again = put-again by_point done p (equal_point p) below in
    rw (put-last by_point done p below, again, again, again) refl

fold_bans : (done points : List Point) → IsStrictlySortedBy by_point (done ++ points)
    → fold_from (bans_alone done) (map op_of (map ban_record points)) ≡ bans_alone (done ++ points)
fold_bans done [] sorted = ap bans_alone (sym (append-nil done))
fold_bans done (p ∷ ps) sorted =
    let one : absorbed (bans_alone done) (ops.Ban (ban_of p)) ≡ bans_alone (done ++ p ∷ []) =
    ap bans_alone (four_bans done p (sorted_front by_point done ps p sorted)) in
    ap (λ (rows : Rows). fold_from rows (map op_of (map ban_record ps))) one
    ∙ fold_bans (done ++ p ∷ []) ps (subst (IsStrictlySortedBy by_point) (sym (append_assoc done (p ∷ []) ps)) sorted)
    ∙ ap bans_alone (append_assoc done (p ∷ []) ps)

-- ---- channels

abbrev with_channels : List Point → List ChannelRow → Rows
with_channels banned channels = record { channels = channels; updates = []; nodes = []; banned = banned }

channel_again : (row : ChannelRow) → Wire (messages.Announce row.message) row.raw → channel_row row.sat row.raw ≡ row
channel_again row wire =
    ap (λ (m : Announce). let made : ChannelRow = record { message = m; sat = row.sat; raw = row.raw } in made) (announce_is row.message row.raw wire).1

not_there : (done : List ChannelRow) (row : ChannelRow) → AllByRecursion (λ other. by_id other row ≡ Less) done → channel_of done row.message.short_channel_id ≡ None
not_there [] row below = refl
not_there (d ∷ ds) row below = rw (differ d.message.short_channel_id row.message.short_channel_id below.0) (not_there ds row below.1)
  where
    differ : (a b : ℕ) → nat_cmp a b ≡ Less → eqb a b ≡ false
    differ a b less = grind (arith, nat_tests)

fold_channels : (banned : List Point) (done cs : List ChannelRow) → IsStrictlySortedBy by_id (done ++ cs)
    → AllByRecursion (λ row. ends_banned banned row ≡ false) cs → AllByRecursion (λ row. Wire (messages.Announce row.message) row.raw) cs
    → fold_from (with_channels banned done) (map op_of (map channel_record cs)) ≡ with_channels banned (done ++ cs)
fold_channels banned done [] sorted allowed spelled = ap (with_channels banned) (sym (append-nil done))
fold_channels banned done (c ∷ cs) sorted allowed spelled =
    let below = sorted_front by_id done cs c sorted in
    let added : with_channel (with_channels banned done) c ≡ with_channels banned (done ++ c ∷ []) =
    rw (not_there done c below, allowed.0) (ap (with_channels banned) (put-last by_id done c below)) in
    ap (λ (row : ChannelRow). fold_from (with_channel (with_channels banned done) row) (map op_of (map channel_record cs))) (channel_again c spelled.0)
    ∙ ap (λ (rows : Rows). fold_from rows (map op_of (map channel_record cs))) added
    ∙ fold_channels banned (done ++ c ∷ []) cs (subst (IsStrictlySortedBy by_id) (sym (append_assoc done (c ∷ []) cs)) sorted) allowed.1 spelled.1
    ∙ ap (with_channels banned) (append_assoc done (c ∷ []) cs)

-- ---- updates

abbrev with_updates : List Point → List ChannelRow → List UpdateRow → Rows
with_updates banned channels updates = record { channels = channels; updates = updates; nodes = []; banned = banned }

update_again : (row : UpdateRow) → Wire (messages.ChannelUpdate row.message) row.raw → update_row row.raw ≡ row
update_again row wire =
    ap (λ (m : ChannelUpdate). let made : UpdateRow = record { message = m; raw = row.raw } in made) (update_is row.message row.raw wire).1

fold_updates : (banned : List Point) (channels : List ChannelRow) (done us : List UpdateRow) → IsStrictlySortedBy by_direction (done ++ us)
    → AllByRecursion (λ row. is_some (channel_of channels row.message.short_channel_id) ≡ true) us
    → AllByRecursion (λ row. Wire (messages.ChannelUpdate row.message) row.raw) us
    → fold_from (with_updates banned channels done) (map op_of (map update_record us)) ≡ with_updates banned channels (done ++ us)
fold_updates banned channels done [] sorted stored spelled = ap (with_updates banned channels) (sym (append-nil done))
fold_updates banned channels done (u ∷ us) sorted stored spelled =
    let below = sorted_front by_direction done us u sorted in
    let added : with_update (with_updates banned channels done) u ≡ with_updates banned channels (done ++ u ∷ []) =
    rw stored.0 (ap (with_updates banned channels) (put-last by_direction done u below)) in
    ap (λ (row : UpdateRow). fold_from (with_update (with_updates banned channels done) row) (map op_of (map update_record us))) (update_again u spelled.0)
    ∙ ap (λ (rows : Rows). fold_from rows (map op_of (map update_record us))) added
    ∙ fold_updates banned channels (done ++ u ∷ []) us (subst (IsStrictlySortedBy by_direction) (sym (append_assoc done (u ∷ []) us)) sorted) stored.1 spelled.1
    ∙ ap (with_updates banned channels) (append_assoc done (u ∷ []) us)

-- ---- nodes

abbrev with_nodes : Rows → List NodeRow → Rows
with_nodes rows nodes = record rows { nodes = nodes }

node_again : (row : NodeRow) → Wire (messages.NodeAnnounce row.message) row.raw → node_row row.raw ≡ row
node_again row wire =
    ap (λ (m : NodeAnnounce). let made : NodeRow = record { message = m; raw = row.raw } in made) (node_is row.message row.raw wire).1

fold_nodes : (rows : Rows) (done ns : List NodeRow) → IsStrictlySortedBy by_node (done ++ ns)
    → AllByRecursion (λ row. ends_channel rows.channels row.message.node_id ≡ true) ns
    → AllByRecursion (λ row. Wire (messages.NodeAnnounce row.message) row.raw) ns
    → fold_from (with_nodes rows done) (map op_of (map node_record ns)) ≡ with_nodes rows (done ++ ns)
fold_nodes rows done [] sorted ended spelled = ap (with_nodes rows) (sym (append-nil done))
fold_nodes rows done (n ∷ ns) sorted ended spelled =
    let below = sorted_front by_node done ns n sorted in
    let added : with_node (with_nodes rows done) n ≡ with_nodes rows (done ++ n ∷ []) =
    rw ended.0 (ap (with_nodes rows) (put-last by_node done n below)) in
    ap (λ (row : NodeRow). fold_from (with_node (with_nodes rows done) row) (map op_of (map node_record ns))) (node_again n spelled.0)
    ∙ ap (λ (all : Rows). fold_from all (map op_of (map node_record ns))) added
    ∙ fold_nodes rows (done ++ n ∷ []) ns (subst (IsStrictlySortedBy by_node) (sym (append_assoc done (n ∷ []) ns)) sorted) ended.1 spelled.1
    ∙ ap (with_nodes rows) (append_assoc done (n ∷ []) ns)

-- ---- all of them

fold_from-append : (rows : Rows) (xs ys : List Op) → fold_from rows (xs ++ ys) ≡ fold_from (fold_from rows xs) ys
fold_from-append rows [] ys = refl
fold_from-append rows (x ∷ xs) ys = fold_from-append (absorbed rows x) xs ys

both : (rows : Rows) (a b : List Record) → fold_from rows (map op_of (a ++ b)) ≡ fold_from (fold_from rows (map op_of a)) (map op_of b)
both rows a b = ap (fold_from rows) (map-append op_of a b) ∙ fold_from-append rows (map op_of a) (map op_of b)

pub records_leave : (rows : Rows) → IsLawful rows → AreSpelled rows → fold (map op_of (records_of rows)) ≡ rows
records_leave rows lawful spelled =
    both empty ((ban_records rows ++ channel_records rows) ++ update_records rows) (node_records rows)
    ∙ ap (λ (s : Rows). fold_from s (map op_of (node_records rows))) (both empty (ban_records rows ++ channel_records rows) (update_records rows)
    ∙ ap (λ (s : Rows). fold_from s (map op_of (update_records rows))) (both empty (ban_records rows) (channel_records rows)
    ∙ ap (λ (s : Rows). fold_from s (map op_of (channel_records rows))) (fold_bans [] rows.banned lawful.ascend.banned)
    ∙ fold_channels rows.banned [] rows.channels lawful.ascend.channels lawful.allowed spelled.channels)
    ∙ fold_updates rows.banned rows.channels [] rows.updates lawful.ascend.updates lawful.stored spelled.updates)
    ∙ fold_nodes (with_updates rows.banned rows.channels rows.updates) [] rows.nodes lawful.ascend.nodes lawful.ended spelled.nodes
