-- How a ban changes the view of a map.
use Rattle.std.proofs.Common.{◌≡◌, ℕ, ◌<◌, Bool, true, false, cond, not, ◌||◌, List, [], ◌∷◌, length}
use Rattle.std.proofs.Common.{get_or, zero, suc, refl, sym, ap, ◌∙◌, Option, Some, None, arith, is_some}
use Rattle.std.specs.Option.{option_and_then, option_map_or}
use Rattle.std.specs.List.{AllByRecursion, filter, slice_get}
use Rattle.std.proofs.Math.Bool.{or_comm}
use Rattle.lgm_wire.specs.declared.point.Point.{Point}
use Rattle.lgm_check.specs.declared.row.ChannelRow.{ChannelRow}
use Rattle.lgm_check.specs.declared.row.UpdateRow.{UpdateRow}
use Rattle.lgm_store.specs.Rows.{Rows, channel_of, is_banned, ends_banned, is_second}
use Rattle.lgm_store.specs.History.{banning, allowed_channels, banned_channels, updates_beside}
use Rattle.lgm_store.specs.Laws.{IsLawful}
use Rattle.lgm_graph.specs.Edges.{PointEdge, edge_of, edge_on, edge_in, end_of, carrying}
use Rattle.lgm_graph.specs.Graph.{IsNumbered, IsJoined, edges_with, number_of, numbered_in}
use Rattle.lgm_graph.specs.inner.Sound.{banned_at, is_allowed}
use Rattle.lgm_graph.proofs.Numbers.{get_number}
use Rattle.lgm_graph.proofs.CarriedEdgeLaws.{filter_map-filter, edge_in-some}
use Rattle.lgm_graph.proofs.KeptEdgeLaws.{filter_map-agree, found_filter, none_filter, edges_keep}
use Rattle.lgm_store.proofs.ListLaws.{All-to, filter-passes}

get_at : {X : Type 0} (xs : List X) (n : ℕ) (d : X) → n < length xs → slice_get xs n ≡ Some (get_or xs n d)
get_at [] n d lt = absurd (omega (arith, lt))
get_at (x ∷ xs) zero d lt = refl
get_at (x ∷ xs) (suc n) d lt = get_at xs n d (omega (arith, lt))

-- the point of a number
banned_number : (points banned : List Point) (p : Point) → IsNumbered points p → banned_at points banned (number_of points p) ≡ is_banned banned p
banned_number points banned p there =
    let found : slice_get points (number_of points p) ≡ Some p = get_at points (number_of points p) p there ∙ ap Some (get_number points p p there) in
    ap (λ (o : Option Point). option_map_or (is_banned banned) o false) found

-- whether an edge stays, by its numbers or by its points
pub banned_tests : (banned points : List Point) (edges : List PointEdge) → AllByRecursion (IsJoined points) edges
    → AllByRecursion (λ e. is_allowed points banned (numbered_in points e) ≡ not (is_banned banned e.from || is_banned banned e.to)) edges
banned_tests banned points edges joined =
    All-to (IsJoined points) (λ e. is_allowed points banned (numbered_in points e)
    ≡ not (is_banned banned e.from || is_banned banned e.to)) edges
    (λ e both. rw (banned_number points banned e.from both.0, banned_number points banned e.to both.1) refl) joined

module _ (known : Option (List ℕ)) (rows : Rows) (banned : List Point) (lawful : IsLawful rows) where
  abbrev pub keep : PointEdge → Bool
  keep = λ e. not (is_banned banned e.from || is_banned banned e.to)

  stays : UpdateRow → Bool
  stays = λ row. not (is_some (channel_of (banned_channels banned rows.channels) row.message.short_channel_id))

  agree : (row : UpdateRow)
      → not (is_some (channel_of (banned_channels banned rows.channels) row.message.short_channel_id)) ≡ true
      → edge_in (allowed_channels banned rows.channels) row ≡ edge_in rows.channels row
  agree row is =
      ap (λ (o : Option ChannelRow). option_and_then (λ c. edge_on c row) o)
      (by (channel_of rows.channels row.message.short_channel_id) refl)
    where
      by : (o : Option ChannelRow) → channel_of rows.channels row.message.short_channel_id ≡ o
          → channel_of (allowed_channels banned rows.channels) row.message.short_channel_id ≡ channel_of rows.channels row.message.short_channel_id
      by None e = none_filter (λ c. not (ends_banned banned c)) rows.channels row.message.short_channel_id e ∙ sym e
      by (Some channel) e =
          found_filter (λ c. not (ends_banned banned c)) rows.channels row.message.short_channel_id
          lawful.ascend.channels channel e ∙ which (ends_banned banned channel) refl ∙ sym e
        where
          there : not (is_some (cond (ends_banned banned channel) (Some channel) None)) ≡ true
          there =
              ap (λ (o : Option ChannelRow). not (is_some o)) (sym (found_filter (ends_banned banned)
              rows.channels row.message.short_channel_id lawful.ascend.channels channel e)) ∙ is

          which : (b : Bool) → ends_banned banned channel ≡ b → cond (not (ends_banned banned channel)) (Some channel) None ≡ Some channel
          which true f = let never : not (is_some (cond true (Some channel) None)) ≡ true = rw f at there in absurd cc
          which false f = rw f refl

  same : (row : UpdateRow) (edge : PointEdge) → edge_in rows.channels row ≡ Some edge
      → not (is_banned banned edge.from || is_banned banned edge.to)
      ≡ not (is_some (channel_of (banned_channels banned rows.channels) row.message.short_channel_id))
  unfolding edge_of
  same row edge is =
      let found = edge_in-some rows.channels row edge is in
      rw (found.2) (ap not (turn found.0 (is_second row)) ∙ some_of found.0 (ends_banned banned found.0)
      ∙ ap (λ (o : Option ChannelRow). not (is_some o)) (sym (found_filter (ends_banned banned) rows.channels
      row.message.short_channel_id lawful.ascend.channels found.0 found.1)))
    where
      turn : (channel : ChannelRow) (b : Bool) → (is_banned banned (end_of channel b)
          || is_banned banned (end_of channel (not b))) ≡ ends_banned banned channel
      turn channel true = or_comm (is_banned banned channel.message.node_id_2) (is_banned banned channel.message.node_id_1)
      turn channel false = refl

      some_of : (channel : ChannelRow) (b : Bool) → not b ≡ not (is_some (cond b (Some channel) None))
      some_of channel true = refl
      some_of channel false = refl

  pub carrying_banned : carrying (banning rows banned) ≡ filter (λ e. not (is_banned banned e.from || is_banned banned e.to)) (carrying rows)
  carrying_banned =
      filter_map-agree (edge_in (allowed_channels banned rows.channels)) (edge_in rows.channels)
      (updates_beside (banned_channels banned rows.channels) rows.updates)
      (All-to _ _ (updates_beside (banned_channels banned rows.channels) rows.updates) agree
      (filter-passes (λ row. not (is_some (channel_of (banned_channels banned rows.channels) row.message.short_channel_id))) rows.updates))
      ∙ filter_map-filter (edge_in rows.channels)
      (λ row. not (is_some (channel_of (banned_channels banned rows.channels) row.message.short_channel_id)))
      (λ e. not (is_banned banned e.from || is_banned banned e.to)) same rows.updates

  -- the edges of a point that stay
  pub edges_banned : (end : PointEdge → Point) (points : List Point) → AllByRecursion (IsJoined points) (carrying rows) → (q : Point)
      → filter (is_allowed points banned) (edges_with end points (carrying rows) q) ≡ edges_with end points (carrying (banning rows banned)) q
  edges_banned end points joined q =
      edges_keep end points keep (is_allowed points banned) (carrying rows) q (banned_tests banned points (carrying rows) joined)
      ∙ ap (λ es. edges_with end points es q) (sym carrying_banned)
