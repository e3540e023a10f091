-- The edges of rows, channel by channel.
use Rattle.std.proofs.Common.{◌≡◌, ◌≢◌, ℕ, ◌<◌, ◌⊎◌, inl, inr, eqb, Bool, true, false, ◌&&◌, List, []}
use Rattle.std.proofs.Common.{◌∷◌, ◌++◌, refl, sym, ap, ◌∙◌, Option, Some, None, arith, true≢false}
use Rattle.std.specs.Bool.{beq}
use Rattle.std.specs.List.{AllByRecursion, filter_map, flat_map, cons_option}
use Rattle.std.specs.List.Sorted.{IsStrictlySortedBy}
use Rattle.std.specs.Option.{option_and_then}
use Rattle.std.specs.declared.cmp.Ordering.{Ordering}
use Rattle.std.specs.declared.cmp.Ordering.TheVariants.{Less, Equal, Greater}
use Rattle.std.specs.Ordering.{nat_cmp, bool_cmp, ordering_then}
use Rattle.std.proofs.lemmas.Bool.Decides.{nat_tests}
use Rattle.lgm_check.specs.declared.row.ChannelRow.{ChannelRow}
use Rattle.lgm_check.specs.declared.row.UpdateRow.{UpdateRow}
use Rattle.lgm_store.specs.Rows.{is_second, by_id, by_direction, update_of}
use Rattle.lgm_store.proofs.ListLaws.{All-to}
use Rattle.lgm_store.specs.inner.SameKeys.{same_id}
use Rattle.lgm_graph.specs.Edges.{PointEdge, edge_on, edge_in}
use Rattle.lgm_graph.specs.inner.Walk.{edges_of_channel}
use Rattle.lgm_graph.proofs.KeptEdgeLaws.{less_lt, eqb_self, none_above}

abbrev id_of : UpdateRow → ℕ
id_of row = row.message.short_channel_id

abbrev name_of : ChannelRow → ℕ
name_of channel = channel.message.short_channel_id

not_eqb : (a b : ℕ) → a ≢ b → eqb a b ≡ false
not_eqb a b ne = grind (arith, nat_tests)

-- an update below another is of a lesser channel, or of the first direction of one channel
below : (row other : UpdateRow) → by_direction row other ≡ Less → (id_of row < id_of other)
    ⊎ ((id_of row ≡ id_of other) × (is_second row ≡ false) × (is_second other ≡ true))
below row other e = by (nat_cmp (id_of row) (id_of other)) refl e
  where
    second : (a b : Bool) → bool_cmp a b ≡ Less → (a ≡ false) × (b ≡ true)
    second false true e = (refl, refl)
    second false false e = absurd cc
    second true false e = absurd cc
    second true true e = absurd cc

    by : (o : Ordering) → nat_cmp (id_of row) (id_of other) ≡ o → ordering_then o (bool_cmp (is_second row) (is_second other)) ≡ Less
        → (id_of row < id_of other) ⊎ ((id_of row ≡ id_of other) × (is_second row ≡ false) × (is_second other ≡ true))
    by Less is e = inl (less_lt (id_of row) (id_of other) is)
    by Equal is e = let both = second (is_second row) (is_second other) e in inr (same_id (id_of row) (id_of other) is, both.0, both.1)
    by Greater is e = absurd cc

-- whether an update is of an id and a direction
abbrev is_of : ℕ → Bool → UpdateRow → Bool
is_of id second row = eqb (id_of row) id && beq (is_second row) second

find_none : (id : ℕ) (second : Bool) (updates : List UpdateRow)
    → AllByRecursion (λ row. is_of id second row ≡ false) updates → update_of updates id second ≡ None
find_none id second [] all = refl
find_none id second (row ∷ rows) all = rw all.0 (find_none id second rows all.1)

other_id : (id : ℕ) (second : Bool) (row : UpdateRow) → id_of row ≢ id → is_of id second row ≡ false
other_id id second row ne = rw (not_eqb (id_of row) id ne) refl

module _ (row : UpdateRow) (rows : List UpdateRow) (first : AllByRecursion (λ other. by_direction row other ≡ Less) rows) where
  -- no other update of its direction, and none of the first one with the second
  own_none : update_of rows (id_of row) (is_second row) ≡ None
  own_none = find_none (id_of row) (is_second row) rows (All-to _ _ rows (λ other less. by other (below row other less)) first)
    where
      apart : (a b : Bool) → a ≡ false → b ≡ true → beq b a ≡ false
      apart false true e f = refl
      apart true b e f = absurd cc
      apart false false e f = absurd cc

      by : (other : UpdateRow) → (id_of row < id_of other)
          ⊎ ((id_of row ≡ id_of other) × (is_second row ≡ false) × (is_second other ≡ true))
          → is_of (id_of row) (is_second row) other ≡ false
      by other (inl lt) = other_id (id_of row) (is_second row) other (λ e. omega (arith, lt, e))
      by other (inr same) = rw (eqb_self (id_of other) (id_of row) (sym same.0)) (apart (is_second row) (is_second other) same.1 same.2)

  first_none : is_second row ≡ true → update_of rows (id_of row) false ≡ None
  first_none is = find_none (id_of row) false rows (All-to _ _ rows (λ other less. by other (below row other less)) first)
    where
      by : (other : UpdateRow) → (id_of row < id_of other) ⊎ ((id_of row ≡ id_of other)
          × (is_second row ≡ false) × (is_second other ≡ true)) → is_of (id_of row) false other ≡ false
      by other (inl lt) = other_id (id_of row) false other (λ e. omega (arith, lt, e))
      by other (inr same) = absurd (true≢false (sym is ∙ same.1))

  lesser_none : (id : ℕ) (second : Bool) → id < id_of row → update_of rows id second ≡ None
  lesser_none id second lt = find_none id second rows (All-to _ _ rows (λ other less. by other (below row other less)) first)
    where
      by : (other : UpdateRow) → (id_of row < id_of other) ⊎ ((id_of row ≡ id_of other)
          × (is_second row ≡ false) × (is_second other ≡ true)) → is_of id second other ≡ false
      by other (inl more) = other_id id second other (λ e. omega (arith, lt, more, e))
      by other (inr same) = other_id id second other (λ e. omega (arith, lt, same.0, e))

  -- another channel has the same edges
  other_channel : (channel : ChannelRow) → id_of row ≢ name_of channel → edges_of_channel (row ∷ rows) channel ≡ edges_of_channel rows channel
  other_channel channel ne = rw (not_eqb (id_of row) (name_of channel) ne) refl

  other_channels : (channels : List ChannelRow) → AllByRecursion (λ channel. id_of row < name_of channel)
      channels → flat_map (edges_of_channel (row ∷ rows)) channels ≡ flat_map (edges_of_channel rows) channels
  other_channels [] all = refl
  other_channels (channel ∷ channels) all =
      rw (other_channels channels all.1) (ap (λ l. l ++ flat_map (edges_of_channel rows) channels)
      (other_channel channel (λ e. let lt = all.0 in omega (arith, lt, e))))

  -- its own channel has one more edge, in front
  own_channel : (channel : ChannelRow) → id_of row ≡ name_of channel → edges_of_channel (row ∷ rows) channel
      ≡ cons_option (edge_on channel row) (edges_of_channel rows channel)
  own_channel channel same = by (is_second row) refl (edge_on channel row) refl
    where
      none : update_of rows (name_of channel) (is_second row) ≡ None
      none = ap (λ id. update_of rows id (is_second row)) (sym same) ∙ own_none

      gone : is_second row ≡ true → update_of rows (name_of channel) false ≡ None
      gone b = ap (λ id. update_of rows id false) (sym same) ∙ first_none b

      by : (b : Bool) → is_second row ≡ b → (o : Option PointEdge) → edge_on channel row ≡ o → edges_of_channel
          (row ∷ rows) channel ≡ cons_option (edge_on channel row) (edges_of_channel rows channel)
      by false b None is = rw (eqb_self (id_of row) (name_of channel) same, b, is, ap (update_of rows (name_of channel)) (sym b) ∙ none) refl
      by false b (Some edge) is = rw (eqb_self (id_of row) (name_of channel) same, b, is, ap (update_of rows (name_of channel)) (sym b) ∙ none) refl
      by true b None is = rw (eqb_self (id_of row) (name_of channel) same, b, is, gone b, ap (update_of rows (name_of channel)) (sym b) ∙ none) refl
      by true b (Some edge) is =
          rw (
            eqb_self (id_of row) (name_of channel) same,
            b,
            is,
            gone b,
            ap (update_of rows (name_of channel)) (sym b) ∙ none,
          ) refl

joined : (o : Option PointEdge) (xs ys : List PointEdge) → cons_option o xs ++ ys ≡ cons_option o (xs ++ ys)
joined None xs ys = refl
joined (Some e) xs ys = refl

-- one more update in front adds its edge in front
front : (row : UpdateRow) (rows : List UpdateRow) → AllByRecursion (λ other. by_direction row other
    ≡ Less) rows → (channels : List ChannelRow) → IsStrictlySortedBy by_id channels
    → flat_map (edges_of_channel (row ∷ rows)) channels ≡ cons_option (edge_in channels row) (flat_map (edges_of_channel rows) channels)
unfolding IsStrictlySortedBy
front row rows first [] sorted = refl
front row rows first (channel ∷ channels) sorted = by (front row rows first channels sorted.1) (nat_cmp (id_of row) (name_of channel)) refl
  where
    above : AllByRecursion (λ other. name_of channel < name_of other) channels
    above = All-to _ _ channels (λ other less. less_lt (name_of channel) (name_of other) less) sorted.0

    by : flat_map (edges_of_channel (row ∷ rows)) channels ≡ cons_option (edge_in channels row) (flat_map (edges_of_channel rows) channels)
        → (o : Ordering) → nat_cmp (id_of row) (name_of channel) ≡ o
        → edges_of_channel (row ∷ rows) channel ++ flat_map (edges_of_channel (row ∷ rows)) channels
        ≡ cons_option (edge_in (channel ∷ channels) row) (edges_of_channel rows channel ++ flat_map (edges_of_channel rows) channels)
    by others Less is =
        let lt = less_lt (id_of row) (name_of channel) is in
        let all : AllByRecursion (λ other. id_of row < name_of other) (channel ∷ channels) =
        (lt, All-to _ _ channels (λ other more. omega (arith, lt, more)) above) in
        other_channels row rows first (channel ∷ channels) all
        ∙ sym (ap (λ (o : Option ChannelRow). cons_option (option_and_then (λ c. edge_on c row) o)
        (edges_of_channel rows channel ++ flat_map (edges_of_channel rows) channels))
        (none_above (channel ∷ channels) (id_of row) all))
    by others Equal is =
        let same = same_id (id_of row) (name_of channel) is in
        let rest = other_channels row rows first channels (All-to _ _ channels (λ other more. omega (arith, same, more)) above) in
        rw (own_channel row rows first channel same, rest, eqb_self (name_of channel) (id_of row) (sym same))
        (joined (edge_on channel row) (edges_of_channel rows channel)
        (flat_map (edges_of_channel rows) channels))
    by others Greater is =
        let gt : name_of channel < id_of row = grind (arith, nat_tests) in
        rw (
          other_channel row rows first channel (λ e. omega (arith, gt, e)),
          lesser_none row rows first (name_of channel) false gt,
          lesser_none row rows first (name_of channel) true gt,
          not_eqb (name_of channel) (id_of row) (λ e. omega (arith, gt, e)),
        ) others

pub by_channel : (updates : List UpdateRow) (channels : List ChannelRow) → IsStrictlySortedBy by_direction updates → IsStrictlySortedBy by_id channels
    → flat_map (edges_of_channel updates) channels ≡ filter_map (edge_in channels) updates
unfolding IsStrictlySortedBy
by_channel [] channels updates ids = none channels
  where
    none : (channels : List ChannelRow) → flat_map (edges_of_channel []) channels ≡ []
    none [] = refl
    none (channel ∷ channels) = none channels
by_channel (row ∷ rows) channels updates ids =
    front row rows updates.0 channels ids
    ∙ ap (cons_option (edge_in channels row)) (by_channel rows channels updates.1 ids)
