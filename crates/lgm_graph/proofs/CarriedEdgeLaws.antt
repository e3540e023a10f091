-- The edges of rows, as an update changes them.
use Rattle.std.proofs.Common.{◌≡◌, ◌≢◌, ◌⊎◌, Bool, true, false, cond, not, List, [], ◌∷◌, ◌++◌, append_assoc}
use Rattle.std.proofs.Common.{refl, sym, ap, ◌∙◌, inl, inr, Option, Some, None, option_to_list}
use Rattle.std.specs.Cmp.{IsTotalOrder}
use Rattle.std.specs.List.{AllByRecursion, filter, filter_map, cons_option}
use Rattle.std.specs.List.Sorted.{IsStrictlySortedBy}
use Rattle.std.specs.Option.{option_and_then}
use Rattle.std.specs.declared.cmp.Ordering.{Ordering}
use Rattle.std.specs.declared.cmp.Ordering.TheVariants.{Less, Equal, Greater}
use Rattle.std.specs.Ordering.{is_lt, is_gt}
use Rattle.std.proofs.lemmas.List.Elements.{filter-append, filter_map-append}
use Rattle.std.proofs.lemmas.Cmp.{on_total}
use Rattle.std.proofs.lemmas.List.{append-nil}
use Rattle.lgm_check.specs.declared.row.ChannelRow.{ChannelRow}
use Rattle.lgm_check.specs.declared.row.UpdateRow.{UpdateRow}
use Rattle.lgm_store.specs.Rows.{is_second, put, by_direction, channel_of}
use Rattle.lgm_store.specs.Keys.{direction_of}
use Rattle.lgm_store.proofs.ListLaws.{All-filter, All-to, filter-swap}
use Rattle.lgm_store.proofs.Lists.{direction_total}
use Rattle.lgm_graph.specs.Edges.{PointEdge, can_carry, edge_of, edge_on, edge_in, end_of}
use Rattle.lgm_graph.proofs.Cuts.{none_below, all_above}
use Rattle.lgm_graph.specs.inner.Lists.{to_key, IsCut, put_at}

-- ---- lists

module _ {X Y : Type 0} (g : X → Option Y) where
  -- a test before, and the same test after
  pub filter_map-filter : (p : X → Bool) (q : Y → Bool) → ((x : X) (y : Y) → g x ≡ Some y → q y ≡ p x) → (xs : List X)
      → filter_map g (filter p xs) ≡ filter q (filter_map g xs)
  filter_map-filter p q same [] = refl
  filter_map-filter p q same (x ∷ xs) = by (filter_map-filter p q same xs) (g x) refl (p x) refl
    where
      by : filter_map g (filter p xs) ≡ filter q (filter_map g xs) → (o : Option Y) → g x ≡ o → (b : Bool) → p x ≡ b
          → filter_map g (cond (p x) (x ∷ filter p xs) (filter p xs)) ≡ filter q (cons_option (g x) (filter_map g xs))
      by others None is true test = rw (test, is) others
      by others None is false test = rw (test, is) others
      by others (Some y) is true test = rw (test, is, same x y is ∙ test) (ap (λ l. y ∷ l) others)
      by others (Some y) is false test = rw (test, is, same x y is ∙ test) others

module _ {X : Type 0} (f : X → Ordering) where
  -- what is above the cut is in order
  cut_above : (xs : List X) → AllByRecursion (λ y. f y ≡ Greater) xs → IsCut f xs
  cut_above [] all = tt
  cut_above (x ∷ xs) all = inr ((λ e. let l : f x ≡ Less = e in let m : f x ≡ Greater = all.0 in absurd cc), all.1)

  -- what passes a test is in order too
  pub IsCut-filter : (p : X → Bool) (xs : List X) → IsCut f xs → IsCut f (filter p xs)
  IsCut-filter p [] cut = tt
  IsCut-filter p (x ∷ xs) cut = by (IsCut-filter p xs) (p x) refl cut
    where
      by : (IsCut f xs → IsCut f (filter p xs)) → (b : Bool) → p x ≡ b
          → ((f x ≡ Less) × IsCut f xs) ⊎ ((f x ≢ Less) × AllByRecursion (λ y. f y ≡ Greater) xs)
          → IsCut f (cond (p x) (x ∷ filter p xs) (filter p xs))
      by others true is (inl below) = rw is (inl (below.0, others below.1))
      by others true is (inr above) = rw is (inr (above.0, All-filter (λ y. f y ≡ Greater) p xs above.1))
      by others false is (inl below) = rw is (others below.1)
      by others false is (inr above) = rw is (cut_above (filter p xs) (All-filter (λ y. f y ≡ Greater) p xs above.1))

  parts_whole : (xs : List X) → IsCut f xs → AllByRecursion (λ x. f x ≢ Equal) xs → filter (λ x. is_lt (f x)) xs ++ filter (λ x. is_gt (f x)) xs ≡ xs
  parts_whole [] cut other = refl
  parts_whole (x ∷ xs) (inl below) other = let l : f x ≡ Less = below.0 in rw l (ap (λ l. x ∷ l) (parts_whole xs below.1 other.1))
  parts_whole (x ∷ xs) (inr above) other = by (f x) refl
    where
      by : (o : Ordering) → f x ≡ o → filter (λ x. is_lt (f x)) (x ∷ xs) ++ filter (λ x. is_gt (f x)) (x ∷ xs) ≡ x ∷ xs
      by Less e = absurd (above.0 e)
      by Equal e = absurd (other.0 e)
      by Greater e = rw (e, none_below f xs above.1, all_above f xs above.1) refl

  -- no element is at the cut, so nothing is removed
  pub put_at-none : (xs : List X) → IsCut f xs → AllByRecursion (λ x. f x ≢ Equal) xs → put_at f xs None ≡ xs
  put_at-none xs cut other = rw (append-nil (filter (λ x. is_lt (f x)) xs)) (parts_whole xs cut other)

module _ {X Y : Type 0} (g : X → Option Y) (f : X → Ordering) (h : Y → Ordering) (same : (x : X) (y : Y) → g x ≡ Some y → h y ≡ f x) where
  all_through : (ys : List X) → AllByRecursion (λ y. f y ≡ Greater) ys → AllByRecursion (λ y. h y ≡ Greater) (filter_map g ys)
  all_through [] all = tt
  all_through (y ∷ ys) all = by (all_through ys all.1) (g y) refl
    where
      by : AllByRecursion (λ y. h y ≡ Greater) (filter_map g ys) → (o : Option Y) → g y ≡ o
          → AllByRecursion (λ z. h z ≡ Greater) (cons_option (g y) (filter_map g ys))
      by others None is = rw is others
      by others (Some z) is = rw is (same y z is ∙ all.0, others)

  -- the comparisons along the list, through the map
  IsCut-filter_map : (xs : List X) → IsCut f xs → IsCut h (filter_map g xs)
  IsCut-filter_map [] cut = tt
  IsCut-filter_map (x ∷ xs) cut = by (IsCut-filter_map xs) (g x) refl cut
    where
      by : (IsCut f xs → IsCut h (filter_map g xs)) → (o : Option Y) → g x ≡ o
          → ((f x ≡ Less) × IsCut f xs) ⊎ ((f x ≢ Less) × AllByRecursion (λ y. f y ≡ Greater) xs)
          → IsCut h (cons_option (g x) (filter_map g xs))
      by others None is (inl below) = rw is (others below.1)
      by others None is (inr above) = rw is (cut_above h (filter_map g xs) (all_through xs above.1))
      by others (Some y) is (inl below) = rw is (inl (same x y is ∙ below.0, others below.1))
      by others (Some y) is (inr above) = rw is (inr ((λ e. above.0 (sym (same x y is) ∙ e)), all_through xs above.1))

  -- the map of an edit
  filter_map-put : (xs : List X) (x : X)
      → filter_map g (filter (λ o. is_lt (f o)) xs ++ x ∷ filter (λ o. is_gt (f o)) xs) ≡ put_at h (filter_map g xs) (g x)
  filter_map-put xs x =
      filter_map-append g (filter (λ o. is_lt (f o)) xs) (x ∷ filter (λ o. is_gt (f o)) xs)
      ∙ rw (
        filter_map-filter g (λ o. is_lt (f o)) (λ y. is_lt (h y)) (λ u y is. ap is_lt (same u y is)) xs,
        filter_map-filter g (λ o. is_gt (f o)) (λ y. is_gt (h y)) (λ u y is. ap is_gt (same u y is)) xs,
      ) (by (g x))
    where
      by : (o : Option Y) → filter (λ y. is_lt (h y)) (filter_map g xs)
          ++ cons_option o (filter (λ y. is_gt (h y)) (filter_map g xs)) ≡ put_at h (filter_map g xs) o
      by None = sym (ap (λ l. l ++ filter (λ y. is_gt (h y)) (filter_map g xs)) (append-nil (filter (λ y. is_lt (h y)) (filter_map g xs))))
      by (Some y) = sym (append_assoc (filter (λ y. is_lt (h y)) (filter_map g xs)) (y ∷ []) (filter (λ y. is_gt (h y)) (filter_map g xs)))

-- an option, if it passes
abbrev pub option_filter : {X : Type 0} → (X → Bool) → Option X → Option X
option_filter p None = None
option_filter p (Some x) = cond (p x) (Some x) None

module _ {X : Type 0} (f : X → Ordering) (p : X → Bool) where
  -- a test of an edit
  pub filter-put : (xs : List X) (o : Option X) → filter p (put_at f xs o) ≡ put_at f (filter p xs) (option_filter p o)
  filter-put xs o =
      filter-append p (filter (λ x. is_lt (f x)) xs ++ option_to_list o) (filter (λ x. is_gt (f x)) xs)
      ∙ rw (
        filter-append p (filter (λ x. is_lt (f x)) xs) (option_to_list o),
        filter-swap p (λ x. is_lt (f x)) xs,
        filter-swap p (λ x. is_gt (f x)) xs,
        one o,
      ) refl
    where
      one : (o : Option X) → filter p (option_to_list o) ≡ option_to_list (option_filter p o)
      one None = refl
      one (Some x) = by (p x) refl
        where
          by : (b : Bool) → p x ≡ b → cond (p x) (x ∷ []) [] ≡ option_to_list (cond (p x) (Some x) None)
          by true e = rw e refl
          by false e = rw e refl

-- along a sorted list the comparisons with one element are cut
cut_sorted : {X : Type 0} (c : X → X → Ordering) → IsTotalOrder c → (k : X) (xs : List X) → IsStrictlySortedBy c xs → IsCut (λ x. c x k) xs
unfolding IsStrictlySortedBy
cut_sorted c total k [] sorted = tt
cut_sorted c total k (x ∷ xs) sorted = by (cut_sorted c total k xs sorted.1) (c x k) refl
  where
    above : (o : Ordering) → c x k ≡ o → o ≢ Less → (y : _) → c x y ≡ Less → c y k ≡ Greater
    above Less e never y less = absurd (never refl)
    above Equal e never y less = let turned : c k y ≡ Less = sym (total.congr x k y e) ∙ less in total.antisymm y k ∙ rw turned refl
    above Greater e never y less =
        let first : c k x ≡ Less = total.antisymm k x ∙ rw e refl in total.antisymm y k ∙ rw (total.trans k x y first less) refl

    by : IsCut (λ x. c x k) xs → (o : Ordering) → c x k ≡ o → IsCut (λ x. c x k) (x ∷ xs)
    by others Less e = inl (e, others)
    by others Equal e = inr ((λ l. let m : c x k ≡ Less = l in absurd cc), All-to _ _ xs (above Equal e (λ never. absurd cc)) sorted.0)
    by others Greater e = inr ((λ l. let m : c x k ≡ Less = l in absurd cc), All-to _ _ xs (above Greater e (λ never. absurd cc)) sorted.0)

-- ---- edges of rows

-- the edge leads from its direction's node of the channel to the other
pub record IsOfChannel (channels : List ChannelRow) (edge : PointEdge) : Type 0 where
  pub channel : ChannelRow
  pub stored : channel_of channels edge.scid ≡ Some channel
  pub from : edge.from ≡ end_of channel edge.second
  pub to : edge.to ≡ end_of channel (not edge.second)

pub edge_on-is : (channel : ChannelRow) (row : UpdateRow) (edge : PointEdge) → edge_on channel row ≡ Some edge → edge ≡ edge_of channel row
edge_on-is channel row edge is = by (can_carry channel row) refl is
  where
    by : (b : Bool) → can_carry channel row ≡ b → edge_on channel row ≡ Some edge → edge ≡ edge_of channel row
    by true e is = let h : Some (edge_of channel row) ≡ Some edge = rw e at is in cc
    by false e is = let h : None ≡ Some edge = rw e at is in absurd cc

-- the channel that an update's edge is of
pub edge_in-some : (channels : List ChannelRow) (row : UpdateRow) (edge : PointEdge) → edge_in channels row ≡ Some edge
    → (channel : ChannelRow) × (channel_of channels row.message.short_channel_id ≡ Some channel) × (edge ≡ edge_of channel row)
edge_in-some channels row edge is = by (channel_of channels row.message.short_channel_id) refl is
  where
    by : (o : Option ChannelRow) → channel_of channels row.message.short_channel_id ≡ o
        → option_and_then (λ channel. edge_on channel row) o ≡ Some edge
        → (channel : ChannelRow) × (channel_of channels row.message.short_channel_id ≡ Some channel) × (edge ≡ edge_of channel row)
    by None e is = absurd cc
    by (Some channel) e is = (channel, e, edge_on-is channel row edge is)

-- an edge has its update's order
same_key : (channels : List ChannelRow) (row other : UpdateRow) (edge : PointEdge) → edge_in channels other ≡ Some edge
    → to_key row.message.short_channel_id (is_second row) edge ≡ by_direction other row
unfolding edge_of
same_key channels row other edge is = let found = edge_in-some channels other edge is in rw (found.2) refl

pub of_channel : (channels : List ChannelRow) (row : UpdateRow) (edge : PointEdge) → edge_in channels row ≡ Some edge → IsOfChannel channels edge
unfolding edge_of
of_channel channels row edge is =
    let found = edge_in-some channels row edge is in
    rw (found.2) (record { channel = found.0; stored = found.1; from = refl; to = refl })

-- each edge is a direction of a channel in the map
pub carrying_of : (channels : List ChannelRow) (updates : List UpdateRow)
    → AllByRecursion (IsOfChannel channels) (filter_map (edge_in channels) updates)
carrying_of channels [] = tt
carrying_of channels (row ∷ rows) = by (carrying_of channels rows) (edge_in channels row) refl
  where
    by : AllByRecursion (IsOfChannel channels) (filter_map (edge_in channels) rows) → (o : Option PointEdge) → edge_in channels row ≡ o
        → AllByRecursion (IsOfChannel channels) (cons_option (edge_in channels row) (filter_map (edge_in channels) rows))
    by others None e = rw e others
    by others (Some edge) e = rw e (of_channel channels row edge e, others)

-- the edges are in order
pub carrying_cut : (channels : List ChannelRow) (updates : List UpdateRow) (row : UpdateRow) → IsStrictlySortedBy by_direction updates
    → IsCut (to_key row.message.short_channel_id (is_second row)) (filter_map (edge_in channels) updates)
carrying_cut channels updates row sorted =
    IsCut-filter_map (edge_in channels) (λ other. by_direction other row)
    (to_key row.message.short_channel_id (is_second row)) (λ other edge. same_key channels row other edge)
    updates (cut_sorted by_direction (on_total direction_of direction_total) row updates sorted)

-- the edges after an update is inserted
pub carrying_put : (channels : List ChannelRow) (updates : List UpdateRow) (row : UpdateRow)
    → filter_map (edge_in channels) (put by_direction updates row)
    ≡ put_at (to_key row.message.short_channel_id (is_second row)) (filter_map (edge_in channels) updates) (edge_in channels row)
carrying_put channels updates row =
    filter_map-put (edge_in channels) (λ other. by_direction other row) (to_key row.message.short_channel_id
    (is_second row)) (λ other edge. same_key channels row other edge) updates row
