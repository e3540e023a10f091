-- Edges that stay when others are removed with their channels.
use Rattle.std.proofs.Common.{◌≡◌, ℕ, ◌<◌, eqb, Bool, true, false, cond, List, [], ◌∷◌}
use Rattle.std.proofs.Common.{map, refl, sym, ap, ◌∙◌, Option, Some, None, arith, true≢false}
use Rattle.std.specs.List.{AllByRecursion, filter, filter_map, cons_option}
use Rattle.std.specs.List.Sorted.{IsStrictlySortedBy}
use Rattle.std.specs.declared.cmp.Ordering.TheVariants.{Less}
use Rattle.std.specs.Ordering.{nat_cmp}
use Rattle.std.proofs.lemmas.Bool.Decides.{nat_tests}
use Rattle.std.proofs.lemmas.Bool.{eqb-true}
use Rattle.lgm_wire.specs.declared.point.Point.{Point}
use Rattle.lgm_check.specs.declared.row.ChannelRow.{ChannelRow}
use Rattle.lgm_store.specs.Rows.{is_point, by_id, channel_of}
use Rattle.lgm_graph.specs.Edges.{PointEdge}
use Rattle.lgm_graph.specs.declared.edge.Edge.{Edge}
use Rattle.lgm_graph.specs.Graph.{edges_with, numbered_in}
use Rattle.lgm_graph.proofs.ListedEdgeLaws.{passing, filter-map}
use Rattle.lgm_store.proofs.ListLaws.{All-to, filter-alike, filter-swap}

module _ {X Y : Type 0} where
  pub filter_map-agree : (g h : X → Option Y) (xs : List X) → AllByRecursion (λ x. g x ≡ h x) xs → filter_map g xs ≡ filter_map h xs
  filter_map-agree g h [] all = refl
  filter_map-agree g h (x ∷ xs) all = rw (all.0) (ap (λ l. cons_option (h x) l) (filter_map-agree g h xs all.1))

-- ---- channels by id

pub less_lt : (a b : ℕ) → nat_cmp a b ≡ Less → a < b
less_lt a b e = grind (arith, nat_tests)

pub eqb_self : (a b : ℕ) → a ≡ b → eqb a b ≡ true
eqb_self a b e = grind (arith, nat_tests)

eqb_other : (a b : ℕ) → a < b → eqb b a ≡ false
eqb_other a b lt = grind (arith, nat_tests)

abbrev name_of : ChannelRow → ℕ
name_of channel = channel.message.short_channel_id

pub none_above : (channels : List ChannelRow) (id : ℕ) → AllByRecursion (λ c. id < name_of c) channels → channel_of channels id ≡ None
none_above [] id all = refl
none_above (c ∷ cs) id all = rw (eqb_other id (name_of c) all.0) (none_above cs id all.1)

-- the channel of an id is one
pub one_channel : (channels : List ChannelRow) (id : ℕ) (channel : ChannelRow)
    → IsStrictlySortedBy by_id channels → channel_of channels id ≡ Some channel
    → AllByRecursion (λ c. name_of c ≡ id → c ≡ channel) channels
unfolding IsStrictlySortedBy
one_channel [] id channel sorted found = tt
one_channel (c ∷ cs) id channel sorted found = by (one_channel cs id channel sorted.1) (eqb (name_of c) id) refl found
  where
    by : (channel_of cs id ≡ Some channel → AllByRecursion (λ c. name_of c ≡ id → c ≡ channel) cs)
        → (b : Bool) → eqb (name_of c) id ≡ b
        → cond (eqb (name_of c) id) (Some c) (channel_of cs id) ≡ Some channel
        → (name_of c ≡ id → c ≡ channel) × AllByRecursion (λ c. name_of c ≡ id → c ≡ channel) cs
    by others true e found =
        let h : Some c ≡ Some channel = rw e at found in
        let own : c ≡ channel = cc in
        let same = eqb-true (name_of c) id e in (
          λ is. own,
          All-to (λ d. by_id c d ≡ Less) (λ d. name_of d ≡ id → d ≡ channel) cs (λ d less is. absurd
              (let lt = less_lt (name_of c) (name_of d) less in omega (arith, lt, is, same))) sorted.0,
        )
    by others false e found = (λ is. absurd (true≢false (sym (eqb_self (name_of c) id is) ∙ e)), others (rw e at found))

-- among those that pass, the channel of an id is the same if it passes
pub found_filter : (t : ChannelRow → Bool) (channels : List ChannelRow) (id : ℕ) → IsStrictlySortedBy by_id channels
    → (channel : ChannelRow) → channel_of channels id ≡ Some channel → channel_of (filter t channels) id ≡ cond (t channel) (Some channel) None
unfolding IsStrictlySortedBy
found_filter t [] id sorted channel found = absurd cc
found_filter t (c ∷ cs) id sorted channel found = by (found_filter t cs id sorted.1 channel) (eqb (name_of c) id) refl (t c) refl found
  where
    by : (channel_of cs id ≡ Some channel → channel_of (filter t cs) id
        ≡ cond (t channel) (Some channel) None) → (b : Bool) → eqb (name_of c) id ≡ b → (d : Bool) → t c ≡ d
        → cond (eqb (name_of c) id) (Some c) (channel_of cs id) ≡ Some channel
        → channel_of (cond (t c) (c ∷ filter t cs) (filter t cs)) id ≡ cond (t channel) (Some channel) None
    by others true e true f found =
        let h : Some c ≡ Some channel = rw e at found in
        let own : channel ≡ c = cc in
        rw (own, f, e) refl
    by others true e false f found =
        let h : Some c ≡ Some channel = rw e at found in
        let own : channel ≡ c = cc in
        let same = eqb-true (name_of c) id e in
        rw (own, f) (none_in cs (All-to (λ d. by_id c d ≡ Less) (λ d. id < name_of d) cs
        (λ d less. let lt = less_lt (name_of c) (name_of d) less in omega (arith, lt, same)) sorted.0))
      where
        none_in : (ds : List ChannelRow) → AllByRecursion (λ d. id < name_of d) ds → channel_of (filter t ds) id ≡ None
        none_in [] all = refl
        none_in (d ∷ ds) all = each (none_in ds all.1) (t d) refl
          where
            each : channel_of (filter t ds) id ≡ None → (b : Bool) → t d ≡ b → channel_of (cond (t d) (d ∷ filter t ds) (filter t ds)) id ≡ None
            each rest true g = rw (g, eqb_other id (name_of d) all.0) rest
            each rest false g = rw g rest
    by others false e true f found = rw (f, e) (others (rw e at found))
    by others false e false f found = rw f (others (rw e at found))

pub none_filter : (t : ChannelRow → Bool) (channels : List ChannelRow) (id : ℕ)
    → channel_of channels id ≡ None → channel_of (filter t channels) id ≡ None
none_filter t [] id none = refl
none_filter t (c ∷ cs) id none = by (none_filter t cs id) (eqb (name_of c) id) refl (t c) refl none
  where
    by : (channel_of cs id ≡ None → channel_of (filter t cs) id ≡ None) → (b : Bool) → eqb (name_of c) id ≡ b → (d : Bool) → t c ≡ d
        → cond (eqb (name_of c) id) (Some c) (channel_of cs id) ≡ None → channel_of (cond (t c) (c ∷ filter t cs) (filter t cs)) id ≡ None
    by others true e d f none = let h : Some c ≡ None = rw e at none in absurd cc
    by others false e true f none = rw (f, e) (others (rw e at none))
    by others false e false f none = rw f (others (rw e at none))

-- ---- the edges of those that stay

-- a test of edges by number that is one of those between points
pub edges_keep : (end : PointEdge → Point) (points : List Point) (keep : PointEdge → Bool) (test : Edge → Bool)
    (edges : List PointEdge) (q : Point) → AllByRecursion (λ e. test (numbered_in points e) ≡ keep e) edges
    → filter test (edges_with end points edges q) ≡ edges_with end points (filter keep edges) q
edges_keep end points keep test edges q same =
    filter-map (numbered_in points) test (filter (λ e. is_point q (end e)) edges)
    ∙ ap (map (numbered_in points)) (filter-alike (λ e. test (numbered_in points e)) keep (filter (λ e. is_point q (end e)) edges) (All_pass edges same)
    ∙ filter-swap keep (λ e. is_point q (end e)) edges)
  where
    All_pass : (es : List PointEdge) → AllByRecursion (λ e. test (numbered_in points e) ≡ keep e) es
        → AllByRecursion (λ e. test (numbered_in points e) ≡ keep e) (filter (λ e. is_point q (end e)) es)
    All_pass es all =
        All-to (λ e. (test (numbered_in points e) ≡ keep e) × (is_point q (end e) ≡ true))
        (λ e. test (numbered_in points e) ≡ keep e) (filter (λ e. is_point q (end e)) es) (λ e both. both.0)
        (passing (λ e. test (numbered_in points e) ≡ keep e) (λ e. is_point q (end e)) es all)
