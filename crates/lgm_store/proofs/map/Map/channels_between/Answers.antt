use Rattle.std.proofs.Common.{◌≡◌, ℕ, true, filter, ◌∙◌, ap}
use Rattle.std.specs.Map.{values_of}
use Rattle.std.specs.declared.ops.Bound.TheVariants.{Included}
use Rattle.std.specs.BTreeMap.Range.{range_contains}
use Rattle.std.specs.Ordering.{nat_cmp}
use Rattle.lgm_store.specs.Reading.{is_between}
use Rattle.lgm_store.specs.inner.ChannelTable.{id_in}
use Rattle.lgm_store.proofs.ChannelMapLaws.{ascend-stored}
use Rattle.lgm_store.proofs.ChannelWithUpdates.{values-stored_at, filter-past, filter-keyed}
use Rattle.lgm_store.proofs.IterationLaws.{forward, within, backward, never}
use Rattle.lgm_store.proofs.map.Opened.{opened}
use Rattle.lgm_store.proofs.map.Map.channels_between.Goals as goal
use Rattle.lgm_store.proofs.map.Map.channels_between.Goals.{then-from-to, else-from-to}

pub range-channels-requires : goal.range-channels-requires
range-channels-requires c =
    elim c.if-from-to.branch [
      | then-from-to w ↦ rw w.end-is (forward w.end_before-end.result c.start_of-start.result c.args.from
          c.args.to c.start_of-start.ensures.least w.if-from-to.true w.end_before-end.ensures)
      | else-from-to w ↦ rw w.end-is (backward c.start_of-start.result)
    ]

pub returns : goal.returns
returns c =
    let parts = opened c.deref.ensures c.self.invariant c.self.view_is in
    let sound = parts.kept.rows in
    let start = c.start_of-start.result in
    let ranged : (id : ℕ) → is_between id c.args.from c.args.to ≡ true → range_contains nat_cmp (Included start) c.if-from-to.end id ≡ true =
    λ id between. elim c.if-from-to.branch [
      | then-from-to w ↦ rw w.end-is (within w.end_before-end.result start c.args.from c.args.to id
          c.start_of-start.ensures.earlier w.end_before-end.ensures between)
      | else-from-to w ↦ absurd (never id c.args.from c.args.to w.if-from-to.false between)
    ] in
    c.new.ensures ∙ ap (filter (λ stored. is_between (id_in stored) c.args.from c.args.to)) c.range-channels.ensures
    ∙ filter-keyed (λ id. is_between id c.args.from c.args.to)
    (range_contains nat_cmp (Included start) c.if-from-to.end) c.deref.result.now.channels sound.channels_keyed
    ∙ ap values_of (filter-past (λ e. range_contains nat_cmp (Included start) c.if-from-to.end e.0)
    (λ e. is_between e.0 c.args.from c.args.to) c.deref.result.now.channels (λ e. ranged e.0))
    ∙ values-stored_at c.deref.result.now.channels c.args.self.now sound.channels_keyed sound.updates_keyed
    (ascend-stored c.deref.result.now.channels sound.channels_ascend) (ap (λ rows. rows.channels) parts.seen) (ap (λ rows. rows.updates) parts.seen)
    (λ id. is_between id c.args.from c.args.to)
