use Rattle.std.proofs.Common.{◌≡◌, ℕ, List, [], ◌∷◌, Option, Some, None, refl, sym, ap, ◌∙◌}
use Rattle.std.specs.Option.{option_map}
use Rattle.std.specs.Map.{values_of}
use Rattle.std.specs.Ordering.{nat_cmp}
use Rattle.std.specs.declared.ops.Bound.{Bound}
use Rattle.std.specs.declared.ops.Bound.TheVariants.{Unbounded}
use Rattle.std.specs.BTreeMap.Range.{range_contains, entries_between}
use Rattle.lgm_check.specs.declared.row.ChannelRow.{ChannelRow}
use Rattle.lgm_store.specs.declared.channel_info.ChannelInfo.{ChannelInfo}
use Rattle.lgm_store.specs.Keys.{IsKeyed, id_of}
use Rattle.lgm_store.specs.inner.ChannelEntries.{channel_entries}
use Rattle.lgm_store.specs.Reading.{next_channel_of}
use Rattle.lgm_store.specs.inner.Start.{start_after}
use Rattle.lgm_store.proofs.ChannelMapLaws.{first-filtered}
use Rattle.lgm_store.proofs.IterationLaws.{first_value, next_channel-between}
use Rattle.lgm_store.proofs.map.Opened.{opened}
use Rattle.lgm_store.proofs.map.Map.next_channel.Goals as goal

abbrev some_row : ChannelRow → Option ChannelRow
some_row row = Some row

abbrev first_channel : List ChannelInfo → Option ChannelRow
first_channel [] = None
first_channel (stored ∷ others) = Some stored.channel

first_of : (es : List (ℕ × ChannelInfo)) → first_channel (values_of es) ≡ option_map (λ stored. stored.channel) (first_value es)
first_of [] = refl
first_of (e ∷ es) = refl

next_is : (channels : List ChannelInfo) (start : Bound ℕ) (entries : List (ℕ × ChannelInfo)) (after : Option ℕ) (rows : List ChannelRow)
    → channels ≡ values_of (entries_between nat_cmp start Unbounded entries) → start ≡ start_after after
    → IsKeyed id_of (channel_entries entries) → values_of (channel_entries entries) ≡ rows
    → first_channel channels ≡ next_channel_of rows after
next_is channels start entries after rows is start_is keyed rows_are =
    ap first_channel (is ∙ ap (λ s. values_of (entries_between nat_cmp s Unbounded entries)) start_is)
    ∙ first_of (entries_between nat_cmp (start_after after) Unbounded entries)
    ∙ first-filtered (range_contains nat_cmp (start_after after) Unbounded) entries
    ∙ sym (next_channel-between (channel_entries entries) after keyed) ∙ ap (λ rs. next_channel_of rs after) rows_are

pub returns-in_err-stored : goal.returns-in_err-stored
returns-in_err-stored c =
    let parts = opened c.deref.ensures c.self.invariant c.self.view_is in
    c.from_residual.ensures ∙ ap first_channel (sym c.in_err-stored.ensures.steps.0)
    ∙ next_is c.range-channels.result c.start_after.result c.deref.result.now.channels c.args.after
    c.args.self.now.channels c.range-channels.ensures c.start_after.ensures
    parts.kept.rows.channels_keyed
    (ap (λ rows. rows.channels) parts.seen)

pub returns : goal.returns
returns c =
    let parts = opened c.deref.ensures c.self.invariant c.self.view_is in
    ap some_row c.row.ensures ∙ ap first_channel (sym c.in_ok-stored.ensures.steps)
    ∙ next_is c.range-channels.result c.start_after.result c.deref.result.now.channels c.args.after
    c.args.self.now.channels c.range-channels.ensures c.start_after.ensures
    parts.kept.rows.channels_keyed
    (ap (λ rows. rows.channels) parts.seen)
