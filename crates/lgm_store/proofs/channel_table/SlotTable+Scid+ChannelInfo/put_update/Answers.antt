use Rattle.std.proofs.Common.{◌≡◌, ℕ, List, None, refl, sym, ap, ◌∙◌}
use Rattle.std.specs.Map.{lookup, set_value}
use Rattle.std.specs.BTreeMap.{is_at}
use Rattle.std.specs.Ordering.{nat_cmp}
use Rattle.lgm_store.specs.declared.channel_info.ChannelInfo.{ChannelInfo}
use Rattle.lgm_store.specs.inner.ChannelEntries.{with_update_in}
use Rattle.lgm_store.specs.Rows.{is_second}
use Rattle.lgm_store.specs.inner.ChannelTable.{id_in}
use Rattle.lgm_store.specs.Keys.{id_of}
use Rattle.lgm_store.proofs.KeyOrder.{by_id}
use Rattle.lgm_store.proofs.ChannelMapLaws.{channel-with}
use Rattle.lgm_store.proofs.StoredUpdateLaws.{put-is}
use Rattle.lgm_store.proofs.SlotNumberLaws.{numbered-put, entries-put, found-stored, found-none, has-slot}
use Rattle.lgm_store.proofs.channel_table.SlotTable+Scid+ChannelInfo.put_update.Goals as goal
use Rattle.lgm_store.proofs.channel_table.SlotTable+Scid+ChannelInfo.put_update.Goals.{After-self-1}

pub returns-in_default : goal.returns-in_default
returns-in_default c =
    let id_is = c.scid-scid.ensures ∙ ap (λ row. row.message.short_channel_id) c.get.ensures in
    let none =
    found-none by_id id_in c.self.inside.slots.slots c.self.inside.numbers.entries c.args.self.now c.scid-scid.result
    c.self.invariant.own c.self.view_is (sym c.in_default.ensures) in
    let none' : lookup (is_at (nat_cmp c.args.row.message.short_channel_id)) c.args.self.now ≡ None = rw id_is at none in
    rw none' refl

pub index_mut-stored-requires : goal.index_mut-stored-requires
index_mut-stored-requires c =
    has-slot by_id id_in c.self.inside.slots.slots c.self.inside.numbers.entries c.scid-scid.result c.in-Some.number c.self.invariant.own (sym c.in-Some.ensures)

put_here : (c : After-self-1) → c.put_update.new.self ≡ with_update_in (is_second c.args.row) c.index_mut-stored.result.now c.args.row
put_here c =
    c.put_update.ensures ∙ ap (λ second. with_update_in second c.index_mut-stored.result.now c.args.row)
    (c.is_second-second.ensures ∙ ap is_second c.get-2.ensures)

same_id : (c : After-self-1) → id_in c.put_update.new.self ≡ id_in c.index_mut-stored.result.now
same_id c = ap id_of (ap (λ h. h.channel) (put_here c) ∙ channel-with (is_second c.args.row) c.index_mut-stored.result.now c.args.row)

pub invariant_of-self : goal.invariant_of-self
invariant_of-self c =
    numbered-put by_id id_in c.self.inside.slots c.self.inside.numbers.entries c.in-Some.number
    c.index_mut-stored.result.now c.put_update.new.self c.self.invariant
    c.index_mut-stored.ensures.value (same_id c)

pub returns : goal.returns
returns c =
    let found =
    found-stored by_id id_in c.self.inside.slots.slots c.self.inside.numbers.entries c.args.self.now c.scid-scid.result
    c.in-Some.number c.index_mut-stored.result.now c.self.invariant.own c.self.view_is
    (sym c.in-Some.ensures) c.index_mut-stored.ensures.value in
    entries-put by_id id_in c.self.inside.slots c.self.inside.numbers.entries c.in-Some.number c.index_mut-stored.result.now
    c.put_update.new.self c.self.invariant c.index_mut-stored.ensures.value (same_id c)
    c.scid-scid.result (sym c.in-Some.ensures)
    ∙ ap (λ (es : List (ℕ × ChannelInfo)). set_value (is_at (nat_cmp c.scid-scid.result)) es c.put_update.new.self) c.self.view_is
    ∙ put-is c.args.self.now c.args.row c.scid-scid.result c.index_mut-stored.result.now c.put_update.new.self
    (c.scid-scid.ensures ∙ ap (λ row. row.message.short_channel_id) c.get.ensures) found (put_here c)
