use Rattle.std.proofs.Common.{◌≡◌, ℕ, List, Some, None, refl, sym, ap, ◌∙◌}
use Rattle.std.proofs.lemmas.Result.{on_ok_weaker, on_err_weaker}
use Rattle.std.specs.Map.{lookup, set_value}
use Rattle.std.specs.BTreeMap.{is_at}
use Rattle.std.specs.Ordering.{nat_cmp}
use Rattle.slab.specs.Slab.{with_value}
use Rattle.lgm_store.specs.inner.ChannelTable.{id_in}
use Rattle.lgm_store.specs.declared.channel_info.ChannelInfo.{ChannelInfo}
use Rattle.lgm_store.specs.inner.Slots.{entries_in}
use Rattle.lgm_store.specs.Keys.{id_of}
use Rattle.lgm_store.proofs.KeyOrder.{by_id}
use Rattle.lgm_store.proofs.ChannelWithUpdates.{set_value-same}
use Rattle.lgm_store.proofs.StoredUpdateLaws.{put-is}
use Rattle.lgm_store.proofs.SlotNumberLaws.{numbered-put, entries-put, found-stored, found-none, has-slot}
use Rattle.lgm_store.proofs.channel_table.SlotTable+Scid+ChannelInfo.offer_update.Goals as goal
use Rattle.lgm_store.proofs.channel_table.SlotTable+Scid+ChannelInfo.offer_update.Goals.{After-self-1}

pub returns-in_default-clause-admission : goal.returns-in_default-clause-admission
returns-in_default-clause-admission c =
    let none =
    found-none by_id id_in c.self.inside.slots.slots c.self.inside.numbers.entries c.args.self.now c.scid-scid.result
    c.self.invariant.own c.self.view_is (sym c.in_default.ensures) in
    let none' : lookup (is_at (nat_cmp c.args.row.now.message.short_channel_id)) c.args.self.now ≡ None =
    rw (c.scid-scid.ensures ∙ ap (λ row. row.message.short_channel_id) c.get.ensures) at none in
    rw none' refl

pub index_mut-stored-requires : goal.index_mut-stored-requires
index_mut-stored-requires c =
    has-slot by_id id_in c.self.inside.slots.slots c.self.inside.numbers.entries c.scid-scid.result c.in-Some.number c.self.invariant.own (sym c.in-Some.ensures)

own_id : (c : After-self-1) → c.scid-scid.result ≡ c.args.row.now.message.short_channel_id
own_id c = c.scid-scid.ensures ∙ ap (λ row. row.message.short_channel_id) c.get.ensures

found : (c : After-self-1) → lookup (is_at (nat_cmp c.scid-scid.result)) c.args.self.now ≡ Some c.index_mut-stored.result.now
found c =
    found-stored by_id id_in c.self.inside.slots.slots c.self.inside.numbers.entries c.args.self.now c.scid-scid.result
    c.in-Some.number c.index_mut-stored.result.now c.self.invariant.own c.self.view_is
    (sym c.in-Some.ensures) c.index_mut-stored.ensures.value

-- the channels with the changed one in its slot
left : (c : After-self-1) → entries_in (with_value c.self.inside.slots c.in-Some.number c.offer_update.new.self).slots c.self.inside.numbers.entries
    ≡ set_value (is_at (nat_cmp c.scid-scid.result)) c.args.self.now c.offer_update.new.self
left c =
    entries-put by_id id_in c.self.inside.slots c.self.inside.numbers.entries c.in-Some.number c.index_mut-stored.result.now
    c.offer_update.new.self c.self.invariant c.index_mut-stored.ensures.value
    (ap id_of c.offer_update.ensures.channel) c.scid-scid.result (sym c.in-Some.ensures)
    ∙ ap (λ (es : List (ℕ × ChannelInfo)). set_value (is_at (nat_cmp c.scid-scid.result)) es c.offer_update.new.self) c.self.view_is

pub invariant_of-self : goal.invariant_of-self
invariant_of-self c =
    numbered-put by_id id_in c.self.inside.slots c.self.inside.numbers.entries c.in-Some.number
    c.index_mut-stored.result.now c.offer_update.new.self c.self.invariant c.index_mut-stored.ensures.value
    (ap id_of c.offer_update.ensures.channel)

pub returns-clause-admission : goal.returns-clause-admission
returns-clause-admission c =
    let here : lookup (is_at (nat_cmp c.args.row.now.message.short_channel_id)) c.args.self.now
    ≡ Some c.index_mut-stored.result.now =
    rw (own_id c) at (found c) in
    rw here c.offer_update.ensures.admission

pub returns-clause-accepted : goal.returns-clause-accepted
returns-clause-accepted c =
    on_ok_weaker c.offer_update.result
    (λ is. left c ∙ put-is c.args.self.now c.args.row.now c.scid-scid.result c.index_mut-stored.result.now
    c.offer_update.new.self (own_id c) (found c) is)
    c.offer_update.ensures.accepted

pub returns-clause-refused : goal.returns-clause-refused
returns-clause-refused c =
    on_err_weaker c.offer_update.result
    (λ same. left c ∙ ap (set_value (is_at (nat_cmp c.scid-scid.result)) c.args.self.now) same
    ∙ set_value-same (is_at (nat_cmp c.scid-scid.result)) c.args.self.now
    c.index_mut-stored.result.now (found c))
    c.offer_update.ensures.refused
