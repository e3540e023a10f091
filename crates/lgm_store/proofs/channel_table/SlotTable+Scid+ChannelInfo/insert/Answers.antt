use Rattle.std.proofs.Common.{refl}
use Rattle.lgm_store.specs.inner.ChannelTable.{id_in}
use Rattle.lgm_store.proofs.KeyOrder.{by_id}
use Rattle.lgm_store.proofs.SlotNumberLaws.{IsPut, put-added, found-none, found-held}
use Rattle.lgm_store.proofs.channel_table.SlotTable+Scid+ChannelInfo.insert.Goals as goal
use Rattle.lgm_store.proofs.channel_table.SlotTable+Scid+ChannelInfo.insert.Goals.{In_default}

put : (c : In_default) → IsPut by_id id_in c.place.new.slots.slots c.place.new.numbers.entries c.args.self.now (id_in c.args.stored) c.args.stored
put c =
    put-added by_id id_in c.self.inside.slots c.place.new.slots c.self.inside.numbers.entries c.place.new.numbers.entries
    c.args.self.now (id_in c.args.stored) c.args.stored (rw c.in_default.is at c.in_ok-placed.ensures.ok)
    c.self.invariant c.self.view_is refl

pub invariant_of-self-in_default : goal.invariant_of-self-in_default
invariant_of-self-in_default c = (put c).numbered

pub returns-in_default-clause-new : goal.returns-in_default-clause-new
returns-in_default-clause-new c = λ _.
    found-none by_id id_in c.self.inside.slots.slots c.self.inside.numbers.entries c.args.self.now (id_in c.args.stored)
    c.self.invariant.own c.self.view_is (rw c.in_default.is at c.in_ok-placed.ensures.ok).none

pub returns-in_default-clause-added : goal.returns-in_default-clause-added
returns-in_default-clause-added c = λ _. (put c).view

pub returns-in_default-clause-ascend : goal.returns-in_default-clause-ascend
returns-in_default-clause-ascend c = λ _. (put c).sorted

pub returns-clause-present : goal.returns-clause-present
returns-clause-present c = λ _.
    found-held by_id id_in c.self.inside.slots.slots c.self.inside.numbers.entries c.args.self.now (id_in c.args.stored)
    c.in-Some.field-0.0 c.self.invariant.own c.self.view_is (rw c.in-Some.is at c.in_ok-placed.ensures.ok).own
