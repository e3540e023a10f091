use Rattle.std.proofs.Common.{refl}
use Rattle.slab.specs.Slab.{with_value}
use Rattle.lgm_store.specs.Keys.{point_of}
use Rattle.lgm_store.proofs.KeyOrder.{by_node}
use Rattle.lgm_store.proofs.SlotNumberLaws.{IsPut, put-added, put-found, has-found}
use Rattle.lgm_store.proofs.node_table.SlotTable+Point+Shared+StoredNode.put.Goals as goal
use Rattle.lgm_store.proofs.node_table.SlotTable+Point+Shared+StoredNode.put.Goals.{In_default, After-drop-index_mut}

-- ---- under a new key

added : (c : In_default) → IsPut by_node point_of c.place.new.slots.slots c.place.new.numbers.entries c.args.self.now
    (point_of c.args.row) c.args.row
added c =
    put-added by_node point_of c.self.inside.slots c.place.new.slots c.self.inside.numbers.entries c.place.new.numbers.entries
    c.args.self.now (point_of c.args.row) c.args.row (rw c.in_default.is at c.in_ok-number.ensures.ok)
    c.self.invariant c.self.view_is refl

pub invariant_of-self-in_default : goal.invariant_of-self-in_default
invariant_of-self-in_default c = (added c).numbered

pub returns-in_default-clause-ok : goal.returns-in_default-clause-ok
returns-in_default-clause-ok c = (added c).view

pub returns-in_default-clause-ascend : goal.returns-in_default-clause-ascend
returns-in_default-clause-ascend c = (added c).sorted

-- ---- in place of another one

pub index_mut-requires : goal.index_mut-requires
index_mut-requires c =
    has-found by_node point_of c.self.inside.slots c.place.new.slots c.self.inside.numbers.entries c.place.new.numbers.entries
    (point_of c.args.row) c.args.row (c.in-Some.number, c.in-Some.row)
    (rw c.in-Some.is at c.in_ok-number.ensures.ok) c.self.invariant

written : (c : After-drop-index_mut) → IsPut by_node point_of (with_value c.place.new.slots c.in-Some.number c.in-Some.row).slots
    c.place.new.numbers.entries c.args.self.now (point_of c.args.row) c.args.row
written c =
    put-found by_node point_of c.self.inside.slots c.place.new.slots c.self.inside.numbers.entries c.place.new.numbers.entries
    c.args.self.now (point_of c.args.row) c.args.row (c.in-Some.number, c.in-Some.row)
    (rw c.in-Some.is at c.in_ok-number.ensures.ok)
    c.self.invariant c.self.view_is refl

pub invariant_of-self-2 : goal.invariant_of-self-2
invariant_of-self-2 c = (written c).numbered

pub returns-clause-ok : goal.returns-clause-ok
returns-clause-ok c = (written c).view

pub returns-clause-ascend : goal.returns-clause-ascend
returns-clause-ascend c = (written c).sorted
