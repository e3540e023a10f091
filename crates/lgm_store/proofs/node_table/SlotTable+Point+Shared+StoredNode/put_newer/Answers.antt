use Rattle.std.proofs.Common.{◌≡◌, ℕ, ◌<◌, ◌≤◌, true, false, Option, refl, ap, ◌∙◌, arith}
use Rattle.std.specs.Prelude.{nat_lt}
use Rattle.std.proofs.lemmas.Bool.Decides.{nat_tests}
use Rattle.slab.specs.Slab.{with_value}
use Rattle.lgm_check.specs.declared.row.NodeRow.{NodeRow}
use Rattle.lgm_store.specs.Keys.{point_cmp, point_of}
use Rattle.lgm_store.specs.Admission.{node_is_newer}
use Rattle.lgm_store.specs.inner.Slots.{IsAdded, IsFound}
use Rattle.lgm_store.proofs.KeyOrder.{by_node}
use Rattle.lgm_store.proofs.SlotNumberLaws.{IsPut, put-added, put-found, has-found, found-value, found-none}
use Rattle.lgm_store.proofs.node_table.SlotTable+Point+Shared+StoredNode.put_newer.Goals as goal
use Rattle.lgm_store.proofs.node_table.SlotTable+Point+Shared+StoredNode.put_newer.Goals.{In_default, After-drop-index_mut}

older : (a b : ℕ) → a ≤ b → nat_lt b a ≡ false
older a b le = grind (arith, nat_tests)

newer : (a b : ℕ) → b < a → nat_lt b a ≡ true
newer a b less = grind (arith, nat_tests)

-- ---- a new one

is_added : (c : In_default) → IsAdded point_cmp c.self.inside.slots c.place.new.slots c.self.inside.numbers.entries
    c.place.new.numbers.entries (point_of c.args.row.now) c.args.row.now
is_added c = rw (c.in_default.is, c.in_ok-share.ensures) at c.in_ok-number.ensures.ok

added : (c : In_default) → IsPut by_node point_of c.place.new.slots.slots c.place.new.numbers.entries c.args.self.now
    (point_of c.args.row.now) c.args.row.now
added c =
    put-added by_node point_of c.self.inside.slots c.place.new.slots c.self.inside.numbers.entries c.place.new.numbers.entries
    c.args.self.now (point_of c.args.row.now) c.args.row.now (is_added c) c.self.invariant c.self.view_is refl

pub invariant_of-self-in_default : goal.invariant_of-self-in_default
invariant_of-self-in_default c = (added c).numbered

pub returns-in_default-clause-newer : goal.returns-in_default-clause-newer
returns-in_default-clause-newer c = λ is_newer is.
    let none =
    found-none by_node point_of c.self.inside.slots.slots c.self.inside.numbers.entries c.args.self.now
    (point_of c.args.row.now) c.self.invariant.own c.self.view_is (is_added c).none in
    let told : true ≡ is_newer = cc in
    ap (λ (stored : Option NodeRow). node_is_newer stored c.args.row.now) none ∙ told

pub returns-in_default-clause-put : goal.returns-in_default-clause-put
returns-in_default-clause-put c = λ _. (added c).view

pub returns-in_default-clause-ascend : goal.returns-in_default-clause-ascend
returns-in_default-clause-ascend c = λ _. (added c).sorted

-- ---- beside another one

pub index-requires : goal.index-requires
index-requires c =
    has-found by_node point_of c.self.inside.slots c.place.new.slots c.self.inside.numbers.entries c.place.new.numbers.entries
    (point_of c.args.row.now) c.args.row.now (c.in-Some.number, c.in-Some.shared)
    (rw (c.in-Some.is, c.in_ok-share.ensures) at c.in_ok-number.ensures.ok) c.self.invariant

pub returns-then-timestamp-clause-newer : goal.returns-then-timestamp-clause-newer
returns-then-timestamp-clause-newer c = λ is_newer is.
    let found : IsFound point_cmp c.self.inside.slots c.place.new.slots c.self.inside.numbers.entries c.place.new.numbers.entries
    (point_of c.args.row.now) c.args.row.now (c.in-Some.number, c.in-Some.shared) =
    rw (c.in-Some.is, c.in_ok-share.ensures) at c.in_ok-number.ensures.ok in
    let stored =
    found-value by_node point_of c.self.inside.slots c.place.new.slots c.self.inside.numbers.entries c.place.new.numbers.entries
    c.args.self.now (point_of c.args.row.now) c.args.row.now c.index.result.now (c.in-Some.number, c.in-Some.shared) found
    c.self.invariant c.self.view_is c.index.ensures in
    let own_time = c.timestamp.ensures ∙ ap (λ row. row.message.timestamp) (c.get.ensures ∙ found.same_value) in
    let stored_time = c.timestamp-2.ensures ∙ ap (λ row. row.message.timestamp) c.get-2.ensures in
    let told : false ≡ is_newer = cc in
    ap (λ (stored : Option NodeRow). node_is_newer stored c.args.row.now) stored
    ∙ older _ _ (rw (own_time, stored_time) at c.if-timestamp.true) ∙ told

-- ---- in place of another one

written : (c : After-drop-index_mut) → IsPut by_node point_of (with_value c.place.new.slots c.in-Some.number c.in-Some.shared).slots
    c.place.new.numbers.entries c.args.self.now (point_of c.args.row.now) c.args.row.now
written c =
    put-found by_node point_of c.self.inside.slots c.place.new.slots c.self.inside.numbers.entries c.place.new.numbers.entries
    c.args.self.now (point_of c.args.row.now) c.args.row.now (c.in-Some.number, c.in-Some.shared)
    (rw (c.in-Some.is, c.in_ok-share.ensures) at c.in_ok-number.ensures.ok) c.self.invariant c.self.view_is refl

pub invariant_of-self-2 : goal.invariant_of-self-2
invariant_of-self-2 c = (written c).numbered

pub returns-clause-newer : goal.returns-clause-newer
returns-clause-newer c = λ is_newer is.
    let found : IsFound point_cmp c.self.inside.slots c.place.new.slots c.self.inside.numbers.entries c.place.new.numbers.entries
    (point_of c.args.row.now) c.args.row.now (c.in-Some.number, c.in-Some.shared) =
    rw (c.in-Some.is, c.in_ok-share.ensures) at c.in_ok-number.ensures.ok in
    let stored =
    found-value by_node point_of c.self.inside.slots c.place.new.slots c.self.inside.numbers.entries c.place.new.numbers.entries
    c.args.self.now (point_of c.args.row.now) c.args.row.now c.index.result.now (c.in-Some.number, c.in-Some.shared) found
    c.self.invariant c.self.view_is c.index.ensures in
    let own_time = c.timestamp.ensures ∙ ap (λ row. row.message.timestamp) (c.get.ensures ∙ found.same_value) in
    let stored_time = c.timestamp-2.ensures ∙ ap (λ row. row.message.timestamp) c.get-2.ensures in
    let told : true ≡ is_newer = cc in
    ap (λ (stored : Option NodeRow). node_is_newer stored c.args.row.now) stored
    ∙ newer _ _ (rw (own_time, stored_time) at c.if-timestamp.false) ∙ told

pub returns-clause-put : goal.returns-clause-put
returns-clause-put c = λ _. (written c).view

pub returns-clause-ascend : goal.returns-clause-ascend
returns-clause-ascend c = λ _. (written c).sorted
