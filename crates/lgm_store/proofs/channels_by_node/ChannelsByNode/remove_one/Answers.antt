use Rattle.std.proofs.Common.{◌≡◌, ℕ, true, false, List, [], ◌∷◌, Some, length, refl, ap, sym, ◌∙◌, arith}
use Rattle.std.proofs.lemmas.Bool.Decides.{nat_tests}
use Rattle.std.specs.Prelude.{◌==◌}
use Rattle.std.specs.Map.{keys_of}
use Rattle.std.proofs.Common.{inl}
use Rattle.indexmap.proofs.CallerLemmas.{keys-with_value_at}
use Rattle.lgm_store.specs.inner.ChannelsByNode.{list_at, without_id, kept, Sets, MovesLastAlone}
use Rattle.lgm_store.proofs.NodeIdListLaws.{Sets-put, Sets-out, list-lent, entries-lent, moves-removed}
use Rattle.lgm_store.proofs.channels_by_node.ChannelsByNode.remove_one.Goals as goal
use Rattle.lgm_store.proofs.channels_by_node.ChannelsByNode.remove_one.Goals.{Joined-swap_remove, in-Some+in-One-1, in-Some+in-Many-1, in-None-1}

empty_is : (ids : List ℕ) → (length ids == 0) ≡ true → ids ≡ []
empty_is [] e = refl
empty_is (id ∷ ids) e = absurd (grind (arith, nat_tests))

kept_is : (ids : List ℕ) → (length ids == 0) ≡ false → kept ids ≡ Some ids
kept_is [] e = absurd cc
kept_is (id ∷ ids) e = refl

-- the point is removed
out : (c : Joined-swap_remove) → Sets c.args.self.now c.swap_remove.new.self.entries c.args.point.now
    (without_id (list_at c.args.self.now c.args.point.now) c.args.scid)
out c =
    let lists = c.self.inside.lists in
    let own = c.pair_mut-list.result.0.now in
    let list = c.pair_mut-list.result.1.now in
    let at = c.pair_mut-list.ensures.value in
    let is = list-lent lists c.args.point.now own c.in-Some.place list at c.in-Some.ensures.some ∙ ap (λ es. list_at es c.args.point.now) c.self.view_is in
    let left = c.remove.ensures ∙ ap (λ l. without_id l c.args.scid) is in
    Sets-out c.args.self.now lists.entries _ c.swap_remove.new.self.entries c.args.point.now c.remove.new.self
    (without_id (list_at c.args.self.now c.args.point.now) c.args.scid)
    c.self.view_is (sym left ∙ empty_is c.remove.new.self (sym c.is_empty.ensures ∙ c.if-is_empty.true))
    (entries-lent lists c.args.point.now own c.in-Some.place list at c.in-Some.ensures.some c.remove.new.self
    c.pair_mut-list.ensures.unique)
    c.swap_remove.ensures.updates.0

-- at most the last one moves
moved : (c : Joined-swap_remove) → MovesLastAlone c.args.self.now c.swap_remove.new.self.entries
moved c = moves-removed _ _ _ _ (keys-with_value_at c.self.inside.lists c.in-Some.place c.remove.new.self ∙ ap keys_of c.self.view_is)
    c.swap_remove.ensures.entries

pub returns-then-is_empty-clause-sets : goal.returns-then-is_empty-clause-sets
returns-then-is_empty-clause-sets c = elim c.match-swap_remove.branch [
  | in-Some+in-One-1 w ↦ rw w.self-is (out c)
  | in-Some+in-Many-1 w ↦ rw w.self-is (out c)
  | in-None-1 w ↦ rw w.self-is (out c)
]

pub returns-then-is_empty-clause-moves : goal.returns-then-is_empty-clause-moves
returns-then-is_empty-clause-moves c = elim c.match-swap_remove.branch [
  | in-Some+in-One-1 w ↦ rw w.self-is (moved c)
  | in-Some+in-Many-1 w ↦ rw w.self-is (moved c)
  | in-None-1 w ↦ rw w.self-is (moved c)
]

pub returns-else-is_empty-clause-moves : goal.returns-else-is_empty-clause-moves
returns-else-is_empty-clause-moves c = inl (keys-with_value_at c.self.inside.lists c.in-Some.place c.remove.new.self ∙ ap keys_of c.self.view_is)

pub returns-else-is_empty-clause-sets : goal.returns-else-is_empty-clause-sets
returns-else-is_empty-clause-sets c =
    let lists = c.self.inside.lists in
    let own = c.pair_mut-list.result.0.now in
    let list = c.pair_mut-list.result.1.now in
    let at = c.pair_mut-list.ensures.value in
    let is = list-lent lists c.args.point.now own c.in-Some.place list at c.in-Some.ensures.some ∙ ap (λ es. list_at es c.args.point.now) c.self.view_is in
    Sets-put c.args.self.now lists.entries _ c.args.point.now c.remove.new.self
    (without_id (list_at c.args.self.now c.args.point.now) c.args.scid)
    c.self.view_is (c.remove.ensures ∙ ap (λ l. without_id l c.args.scid) is)
    (kept_is c.remove.new.self (sym c.is_empty.ensures ∙ c.if-is_empty.false))
    (entries-lent lists c.args.point.now own c.in-Some.place list at c.in-Some.ensures.some c.remove.new.self
    c.pair_mut-list.ensures.unique)
