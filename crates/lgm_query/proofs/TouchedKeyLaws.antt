-- What a further operation touches.
use Rattle.std.proofs.Common.{◌≡◌, ℕ, Bool, true, false, ◌||◌, cond, List, [], ◌∷◌, ◌++◌, sym, ap, ◌∙◌, arith}
use Rattle.std.specs.Prelude.{◌==◌}
use Rattle.std.specs.BTreeMap.{is_at}
use Rattle.std.specs.List.{list_any}
use Rattle.std.specs.List.Sorted.{IsStrictlySortedBy}
use Rattle.std.specs.Ordering.{nat_cmp}
use Rattle.std.proofs.Math.Bool.{or-false}
use Rattle.std.proofs.lemmas.List.Folds.{list_any-append}
use Rattle.lgm_wire.specs.declared.point.Point.{Point}
use Rattle.lgm_store.specs.declared.op.Op.{Op}
use Rattle.lgm_store.specs.Rows.{is_point}
use Rattle.lgm_store.specs.Keys.{point_cmp}
use Rattle.lgm_store.proofs.Points.{is_at-point}
use Rattle.lgm_query.proofs.Ids.{id_test}
use Rattle.lgm_query.specs.Touched.{touches_channel, touches_node, Touched, HasTouched}

-- one more is requested last
asked_last : (b others : Bool) → cond b true others ≡ (others || (b || false))
asked_last b others = grind arith

-- a test that the last element fails
any_front : {X : Type 0} (p : X → Bool) (xs : List X) (x : X) → p x ≡ false → list_any p (xs ++ x ∷ []) ≡ list_any p xs
any_front p xs x fails = list_any-append p xs (x ∷ []) ∙ rw fails (or-false (list_any p xs))

pub touched_channel : (history : List Op) (old new : Touched) (op : Op) (id : ℕ)
    → ((q : ℕ) → touches_channel q op ≡ (id == q)) → ((q : Point) → touches_node q op ≡ false)
    → ((q : ℕ) → list_any (is_at (nat_cmp q)) new.channels ≡ cond (is_at (nat_cmp id) q) true (list_any (is_at (nat_cmp q)) old.channels))
    → IsStrictlySortedBy nat_cmp new.channels → new.nodes ≡ old.nodes → HasTouched history old → HasTouched (history ++ op ∷ []) new
touched_channel history old new op id touches spares inserts ascend same has = record {
  channels_ascend = ascend;
  nodes_ascend = rw same has.nodes_ascend;
  of_channels = λ q.
      inserts q ∙ ap (λ b. cond b true (list_any (is_at (nat_cmp q)) old.channels)) (id_test id q
      ∙ sym (touches q)) ∙ ap (cond (touches_channel q op) true) (has.of_channels q)
      ∙ asked_last (touches_channel q op) (list_any (touches_channel q) history) ∙ sym (list_any-append (touches_channel q) history (op ∷ []));
  of_nodes = λ q. ap (list_any (is_at (point_cmp q))) same ∙ has.of_nodes q ∙ sym (any_front (touches_node q) history op (spares q));
}

pub touched_node : (history : List Op) (old new : Touched) (op : Op) (node : Point)
    → ((q : Point) → touches_node q op ≡ is_point node q) → ((q : ℕ) → touches_channel q op ≡ false)
    → ((q : Point) → list_any (is_at (point_cmp q)) new.nodes ≡ cond (is_at (point_cmp node) q) true (list_any (is_at (point_cmp q)) old.nodes))
    → IsStrictlySortedBy point_cmp new.nodes → new.channels ≡ old.channels → HasTouched history old → HasTouched (history ++ op ∷ []) new
touched_node history old new op node touches spares inserts ascend same has = record {
  channels_ascend = rw same has.channels_ascend;
  nodes_ascend = ascend;
  of_channels = λ q. ap (list_any (is_at (nat_cmp q))) same ∙ has.of_channels q ∙ sym (any_front (touches_channel q) history op (spares q));
  of_nodes = λ q.
      inserts q ∙ ap (λ b. cond b true (list_any (is_at (point_cmp q)) old.nodes)) (is_at-point node q
      ∙ sym (touches q)) ∙ ap (cond (touches_node q op) true) (has.of_nodes q)
      ∙ asked_last (touches_node q op) (list_any (touches_node q) history) ∙ sym (list_any-append (touches_node q) history (op ∷ []));
}
