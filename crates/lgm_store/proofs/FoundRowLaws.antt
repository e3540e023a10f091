-- Inserting a row changes only what is found by its key.
use Rattle.std.proofs.Common.{◌≡◌, ℕ, Bool, true, false, List, ◌∷◌, refl, sym, ap, ◌∙◌, arith}
use Rattle.std.specs.Prelude.{◌==◌}
use Rattle.std.specs.List.{filter, find}
use Rattle.std.specs.declared.cmp.Ordering.{Ordering}
use Rattle.std.specs.declared.cmp.Ordering.TheVariants.{Less, Equal, Greater}
use Rattle.std.specs.Ordering.{is_lt, is_gt, is_eq, nat_cmp, bool_cmp, ordering_then}
use Rattle.std.proofs.lemmas.Bool.Decides.{nat_tests}
use Rattle.std.proofs.lemmas.Bool.{eqb-true, and_parts}
use Rattle.lgm_wire.specs.declared.point.Point.{Point}
use Rattle.lgm_check.specs.declared.row.ChannelRow.{ChannelRow}
use Rattle.lgm_check.specs.declared.row.UpdateRow.{UpdateRow}
use Rattle.lgm_check.specs.declared.row.NodeRow.{NodeRow}
use Rattle.lgm_store.specs.Rows.{put, by_id, by_direction, by_node, is_point, is_second, channel_of, update_of, node_of}
use Rattle.lgm_store.specs.Keys.{point_cmp}
use Rattle.lgm_store.proofs.ListLaws.{All-each, find-first, find-second, find-kept, find-gone}
use Rattle.lgm_store.proofs.Points.{same_point, is_at-point}

module _ {X : Type 0} (p : X → Bool) where
  -- an inserted row isn't found by a test that it doesn't pass
  find-put : (order : X → X → Ordering) (xs : List X) (row : X) (o : Ordering) → (o ≡ Equal → ⊥)
      → p row ≡ false → ((x : X) → p x ≡ true → order x row ≡ o) → find p (put order xs row) ≡ find p xs
  find-put order xs row Less other fails direction =
      find-first p (filter (λ x. is_lt (order x row)) xs) (row ∷ filter (λ x. is_gt (order x row)) xs)
      (rw (fails, find-gone p (λ x. is_gt (order x row)) xs (All-each _ xs (λ x is. ap is_gt (direction x is)))) refl)
      ∙ find-kept p (λ x. is_lt (order x row)) xs (All-each _ xs (λ x is. ap is_lt (direction x is)))
  find-put order xs row Equal other fails direction = absurd (other refl)
  find-put order xs row Greater other fails direction =
      find-second p (filter (λ x. is_lt (order x row)) xs) (row ∷ filter (λ x. is_gt (order x row)) xs)
      (find-gone p (λ x. is_lt (order x row)) xs (All-each _ xs (λ x is. ap is_lt (direction x is))))
      ∙ rw fails (find-kept p (λ x. is_gt (order x row)) xs (All-each _ xs (λ x is. ap is_gt (direction x is))))

apart : (a b : ℕ) → (a == b) ≡ false → nat_cmp b a ≡ Equal → ⊥
apart a b differ e = grind (arith, nat_tests)

then_first : (o p : Ordering) → (o ≡ Equal → ⊥) → ordering_then o p ≡ o
then_first Less p other = refl
then_first Equal p other = absurd (other refl)
then_first Greater p other = refl

pub channel_of-put : (id : ℕ) (rows : List ChannelRow) (row : ChannelRow)
    → (row.message.short_channel_id == id) ≡ false → channel_of (put by_id rows row) id ≡ channel_of rows id
channel_of-put id rows row differ =
    find-put _ by_id rows row (nat_cmp id row.message.short_channel_id) (apart row.message.short_channel_id id differ) differ
    (λ x is. ap (λ k. nat_cmp k row.message.short_channel_id) (eqb-true x.message.short_channel_id id is))

pub update_of-put : (id : ℕ) (second : Bool) (rows : List UpdateRow) (row : UpdateRow)
    → (row.message.short_channel_id == id) ≡ false
    → update_of (put by_direction rows row) id second ≡ update_of rows id second
update_of-put id second rows row differ =
    find-put _ by_direction rows row (nat_cmp id row.message.short_channel_id) (apart row.message.short_channel_id id differ) (rw differ refl)
    (λ x is. let own = eqb-true x.message.short_channel_id id (and_parts _ _ is).0 in
    ap (λ k. ordering_then (nat_cmp k row.message.short_channel_id) (bool_cmp (is_second x) (is_second row)))
    own ∙ then_first _ _ (apart row.message.short_channel_id id differ))

point_apart : (a b : Point) → is_point a b ≡ false → point_cmp b a ≡ Equal → ⊥
point_apart a b differ e =
    let own : b ≡ a = same_point b a (sym (is_at-point b a) ∙ ap is_eq e) in
    let self : is_point a b ≡ true = rw own (sym (is_at-point a a) ∙ ap is_eq (rw own at e)) in
    let never : false ≡ true = sym differ ∙ self in absurd cc

pub node_of-put : (node : Point) (rows : List NodeRow) (row : NodeRow) → is_point row.message.node_id node ≡ false
    → node_of (put by_node rows row) node ≡ node_of rows node
node_of-put node rows row differ =
    find-put _ by_node rows row (point_cmp node row.message.node_id) (point_apart row.message.node_id node differ) differ
    (λ x is. ap (λ k. point_cmp k row.message.node_id) (same_point x.message.node_id node is))
