-- Orders whose equal keys are the same.
use Rattle.std.proofs.Common.{◌≡◌, true, refl}
use Rattle.std.specs.BTreeMap.{is_at}
use Rattle.std.specs.Cmp.{IsTotalOrder}
use Rattle.std.specs.declared.cmp.Ordering.{Ordering}
use Rattle.std.specs.declared.cmp.Ordering.TheVariants.{Less, Equal, Greater}
use Rattle.std.specs.Ordering.{is_eq, ordering_reverse, nat_cmp}
use Rattle.std.proofs.lemmas.Cmp.{nat_cmp_total}
use Rattle.lgm_store.specs.Keys.{point_cmp}
use Rattle.lgm_store.specs.inner.SameKeys.{same_id, same_node}
use Rattle.lgm_store.proofs.Lists.{node_total}

pub record IsKeyOrder {K : Type 0} (cmp : K → K → Ordering) : Type 0 where
  pub total : IsTotalOrder cmp
  pub same : (a b : K) → cmp a b ≡ Equal → a ≡ b

pub by_id : IsKeyOrder nat_cmp
by_id = record { total = nat_cmp_total; same = same_id }

pub by_node : IsKeyOrder point_cmp
by_node = record { total = node_total; same = same_node }

module _ {K : Type 0} (cmp : K → K → Ordering) where
  pub equal_at : (a b : K) → is_at (cmp a) b ≡ true → cmp a b ≡ Equal
  equal_at a b at = by (cmp a b) refl
    where
      by : (o : Ordering) → cmp a b ≡ o → cmp a b ≡ Equal
      by Less is = let never : is_eq Less ≡ true = rw is at at in absurd cc
      by Equal is = is
      by Greater is = let never : is_eq Greater ≡ true = rw is at at in absurd cc

module _ {K : Type 0} {cmp : K → K → Ordering} (order : IsKeyOrder cmp) where
  pub same_at : (a b : K) → is_at (cmp a) b ≡ true → a ≡ b
  same_at a b at = order.same a b (equal_at cmp a b at)

  pub is_at-own : (a : K) → is_at (cmp a) a ≡ true
  is_at-own a = by (cmp a a) refl
    where
      by : (o : Ordering) → cmp a a ≡ o → is_eq (cmp a a) ≡ true
      by Less is = let never : Less ≡ ordering_reverse Less = rw is at (order.total.antisymm a a) in absurd cc
      by Equal is = rw is refl
      by Greater is = let never : Greater ≡ ordering_reverse Greater = rw is at (order.total.antisymm a a) in absurd cc
