-- Equal keys are the same.
use Rattle.std.proofs.Common.{◌≡◌, ℕ, List, ap, arith}
use Rattle.std.specs.declared.cmp.Ordering.TheVariants.{Equal}
use Rattle.std.specs.Ordering.{nat_cmp}
use Rattle.std.proofs.lemmas.Map.Lookups.{exact_bytes}
use Rattle.std.proofs.lemmas.Bool.Decides.{nat_tests}
use Rattle.lgm_wire.specs.declared.point.Point.{Point}
use Rattle.lgm_store.specs.Keys.{point_cmp}

pub same_id : (a b : ℕ) → nat_cmp a b ≡ Equal → a ≡ b
same_id a b e = grind (arith, nat_tests)

pub same_node : (a b : Point) → point_cmp a b ≡ Equal → a ≡ b
same_node a b e =
    let bytes : a.0 ≡ b.0 = exact_bytes a.0 b.0 e in
    ap (λ (x : List ℕ). let point : Point = record { 0 = x } in point) bytes
