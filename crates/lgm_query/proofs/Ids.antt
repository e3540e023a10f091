-- Ids, distinguished by their order.
use Rattle.std.proofs.Common.{◌≡◌, ℕ, arith}
use Rattle.std.specs.Prelude.{◌==◌}
use Rattle.std.specs.declared.cmp.Ordering.TheVariants.{Equal}
use Rattle.std.specs.Ordering.{is_eq, nat_cmp}
use Rattle.std.proofs.lemmas.Bool.Decides.{nat_tests}

-- the same id
pub id_test : (a b : ℕ) → is_eq (nat_cmp a b) ≡ (a == b)
id_test a b = grind (arith, nat_tests)

pub id_level : (a : ℕ) → nat_cmp a a ≡ Equal
id_level a = grind (arith, nat_tests)
