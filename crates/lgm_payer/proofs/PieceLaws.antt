-- Pieces of what is left are enough for a part.
use Rattle.std.proofs.Common.{◌≡◌, ◌∙◌, ℕ, ◌+◌, ◌*◌, ◌/◌, ◌<◌, ◌≤◌, Bool, true, false, refl, ap, arith}
use Rattle.std.specs.Prelude.{max, nat_lt}
use Rattle.std.specs.Int.{div_ceil}
use Rattle.std.proofs.Math.Nat.{mul-le-mul_left, mul-le-mul_right, div-mul-le_self}
use Rattle.std.proofs.lemmas.Bool.Decides.{nat_tests}
use Rattle.std.proofs.lemmas.Grind.{div_ceil_times}
use Rattle.lgm_payer.specs.Payments.{PaymentState, KeepsBounds, IsShare, left, parts_left}
use Rattle.lgm_payer.specs.Searches.{piece}

-- a piece that is too small is less than what was divided
piece_most : (left pieces least piece : ℕ) → left ≤ piece * pieces → pieces * least ≤ left → 1 ≤ pieces → least ≤ piece
piece_most left pieces least piece covers enough some = by (nat_lt piece least) refl
  where
    by : (b : Bool) → nat_lt piece least ≡ b → least ≤ piece
    by true is =
        let lt : piece + 1 ≤ least = grind (arith, nat_tests) in
        let more = mul-le-mul_left pieces lt in
        absurd (omega (arith, more))
    by false is = grind (arith, nat_tests)

-- and one that leaves too little is more than a half
piece_leaves : (left pieces least piece : ℕ) → piece * pieces < left + pieces → pieces * least ≤ left → 2 ≤ pieces
    → piece + least ≤ left
piece_leaves left pieces least piece covers enough two = by (nat_lt left (piece + least)) refl
  where
    by : (b : Bool) → nat_lt left (piece + least) ≡ b → piece + least ≤ left
    by true is =
        let lt : left + 1 ≤ piece + least = grind (arith, nat_tests) in
        let all = mul-le-mul_left pieces lt in
        let twice : 2 * left ≤ pieces * left = mul-le-mul_right left two in
        absurd (omega (arith, all, twice))
    by false is = grind (arith, nat_tests)

-- a piece is enough for a part, and leaves enough for another one
pub piece_enough : (left pieces least : ℕ) → 2 ≤ pieces → pieces ≤ left / max 1 least
    → (max 1 least ≤ div_ceil left pieces) × (div_ceil left pieces + max 1 least ≤ left)
piece_enough left pieces least two few =
    let most = mul-le-mul_right (max 1 least) few in
    let back = div-mul-le_self left (max 1 least) in
    let enough : pieces * max 1 least ≤ left = omega (arith, most, back) in
    let covers = div_ceil_times left pieces (omega (arith, two)) in (
      piece_most left pieces (max 1 least) (div_ceil left pieces) covers.0 enough (omega (arith, two)),
      piece_leaves left pieces (max 1 least) (div_ceil left pieces) covers.1 enough two,
    )

whole_piece : (left pieces : ℕ) → 1 ≤ pieces → pieces < 2 → div_ceil left pieces ≡ left
whole_piece left pieces some one =
    let is : pieces ≡ 1 = omega (arith, some, one) in
    ap (λ n. div_ceil left n) is ∙ (let same : div_ceil left 1 ≡ left = omega arith in same)

-- so each piece is a share
pub piece_share : (payment : PaymentState) (pieces : ℕ) → 1 ≤ pieces → 0 < left payment
    → (2 ≤ pieces → pieces ≤ parts_left payment) → (2 ≤ pieces → pieces ≤ left payment / max 1 payment.bounds.least_part)
    → KeepsBounds payment.invoice payment.bounds payment.parts → IsShare payment (piece payment pieces)
piece_share payment pieces some more few enough kept = by (nat_lt pieces 2) refl
  where
    by : (b : Bool) → nat_lt pieces 2 ≡ b → IsShare payment (piece payment pieces)
    by true is =
        let one : pieces < 2 = grind (arith, nat_tests) in
        let all = whole_piece (left payment) pieces some one in
        let rest = kept.leaves in
        record {
          some = omega (arith, all, more);
          within = omega (arith, all);
          enough = omega (arith, all, more, rest);
          leaves = λ less. absurd (omega (arith, all, less));
          last = λ one. all;
        }
    by false is =
        let two : 2 ≤ pieces = grind (arith, nat_tests) in
        let both = piece_enough (left payment) pieces payment.bounds.least_part two (enough two) in
        let first = both.0 in
        let second = both.1 in
        let allowed = few two in
        record {
          some = omega (arith, first);
          within = omega (arith, second);
          enough = omega (arith, first);
          leaves = λ less. omega (arith, second);
          last = λ one. absurd (omega (arith, one, two, allowed));
        }
