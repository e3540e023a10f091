-- Lengths of segments.
use Rattle.std.proofs.Common.{◌≡◌, ℕ, zero, suc, ◌+◌, ◌<◌, ◌≤◌, List, [], ◌∷◌, length, take, get_or, Option, subst, ap, arith}
use Rattle.std.specs.Prelude.{MatchOption}
use Rattle.std.specs.List.{flat_map}
use Rattle.std.proofs.lemmas.List.{length-append}
use Rattle.std.proofs.lemmas.List.Concat.{flat_map-cons}

-- what is before an index and what is there are no longer than all of it
pub front_len : {X : Type 0} (f : X → List ℕ) (xs : List X) (i : ℕ) (d : X) → i < length xs
    → length (flat_map f (take i xs)) + length (f (get_or xs i d)) ≤ length (flat_map f xs)
front_len f [] i d lt = absurd (omega arith)
front_len f (x ∷ xs) zero d lt = omega (arith, ap length (flat_map-cons f x xs), length-append (f x) (flat_map f xs))
front_len f (x ∷ xs) (suc i) d lt =
    omega (
      arith,
      ap length (flat_map-cons f x xs),
      length-append (f x) (flat_map f xs),
      ap length (flat_map-cons f x (take i xs)),
      length-append (f x) (flat_map f (take i xs)),
      front_len f xs i d (omega arith),
    )

-- room after a length, for a number that is equal
pub room_at : (o : Option ℕ) (room n k : ℕ) → k ≡ n → MatchOption o (room < k) (λ left. left + k ≡ room)
    → MatchOption o (room < n) (λ left. left + n ≡ room)
room_at o room n k same is = subst (λ (m : ℕ). MatchOption o (room < m) (λ left. left + m ≡ room)) same is
