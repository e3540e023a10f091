-- Sums over lists.
use Rattle.std.proofs.Common.{◌≡◌, ℕ, zero, suc, ◌+◌, ◌≤◌, ◌<◌, List, [], ◌∷◌, ◌++◌, length, get_or, map, refl, sym, ◌∙◌, ap, arith}
use Rattle.std.specs.Prelude.{sum_by}
use Rattle.std.specs.List.{flat_map}
use Rattle.std.proofs.lemmas.List.Sums.{sum_by-cons, sum_by-append}
use Rattle.lgm_route.specs.inner.Spending.{total}

total-shift : (f : ℕ → ℕ) (n : ℕ) → total f (suc n) ≡ f 0 + total (λ i. f (suc i)) n
total-shift f zero = omega arith
total-shift f (suc n) = omega (arith, total-shift f n)

-- the sum by index
pub total-sum : {X : Type 0} (f : X → ℕ) (d : X) (xs : List X) → total (λ i. f (get_or xs i d)) (length xs) ≡ sum_by f xs
total-sum f d [] = refl
total-sum f d (x ∷ xs) =
    total-shift (λ i. f (get_or (x ∷ xs) i d)) (length xs) ∙ ap (λ n. f x + n) (total-sum f d xs) ∙ sym (sum_by-cons f x xs)

-- the sum of what a list is mapped to
pub sum-map : {X Y : Type 0} (f : X → Y) (g : Y → ℕ) (xs : List X) → sum_by g (map f xs) ≡ sum_by (λ x. g (f x)) xs
sum-map f g [] = refl
sum-map f g (x ∷ xs) =
    sum_by-cons g (f x) (map f xs) ∙ ap (λ n. g (f x) + n) (sum-map f g xs) ∙ sym (sum_by-cons (λ x. g (f x)) x xs)

-- the sum of a part
pub sum-part : {X Y : Type 0} (f : X → List Y) (g : Y → ℕ) (d : X) → f d ≡ [] → (xs : List X) (k : ℕ)
    → sum_by g (f (get_or xs k d)) ≤ sum_by g (flat_map f xs)
sum-part f g d none [] k = let e : sum_by g (f d) ≡ 0 = ap (sum_by g) none in omega (arith, e)
sum-part f g d none (x ∷ xs) zero = omega (arith, sum_by-append g (f x) (flat_map f xs))
sum-part f g d none (x ∷ xs) (suc k) = omega (arith, sum_by-append g (f x) (flat_map f xs), sum-part f g d none xs k)
