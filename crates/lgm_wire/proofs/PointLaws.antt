-- Points that are compared by their first eight bytes, or by all but the last and the last.
use Rattle.std.proofs.Common.{◌≡◌, ℕ, zero, suc, Bool, true, false, ◌&&◌, nat_eq, ◌+◌, ◌*◌, ◌<◌, ◌≤◌, List, [], ◌∷◌, length, get_or, take, refl, sym, ap, subst, ◌∙◌, arith}
use Rattle.std.specs.Cmp.{ranks, nat_cmp_is}
use Rattle.std.specs.Cmp.Lexicographic.{slice_cmp, pointwise}
use Rattle.std.specs.Int.{w64, from_be_bytes}
use Rattle.std.specs.declared.cmp.Ordering.{Ordering}
use Rattle.std.specs.declared.cmp.Ordering.TheVariants.{Less, Equal, Greater}
use Rattle.std.specs.Ordering.{nat_cmp, ordering_then, MatchOrdering}

-- the number that the first k bytes encode after n, most significant first
spelt : ℕ → ℕ → List ℕ → ℕ
spelt zero n bytes = n
spelt (suc k) n [] = n
spelt (suc k) n (b ∷ bytes) = spelt k (n * 256 + b) bytes

abbrev pub AreBytes : List ℕ → Type 0
AreBytes bytes = (i : ℕ) → get_or bytes i 0 < 256

-- the bytes in front decide
spelt_rises : (k n m : ℕ) (xs ys : List ℕ) → k ≤ length xs → k ≤ length ys → AreBytes xs → n < m → spelt k n xs < spelt k m ys
unfolding spelt
spelt_rises zero n m xs ys many more small lt = lt
spelt_rises (suc k) n m [] ys many more small lt = absurd (omega (arith, many))
spelt_rises (suc k) n m (x ∷ xs) [] many more small lt = absurd (omega (arith, more))
spelt_rises (suc k) n m (x ∷ xs) (y ∷ ys) many more small lt =
    let byte : x < 256 = small 0 in
    spelt_rises k (n * 256 + x) (m * 256 + y) xs ys (omega (arith, many)) (omega (arith, more)) (λ i. small (suc i)) (omega (arith, byte, lt))

-- bytes are ordered as the numbers that the first of them encode, if these differ
decides : (k n : ℕ) (xs ys : List ℕ) → k ≤ length xs → k ≤ length ys → AreBytes xs → AreBytes ys
    → (spelt k n xs ≡ spelt k n ys → ⊥) → nat_cmp (spelt k n xs) (spelt k n ys) ≡ slice_cmp nat_cmp xs ys
unfolding spelt
decides zero n xs ys many more small also differ = absurd (differ refl)
decides (suc k) n [] ys many more small also differ = absurd (omega (arith, many))
decides (suc k) n (x ∷ xs) [] many more small also differ = absurd (omega (arith, more))
decides (suc k) n (x ∷ xs) (y ∷ ys) many more small also differ =
    by (nat_cmp x y) (ranks x y)
    (λ same. decides k (n * 256 + x) xs ys (omega (arith, many)) (omega (arith, more)) (λ i. small (suc i)) (λ i. also (suc i))
    (λ e. differ (e ∙ ap (λ z. spelt k (n * 256 + z) ys) same)))
  where
    here : ℕ
    here = spelt k (n * 256 + x) xs

    there : ℕ → ℕ
    there z = spelt k (n * 256 + z) ys

    by : (r : Ordering) → MatchOrdering r (x < y) (x ≡ y) (y < x)
        → (x ≡ y → nat_cmp here (there x) ≡ slice_cmp nat_cmp xs ys)
        → nat_cmp here (there y) ≡ ordering_then r (slice_cmp nat_cmp xs ys)
    by Less lt further = sym (nat_cmp_is here (there y) Less (spelt_rises k (n * 256 + x) (n * 256 + y) xs ys
        (omega (arith, many)) (omega (arith, more)) (λ i. small (suc i)) (omega (arith, lt, small 0))))
    by Equal same further = subst (λ z. nat_cmp here (there z) ≡ slice_cmp nat_cmp xs ys) same (further same)
    by Greater lt further = sym (nat_cmp_is here (there y) Greater (spelt_rises k (n * 256 + y) (n * 256 + x) ys xs
        (omega (arith, more)) (omega (arith, many)) (λ i. also (suc i)) (omega (arith, lt, also 0))))

eight_bytes : (bytes : List ℕ) → 8 ≤ length bytes → from_be_bytes w64 (take 8 bytes) ≡ spelt 8 0 bytes
unfolding spelt
eight_bytes [] le = absurd (omega (arith, le))
eight_bytes (a ∷ []) le = absurd (omega (arith, le))
eight_bytes (a ∷ b ∷ []) le = absurd (omega (arith, le))
eight_bytes (a ∷ b ∷ c ∷ []) le = absurd (omega (arith, le))
eight_bytes (a ∷ b ∷ c ∷ d ∷ []) le = absurd (omega (arith, le))
eight_bytes (a ∷ b ∷ c ∷ d ∷ e ∷ []) le = absurd (omega (arith, le))
eight_bytes (a ∷ b ∷ c ∷ d ∷ e ∷ f ∷ []) le = absurd (omega (arith, le))
eight_bytes (a ∷ b ∷ c ∷ d ∷ e ∷ f ∷ g ∷ []) le = absurd (omega (arith, le))
eight_bytes (a ∷ b ∷ c ∷ d ∷ e ∷ f ∷ g ∷ h ∷ bytes) le = omega arith

-- bytes are ordered as the numbers that their first eight encode, if these differ
pub front_decides : (xs ys : List ℕ) (x y : ℕ) → 8 ≤ length xs → 8 ≤ length ys → AreBytes xs → AreBytes ys
    → x ≡ from_be_bytes w64 (take 8 xs) → y ≡ from_be_bytes w64 (take 8 ys) → (x ≡ y → ⊥) → nat_cmp x y ≡ slice_cmp nat_cmp xs ys
front_decides xs ys x y many more small also first second differ =
    let here = first ∙ eight_bytes xs many in
    let there = second ∙ eight_bytes ys more in
    rw (here, there) (decides 8 0 xs ys many more small also (λ e. differ (here ∙ e ∙ sym there)))

-- ---- the first bytes and the last one

-- lists of one length are the same where all elements but the last are, and the last
pub first_and_last : (n : ℕ) (xs ys : List ℕ) → length xs ≡ suc n → length ys ≡ suc n
    → (pointwise nat_eq (take n xs) (take n ys) && nat_eq (get_or xs n 0) (get_or ys n 0)) ≡ pointwise nat_eq xs ys
first_and_last n [] ys len len' = absurd (omega (arith, len))
first_and_last n (x ∷ xs) [] len len' = absurd (omega (arith, len'))
first_and_last zero (x ∷ []) (y ∷ []) len len' = alone (nat_eq x y)
  where
    alone : (b : Bool) → b ≡ (b && true)
    alone true = refl
    alone false = refl
first_and_last zero (x ∷ []) (y ∷ y' ∷ ys) len len' = absurd (omega (arith, len'))
first_and_last zero (x ∷ x' ∷ xs) (y ∷ ys) len len' = absurd (omega (arith, len))
first_and_last (suc n) (x ∷ xs) (y ∷ ys) len len' =
    by (first_and_last n xs ys (omega (arith, len)) (omega (arith, len'))) (nat_eq x y)
  where
    by : (pointwise nat_eq (take n xs) (take n ys) && nat_eq (get_or xs n 0) (get_or ys n 0)) ≡ pointwise nat_eq xs ys → (b : Bool)
        → ((b && pointwise nat_eq (take n xs) (take n ys)) && nat_eq (get_or xs n 0) (get_or ys n 0)) ≡ (b && pointwise nat_eq xs ys)
    by others true = others
    by others false = refl
