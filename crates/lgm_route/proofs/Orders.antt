-- The order of lists by the first number in which they differ.
use Rattle.std.proofs.Common.{◌≡◌, ◌⊎◌, ℕ, ◌<◌, ◌≤◌, List, ◌∷◌, Ordering, false, refl, sym, ◌∙◌, ap, inl, inr, arith}
use Rattle.std.specs.declared.cmp.Ordering.TheVariants.{Less, Equal, Greater}
use Rattle.std.specs.Ordering.{nat_cmp, is_gt, ordering_then, ordering_reverse, MatchOrdering}
use Rattle.std.specs.Cmp.{upto, tied_itself}
use Rattle.std.specs.Cmp.Lexicographic.{slice_cmp}
use Rattle.std.proofs.lemmas.Cmp.{ranked, nat_list_cmp_total}
use Rattle.std.proofs.lemmas.Bool.{false≢true}
use Rattle.lgm_route.specs.inner.Searching.{NotAfter}

pub NotAfter-refl : (xs : List ℕ) → NotAfter xs xs
NotAfter-refl xs = ap is_gt (tied_itself nat_list_cmp_total xs)

pub NotAfter-trans : (xs ys zs : List ℕ) → NotAfter xs ys → NotAfter ys zs → NotAfter xs zs
NotAfter-trans = upto nat_list_cmp_total

-- a list that isn't after another isn't preceded by it
pub NotAfter-excludes : (xs ys : List ℕ) → NotAfter xs ys → slice_cmp nat_cmp ys xs ≡ Less → ⊥
NotAfter-excludes xs ys h e =
    false≢true (sym h ∙ ap is_gt (nat_list_cmp_total.antisymm xs ys) ∙ ap (λ o. is_gt (ordering_reverse o)) e)

abbrev Split : ℕ → ℕ → List ℕ → List ℕ → Type 0
Split x y xs ys = (x < y) ⊎ ((x ≡ y) × NotAfter xs ys)

split_by : (x y : ℕ) (xs ys : List ℕ) (o : Ordering) → MatchOrdering o (x < y) (x ≡ y) (y < x) →
    is_gt (ordering_then o (slice_cmp nat_cmp xs ys)) ≡ false → Split x y xs ys
split_by x y xs ys Less p h = inl p
split_by x y xs ys Equal p h = inr (p, h)
split_by x y xs ys Greater p h = absurd (false≢true (sym h))

-- the heads decide, or are equal
pub NotAfter-split : (x y : ℕ) (xs ys : List ℕ) → NotAfter (x ∷ xs) (y ∷ ys) → (x < y) ⊎ ((x ≡ y) × NotAfter xs ys)
NotAfter-split x y xs ys h = split_by x y xs ys (nat_cmp x y) (ranked x y (nat_cmp x y) refl) h

join_by : (x y : ℕ) (xs ys : List ℕ) (o : Ordering) → MatchOrdering o (x < y) (x ≡ y) (y < x) → Split x y xs ys →
    is_gt (ordering_then o (slice_cmp nat_cmp xs ys)) ≡ false
join_by x y xs ys Less p s = refl
join_by x y xs ys Equal p (inl q) = absurd (omega arith)
join_by x y xs ys Equal p (inr q) = q.1
join_by x y xs ys Greater p (inl q) = absurd (omega arith)
join_by x y xs ys Greater p (inr q) = absurd (omega (arith, q.0))

pub NotAfter-join : (x y : ℕ) (xs ys : List ℕ) → (x < y) ⊎ ((x ≡ y) × NotAfter xs ys) → NotAfter (x ∷ xs) (y ∷ ys)
NotAfter-join x y xs ys s = join_by x y xs ys (nat_cmp x y) (ranked x y (nat_cmp x y) refl) s

-- the first number isn't greater
pub NotAfter-heads : (x y : ℕ) (xs ys : List ℕ) → NotAfter (x ∷ xs) (y ∷ ys) → x ≤ y
NotAfter-heads x y xs ys h = by (NotAfter-split x y xs ys h)
  where
    by : Split x y xs ys → x ≤ y
    by (inl q) = omega arith
    by (inr q) = omega (arith, q.0)

-- below equal first numbers, so are the others
pub NotAfter-tails : (x y : ℕ) (xs ys : List ℕ) → x ≡ y → NotAfter (x ∷ xs) (y ∷ ys) → NotAfter xs ys
NotAfter-tails x y xs ys e h = by (NotAfter-split x y xs ys h)
  where
    by : Split x y xs ys → NotAfter xs ys
    by (inl q) = absurd (omega arith)
    by (inr q) = q.1
