-- Lists: facts about each element, filters and searches.
use Rattle.std.proofs.Common.{◌≡◌, ◌<◌, length, get_or, drop, arith, Bool, true, false, ◌&&◌, ◌||◌, cond, List, [], ◌∷◌, ◌++◌, Some, None, refl, sym, ap, ◌∙◌, true≢false}
use Rattle.std.specs.List.{AllByRecursion, filter, find, list_any}
use Rattle.std.specs.declared.cmp.Ordering.{Ordering}
use Rattle.lgm_store.specs.Rows.{put}

-- ---- what holds of each

pub All-each : {X : Type 0} (P : X → Type 0) (xs : List X) → ((x : X) → P x) → AllByRecursion P xs
All-each P [] each = tt
All-each P (x ∷ xs) each = (each x, All-each P xs each)

pub All-to : {X : Type 0} (P Q : X → Type 0) (xs : List X) → ((x : X) → P x → Q x) → AllByRecursion P xs → AllByRecursion Q xs
All-to P Q [] to all = tt
All-to P Q (x ∷ xs) to all = (to x all.0, All-to P Q xs to all.1)

pub All-append : {X : Type 0} (P : X → Type 0) (xs ys : List X) → AllByRecursion P xs → AllByRecursion P ys → AllByRecursion P (xs ++ ys)
All-append P [] ys all others = others
All-append P (x ∷ xs) ys all others = (all.0, All-append P xs ys all.1 others)

pub All-filtered : {X : Type 0} (P Q : X → Type 0) (p : X → Bool) (xs : List X)
    → ((x : X) → p x ≡ true → P x → Q x) → AllByRecursion P xs → AllByRecursion Q (filter p xs)
All-filtered P Q p [] give all = tt
All-filtered P Q p (x ∷ xs) give all = by (All-filtered P Q p xs give all.1) (p x) refl
  where
    by : AllByRecursion Q (filter p xs) → (b : Bool) → p x ≡ b → AllByRecursion Q (cond (p x) (x ∷ filter p xs) (filter p xs))
    by others true is = rw is (give x is all.0, others)
    by others false is = rw is others

pub All-filter : {X : Type 0} (P : X → Type 0) (p : X → Bool) (xs : List X) → AllByRecursion P xs → AllByRecursion P (filter p xs)
All-filter P p xs all = All-filtered P P p xs (λ x is holds. holds) all

pub All-put : {X : Type 0} (P : X → Type 0) (order : X → X → Ordering) (rows : List X) (row : X) → P row
    → AllByRecursion P rows → AllByRecursion P (put order rows row)
All-put P order rows row here all = All-append P _ _ (All-filter P _ rows all) (here, All-filter P _ rows all)

-- ---- what tests keep

pub filter-same : {X : Type 0} (p q : X → Bool) → ((x : X) → p x ≡ q x) → (xs : List X) → filter p xs ≡ filter q xs
filter-same p q same [] = refl
filter-same p q same (x ∷ xs) = rw (same x, filter-same p q same xs) refl

-- on the elements of a list
pub filter-alike : {X : Type 0} (p q : X → Bool) (xs : List X) → AllByRecursion (λ x. p x ≡ q x) xs → filter p xs ≡ filter q xs
filter-alike p q [] same = refl
filter-alike p q (x ∷ xs) same = rw (same.0, filter-alike p q xs same.1) refl

-- all pass
pub filter-all : {X : Type 0} (p : X → Bool) (xs : List X) → AllByRecursion (λ x. p x ≡ true) xs → filter p xs ≡ xs
filter-all p [] all = refl
filter-all p (x ∷ xs) all = rw (all.0, filter-all p xs all.1) refl

pub filter-true : {X : Type 0} (xs : List X) → filter (λ x. true) xs ≡ xs
filter-true xs = filter-all _ xs (All-each _ xs (λ x. refl))

pub filter-passes : {X : Type 0} (p : X → Bool) (xs : List X) → AllByRecursion (λ x. p x ≡ true) (filter p xs)
filter-passes p [] = tt
filter-passes p (x ∷ xs) = by (filter-passes p xs) (p x) refl
  where
    by : AllByRecursion (λ x. p x ≡ true) (filter p xs) → (b : Bool) → p x ≡ b
        → AllByRecursion (λ x. p x ≡ true) (cond (p x) (x ∷ filter p xs) (filter p xs))
    by others true is = rw is (is, others)
    by others false is = rw is others

-- one filter after another
pub filter-filter : {X : Type 0} (p q : X → Bool) (xs : List X) → filter q (filter p xs) ≡ filter (λ x. p x && q x) xs
filter-filter p q [] = refl
filter-filter p q (x ∷ xs) = by (filter-filter p q xs) (p x)
  where
    by : filter q (filter p xs) ≡ filter (λ x. p x && q x) xs
        → (b : Bool) → filter q (cond b (x ∷ filter p xs) (filter p xs))
        ≡ cond (b && q x) (x ∷ filter (λ x. p x && q x) xs) (filter (λ x. p x && q x) xs)
    by others true = rw others refl
    by others false = others

pub filter-twice : {X : Type 0} (p : X → Bool) (xs : List X) → filter p (filter p xs) ≡ filter p xs
filter-twice p xs = filter-filter p p xs ∙ filter-same _ _ (λ x. both (p x)) xs
  where
    both : (b : Bool) → (b && b) ≡ b
    both b = grind arith

pub filter-swap : {X : Type 0} (p q : X → Bool) (xs : List X) → filter p (filter q xs) ≡ filter q (filter p xs)
filter-swap p q xs = filter-filter q p xs ∙ filter-same _ _ (λ x. both (q x) (p x)) xs ∙ sym (filter-filter p q xs)
  where
    both : (a b : Bool) → (a && b) ≡ (b && a)
    both a b = grind arith

-- ---- what tests find

pub find-same : {X : Type 0} (p q : X → Bool) → ((x : X) → p x ≡ q x) → (xs : List X) → find p xs ≡ find q xs
find-same p q same [] = refl
find-same p q same (x ∷ xs) = rw (same x, find-same p q same xs) refl

-- what would be found is kept
pub find-kept : {X : Type 0} (p q : X → Bool) (xs : List X) → AllByRecursion (λ x. p x ≡ true → q x ≡ true) xs → find p (filter q xs) ≡ find p xs
find-kept p q [] all = refl
find-kept p q (x ∷ xs) all = by (find-kept p q xs all.1) (q x) refl (p x) refl
  where
    by : find p (filter q xs) ≡ find p xs → (b : Bool) → q x ≡ b → (c : Bool) → p x ≡ c
        → find p (cond (q x) (x ∷ filter q xs) (filter q xs)) ≡ cond (p x) (Some x) (find p xs)
    by others true e c f = rw e (ap (λ o. cond (p x) (Some x) o) others)
    by others false e true f = absurd (true≢false (sym (all.0 f) ∙ e))
    by others false e false f = rw (e, f) others

pub any-kept : {X : Type 0} (p q : X → Bool) (xs : List X) → AllByRecursion (λ x. p x ≡ true → q x ≡ true) xs → list_any p (filter q xs) ≡ list_any p xs
any-kept p q [] all = refl
any-kept p q (x ∷ xs) all = by (any-kept p q xs all.1) (q x) refl (p x) refl
  where
    by : list_any p (filter q xs) ≡ list_any p xs → (b : Bool) → q x ≡ b → (c : Bool) → p x ≡ c
        → list_any p (cond (q x) (x ∷ filter q xs) (filter q xs)) ≡ (p x || list_any p xs)
    by others true e c f = rw e (ap (λ o. p x || o) others)
    by others false e true f = absurd (true≢false (sym (all.0 f) ∙ e))
    by others false e false f = rw (e, f) others

-- what would be found is removed
pub find-gone : {X : Type 0} (p q : X → Bool) (xs : List X) → AllByRecursion (λ x. p x ≡ true → q x ≡ false) xs → find p (filter q xs) ≡ None
find-gone p q [] all = refl
find-gone p q (x ∷ xs) all = by (find-gone p q xs all.1) (q x) refl (p x) refl
  where
    by : find p (filter q xs) ≡ None → (b : Bool) → q x ≡ b → (c : Bool) → p x ≡ c → find p (cond (q x) (x ∷ filter q xs) (filter q xs)) ≡ None
    by others true e true f = absurd (true≢false (sym e ∙ all.0 f))
    by others true e false f = rw (e, f) others
    by others false e c f = rw e others

-- nothing is found behind
pub find-first : {X : Type 0} (p : X → Bool) (xs ys : List X) → find p ys ≡ None → find p (xs ++ ys) ≡ find p xs
find-first p [] ys none = none
find-first p (x ∷ xs) ys none = ap (λ o. cond (p x) (Some x) o) (find-first p xs ys none)

-- nothing is found in front
pub find-second : {X : Type 0} (p : X → Bool) (xs ys : List X) → find p xs ≡ None → find p (xs ++ ys) ≡ find p ys
find-second p [] ys none = refl
find-second p (x ∷ xs) ys none = by (find-second p xs ys) (p x) refl none
  where
    by : (find p xs ≡ None → find p (xs ++ ys) ≡ find p ys) → (b : Bool) → p x ≡ b
        → cond (p x) (Some x) (find p xs) ≡ None → cond (p x) (Some x) (find p (xs ++ ys)) ≡ find p ys
    by others true e none = let h : Some x ≡ None = rw e at none in absurd cc
    by others false e none = rw e (others (rw e at none))

-- ---- the first, and the others

pub first_and_rest : {X : Type 0} (xs rest : List X) (x : X) → 0 < length xs → x ≡ get_or xs 0 x → rest ≡ drop 1 xs → xs ≡ x ∷ rest
first_and_rest [] rest x some first others = absurd (omega arith)
first_and_rest (y ∷ ys) rest x some first others = ap (λ z. z ∷ ys) (sym first) ∙ ap (λ zs. x ∷ zs) (sym others)
