-- Where pieces begin and end.
use Rattle.std.proofs.Common.{◌≡◌, ◌⊎◌, inl, inr, zero, suc, refl, subst, [], ℕ, ◌+◌, ◌-◌, ◌<◌, ◌≤◌, List, ◌++◌, take, length, min, ap, ◌∙◌, arith}
use Rattle.std.specs.List.{AllZip}
use Rattle.std.proofs.Math.Seq.{take-add}
use Rattle.std.proofs.lemmas.List.{take_all}
use Rattle.lgm_par.proofs.PlacewiseLaws.{zip_both}
use Rattle.lgm_par.specs.inner.Chunks.{piece_start, piece_of}

-- a piece ends where the next one begins
pub starts_rise : (n p k : ℕ) → piece_start n p k ≤ piece_start n p (k + 1)
unfolding piece_start
starts_rise n p k = omega arith

pub first_start : (n p : ℕ) → piece_start n p 0 ≡ 0
unfolding piece_start
first_start n p = omega arith

-- the last piece ends with the list
pub last_end : (n p : ℕ) → 0 < p → piece_start n p p ≡ n
unfolding piece_start
last_end n p some = grind arith

-- the pieces up to one, and that one
pub piece_more : {T : Type 0} (xs : List T) (p k : ℕ)
    → take (piece_start (length xs) p (k + 1)) xs ≡ take (piece_start (length xs) p k) xs ++ piece_of xs p k
piece_more xs p k =
    let a = piece_start (length xs) p k in
    let b = piece_start (length xs) p (k + 1) in
    let up : a ≤ b = starts_rise (length xs) p k in
    let e : b ≡ a + (b - a) = omega arith in
    ap (λ n. take n xs) e ∙ take-add a (b - a) xs

-- the answers so far, and those of the next piece
pub piece_given : {T A : Type 0} (R : T → A → Type 0) (xs : List T) (p k m : ℕ) (ys zs all : List A)
    → m ≡ k + 1 → all ≡ ys ++ zs → AllZip R (take (piece_start (length xs) p k) xs) ys → AllZip R (piece_of xs p k) zs
    → AllZip R (take (piece_start (length xs) p m) xs) all
piece_given R xs p k m ys zs all next is front more =
    rw (next, is, piece_more xs p k) (zip_both R (take (piece_start (length xs) p k) xs) ys (piece_of xs p k) zs front more)

-- no answer yet
pub none_given : {T A : Type 0} (R : T → A → Type 0) (xs : List T) (p : ℕ) (all : List A) → all ≡ []
    → AllZip R (take (piece_start (length xs) p 0) xs) all
none_given R xs p all none = rw (none, first_start (length xs) p) tt

min_none : (w n : ℕ) → 1 ≤ w → min w n ≡ 0 → n ≡ 0
min_none w n some none = omega arith

whole : {T : Type 0} (xs : List T) (w p k : ℕ) → 1 ≤ w → p ≡ min w (length xs) → k ≡ p
    → (d : (p ≡ 0) ⊎ (0 < p)) → take (piece_start (length xs) p k) xs ≡ xs
whole xs w p k some is all (inl none) =
    let e : length xs ≡ 0 = min_none w (length xs) some (omega arith) in
    take_all (piece_start (length xs) p k) xs (omega arith)
whole xs w p k some is all (inr many) =
    take_all (piece_start (length xs) p k) xs
    (omega (arith, ap (piece_start (length xs) p) all, last_end (length xs) p many))

-- all pieces are all items
pub all_given : {T A : Type 0} (R : T → A → Type 0) (xs : List T) (w p k : ℕ) (all : List A)
    → 1 ≤ w → p ≡ min w (length xs) → k ≡ p → AllZip R (take (piece_start (length xs) p k) xs) all → AllZip R xs all
all_given R xs w p k all some is done given = subst (λ us. AllZip R us all) (whole xs w p k some is done (cases_zero p)) given
  where
    cases_zero : (n : ℕ) → (n ≡ 0) ⊎ (0 < n)
    cases_zero zero = inl refl
    cases_zero (suc n) = inr (omega arith)
