-- Lists one of which is a prefix of another.
use Rattle.std.proofs.Common.{◌≡◌, ℕ, ◌≤◌, ◌<◌, Bool, true, false, leb, MatchBool, List, []}
use Rattle.std.proofs.Common.{◌∷◌, ◌++◌, length, refl, ap, sym, ◌∙◌, arith, append_assoc}
use Rattle.std.proofs.lemmas.List.{append-nil}
use Rattle.std.proofs.lemmas.Bool.Decides.{nat_tests}
use mathlib.Core.List.{IsPrefix}
use Rattle.lgm_board.specs.Lists.{joined}

pub prefix_self : {A : Type 0} (xs : List A) → IsPrefix xs xs
prefix_self xs = ([], append-nil xs)

pub prefix_trans : {A : Type 0} (xs ys zs : List A) → IsPrefix xs ys → IsPrefix ys zs → IsPrefix xs zs
prefix_trans xs ys zs p q = (p.0 ++ q.0, sym (append_assoc xs p.0 q.0) ∙ (ap (λ w. w ++ q.0) p.1 ∙ q.1))

-- of two prefixes of one list the shorter is a prefix of the longer
pub prefix_shorter : {A : Type 0} (xs ys zs : List A) → IsPrefix xs zs → IsPrefix ys zs → length xs ≤ length ys → IsPrefix xs ys
prefix_shorter [] ys zs p q le = (ys, refl)
prefix_shorter (x ∷ xs) [] zs p q le = absurd (omega arith)
prefix_shorter (x ∷ xs) (y ∷ ys) [] p q le = absurd (cc (p.1))
prefix_shorter (x ∷ xs) (y ∷ ys) (z ∷ zs) p q le =
    let heads : x ≡ y = cc (p.1, q.1) in
    let rest = prefix_shorter xs ys zs (p.0, cc (p.1)) (q.0, cc (q.1)) (omega arith) in
    (rest.0, cc (heads, rest.1))

-- a prefix as long as the whole list is the list
pub prefix_whole : {A : Type 0} (xs ys : List A) → IsPrefix xs ys → length ys ≤ length xs → xs ≡ ys
prefix_whole [] [] p le = refl
prefix_whole [] (y ∷ ys) p le = absurd (omega arith)
prefix_whole (x ∷ xs) [] p le = absurd (cc (p.1))
prefix_whole (x ∷ xs) (y ∷ ys) p le =
    let rest = prefix_whole xs ys (p.0, cc (p.1)) (omega arith) in cc (p.1, rest)

pub joined_append : {A : Type 0} (xs ys : List (List A)) → joined (xs ++ ys) ≡ joined xs ++ joined ys
joined_append [] ys = refl
joined_append (x ∷ xs) ys = ap (λ w. x ++ w) (joined_append xs ys) ∙ sym (append_assoc x (joined xs) (joined ys))

-- more pieces, more operations
pub joined_prefix : {A : Type 0} (xs ys : List (List A)) → IsPrefix xs ys → IsPrefix (joined xs) (joined ys)
joined_prefix xs ys p = (joined p.0, sym (joined_append xs p.0) ∙ ap joined p.1)

-- two lists that one book has reached, the first of which is no longer
pub joined_shorter : {A : Type 0} (xs ys zs : List (List A)) → IsPrefix xs zs → IsPrefix ys zs
    → length (joined xs) ≤ length (joined ys) → IsPrefix (joined xs) (joined ys)
joined_shorter xs ys zs p q le = prefix_shorter (joined xs) (joined ys) (joined zs) (joined_prefix xs zs p) (joined_prefix ys zs q) le

compares : {A : Type 0} (xs ys zs : List (List A)) (m n : ℕ) (b : Bool) → leb m n ≡ b → m ≡ length (joined xs)
    → n ≡ length (joined ys) → IsPrefix xs zs → IsPrefix ys zs
    → MatchBool b (IsPrefix (joined xs) (joined ys)) (IsPrefix (joined ys) (joined xs))
compares xs ys zs m n true is mx ny p q = let le : m ≤ n = grind (arith, nat_tests) in joined_shorter xs ys zs p q (omega (arith, mx, ny))
compares xs ys zs m n false is mx ny p q = let lt : n < m = grind (arith, nat_tests) in joined_shorter ys xs zs q p (omega (arith, mx, ny))

-- comparing the lengths of two lists that one book has reached says which is a prefix of the other
pub compared : {A : Type 0} (xs ys zs : List (List A)) (m n : ℕ) → m ≡ length (joined xs) → n ≡ length (joined ys) → IsPrefix xs zs → IsPrefix ys zs
    → MatchBool (leb m n) (IsPrefix (joined xs) (joined ys)) (IsPrefix (joined ys) (joined xs))
compared xs ys zs m n = compares xs ys zs m n (leb m n) refl
