-- Answers, one for each request of a list.
use Rattle.std.proofs.Common.{List, [], ◌∷◌}
use Rattle.std.specs.List.{AllByRecursion, AllZip}

-- what holds of each request, and of it and its answer
pub zip_each : {A B : Type 0} (P : A → Type 0) (R S : A → B → Type 0) → ((x : A) (y : B) → P x → R x y → S x y)
    → (xs : List A) (ys : List B) → AllByRecursion P xs → AllZip R xs ys → AllZip S xs ys
zip_each P R S both [] [] each all = tt
zip_each P R S both [] (y ∷ ys) each all = absurd all
zip_each P R S both (x ∷ xs) [] each all = absurd all
zip_each P R S both (x ∷ xs) (y ∷ ys) each all = (both x y each.0 all.0, zip_each P R S both xs ys each.1 all.1)
