-- Iterators over messages.
use Rattle.std.proofs.Common.{◌≡◌, ℕ, List, [], ◌∷◌, Option, Some, None, Bor, refl, sym, ap, subst}
use Rattle.std.specs.Iterator.{AlwaysYields, YieldsFirstRef}

module _ {S : Type 0} (steps : S → Option (Bor (List ℕ)) → S → Type 0) where
  -- these messages come, and then no more
  abbrev pub Gives : S → List (List ℕ) → Type 0
  Gives = AlwaysYields steps (λ message. message.now)

  -- those behind the next one
  pub record GaveOne (t : S) (message : Bor (List ℕ)) (all : List (List ℕ)) : Type 0 where
    pub others : List (List ℕ)
    pub is : all ≡ message.now ∷ others
    pub left : Gives t others

  pub gave_one : (all : List (List ℕ)) (s t : S) (message : Bor (List ℕ)) → Gives s all
      → steps s (Some message) t
      → GaveOne t message all
  gave_one [] s t message gives step = absurd (gives message t step)
  gave_one (first ∷ others) s t message gives step =
      let more = gives.1 message t step in
      record { others = others; is = ap (λ m. m ∷ others) (sym more.0); left = more.1 }

  pub gave_all : (all : List (List ℕ)) (s t : S) → Gives s all → steps s None t → all ≡ []
  gave_all [] s t gives step = refl
  gave_all (first ∷ others) s t gives step = absurd (gives.0 t step)

-- an iterator that contracts see as the list of the messages still to come
abbrev pub of_list : List (List ℕ) → Option (Bor (List ℕ)) → List (List ℕ) → Type 0
of_list = YieldsFirstRef (λ left. left)

gives_list : (all : List (List ℕ)) → Gives of_list all all
gives_list [] = λ message t step. absurd (let bad : [] ≡ message.now ∷ t = step in cc)
gives_list (first ∷ others) = (
  λ t step. absurd (let bad : first ∷ others ≡ [] = step.0 in cc),
  λ message t step.
      let same : first ∷ others ≡ message.now ∷ t = step in
      let left : others ≡ t = cc in
      (cc, subst (λ l. Gives of_list l others) left (gives_list others)),
)

pub gives_as : {it all : List (List ℕ)} → it ≡ all → Gives of_list it all
gives_as {it} is = subst (Gives of_list it) is (gives_list it)
