-- Elements of lists, and of lists made from them.
use Rattle.std.proofs.Common.{◌≡◌, ◌⊎◌, inl, inr, ℕ, ◌<◌, Bool, true, false, cond, List, [], ◌∷◌, ◌++◌}
use Rattle.std.proofs.Common.{length, map, get_or, zero, suc, refl, sym, ap, ◌∙◌, arith, true≢false}
use Rattle.std.specs.List.{AllByRecursion, Contains, filter, flat_map}

-- an element of the list
abbrev pub Among : {X : Type 0} → List X → X → Type 0
Among [] x = ⊥
Among (y ∷ ys) x = (y ≡ x) ⊎ Among ys x

module _ {X : Type 0} where
  pub Contains-Among : (xs : List X) (x : X) → Among xs x → Contains xs x
  Contains-Among [] x none = absurd none
  Contains-Among (y ∷ ys) x (inl same) = (zero, omega arith, same)
  Contains-Among (y ∷ ys) x (inr more) = let rest = Contains-Among ys x more in (suc rest.0, omega (arith, rest.1), rest.2)

  at_place : (xs : List X) (k : ℕ) (x : X) → k < length xs → get_or xs k x ≡ x → Among xs x
  at_place [] k x lt same = absurd (omega (arith, lt))
  at_place (y ∷ ys) zero x lt same = inl same
  at_place (y ∷ ys) (suc k) x lt same = inr (at_place ys k x (omega (arith, lt)) same)

  pub Among-Contains : (xs : List X) (x : X) → Contains xs x → Among xs x
  Among-Contains xs x there = at_place xs there.0 x there.1 there.2

  pub Among-left : (xs ys : List X) (x : X) → Among xs x → Among (xs ++ ys) x
  Among-left [] ys x none = absurd none
  Among-left (z ∷ zs) ys x (inl same) = inl same
  Among-left (z ∷ zs) ys x (inr more) = inr (Among-left zs ys x more)

  pub Among-right : (xs ys : List X) (x : X) → Among ys x → Among (xs ++ ys) x
  Among-right [] ys x there = there
  Among-right (z ∷ zs) ys x there = inr (Among-right zs ys x there)

  pub Among-either : (xs ys : List X) (x : X) → Among (xs ++ ys) x → Among xs x ⊎ Among ys x
  Among-either [] ys x there = inr there
  Among-either (z ∷ zs) ys x (inl same) = inl (inl same)
  Among-either (z ∷ zs) ys x (inr more) = by (Among-either zs ys x more)
    where
      by : Among zs x ⊎ Among ys x → Among (z ∷ zs) x ⊎ Among ys x
      by (inl first) = inl (inr first)
      by (inr second) = inr second

  pub Among-passes : (p : X → Bool) (xs : List X) (x : X) → Among xs x → p x ≡ true → Among (filter p xs) x
  Among-passes p [] x none is = absurd none
  Among-passes p (y ∷ ys) x there is = by (Among-passes p ys x) (p y) refl there
    where
      by : (Among ys x → p x ≡ true → Among (filter p ys) x) → (b : Bool) → p y ≡ b → (y ≡ x) ⊎ Among ys x
          → Among (cond (p y) (y ∷ filter p ys) (filter p ys)) x
      by others true e (inl same) = rw e (inl same)
      by others true e (inr more) = rw e (inr (others more is))
      by others false e (inl same) = absurd (true≢false (sym is ∙ ap p (sym same) ∙ e))
      by others false e (inr more) = rw e (others more is)

  pub Among-passed : (p : X → Bool) (xs : List X) (x : X) → Among (filter p xs) x → Among xs x × (p x ≡ true)
  Among-passed p [] x none = absurd none
  Among-passed p (y ∷ ys) x there = by (Among-passed p ys x) (p y) refl there
    where
      by : (Among (filter p ys) x → Among ys x × (p x ≡ true)) → (b : Bool) → p y ≡ b
          → Among (cond (p y) (y ∷ filter p ys) (filter p ys)) x → Among (y ∷ ys) x × (p x ≡ true)
      by others true e there = which (rw e at there)
        where
          which : (y ≡ x) ⊎ Among (filter p ys) x → Among (y ∷ ys) x × (p x ≡ true)
          which (inl same) = (inl same, ap p (sym same) ∙ e)
          which (inr more) = let rest = others more in (inr rest.0, rest.1)
      by others false e there = let rest = others (rw e at there) in (inr rest.0, rest.1)

  pub All_among : (P : X → Type 0) (xs : List X) (x : X) → AllByRecursion P xs → Among xs x → P x
  All_among P [] x all none = absurd none
  All_among P (y ∷ ys) x all (inl same) = rw (← same) all.0
  All_among P (y ∷ ys) x all (inr more) = All_among P ys x all.1 more

module _ {X Y : Type 0} (f : X → Y) where
  pub Among-mapped : (xs : List X) (y : Y) → Among (map f xs) y → (x : X) × Among xs x × (f x ≡ y)
  Among-mapped [] y none = absurd none
  Among-mapped (x ∷ xs) y (inl same) = (x, inl refl, same)
  Among-mapped (x ∷ xs) y (inr more) = let rest = Among-mapped xs y more in (rest.0, inr rest.1, rest.2)

  pub Among-map : (xs : List X) (x : X) → Among xs x → Among (map f xs) (f x)
  Among-map [] x none = absurd none
  Among-map (y ∷ ys) x (inl same) = inl (ap f same)
  Among-map (y ∷ ys) x (inr more) = inr (Among-map ys x more)

module _ {X Y : Type 0} (f : X → List Y) where
  pub Among-flat : (xs : List X) (x : X) (y : Y) → Among xs x → Among (f x) y → Among (flat_map f xs) y
  Among-flat [] x y none there = absurd none
  Among-flat (z ∷ zs) x y (inl same) there = Among-left (f z) (flat_map f zs) y (rw same there)
  Among-flat (z ∷ zs) x y (inr more) there = Among-right (f z) (flat_map f zs) y (Among-flat zs x y more there)

  pub Among-flattened : (xs : List X) (y : Y) → Among (flat_map f xs) y → (x : X) × Among xs x × Among (f x) y
  Among-flattened [] y none = absurd none
  Among-flattened (x ∷ xs) y there = by (Among-flattened xs y) (Among-either (f x) (flat_map f xs) y there)
    where
      by : (Among (flat_map f xs) y → (z : X) × Among xs z × Among (f z) y)
          → Among (f x) y ⊎ Among (flat_map f xs) y → (z : X) × Among (x ∷ xs) z × Among (f z) y
      by others (inl first) = (x, inl refl, first)
      by others (inr second) = let rest = others second in (rest.0, inr rest.1, rest.2)
