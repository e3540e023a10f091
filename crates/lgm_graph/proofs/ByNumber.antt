-- Lists by the numbers of points.
use Rattle.std.proofs.Common.{◌≡◌, ℕ, ◌<◌, ◌≤◌, true, false, List, [], ◌∷◌, length, map, get_or, zero, suc, refl, sym, ap, Some, arith, true≢false}
use Rattle.std.specs.List.{slice_get}
use Rattle.lgm_wire.specs.declared.point.Point.{Point}
use Rattle.lgm_graph.specs.Graph.{GraphNode, bare_node}
use Rattle.lgm_graph.specs.inner.Overlaying.{by_number}

module _ {X : Type 0} where
  pub long_by : (f : ℕ → X) (points : List Point) → length (by_number f points) ≡ length points
  long_by f [] = refl
  long_by f (p ∷ ps) = ap suc (long_by (λ n. f (suc n)) ps)

  pub get_by : (f : ℕ → X) (points : List Point) (n : ℕ) (d : X) → n < length points → get_or (by_number f points) n d ≡ f n
  get_by f [] n d lt = absurd (omega (arith, lt))
  get_by f (p ∷ ps) zero d lt = refl
  get_by f (p ∷ ps) (suc n) d lt = get_by (λ m. f (suc m)) ps n d (omega (arith, lt))

  pub get_past : (f : ℕ → X) (points : List Point) (n : ℕ) (d : X) → length points ≤ n → get_or (by_number f points) n d ≡ d
  get_past f [] n d le = refl
  get_past f (p ∷ ps) zero d le = absurd (omega (arith, le))
  get_past f (p ∷ ps) (suc n) d le = get_past (λ m. f (suc m)) ps n d (omega (arith, le))

  -- what is so at each number is so of the list
  pub by_is : (f : ℕ → X) (F : Point → X) (points : List Point) → ((n : ℕ) (p : Point) → slice_get points n ≡ Some p → f n ≡ F p)
      → by_number f points ≡ map F points
  by_is f F [] each = refl
  by_is f F (p ∷ ps) each = rw (each 0 p refl, by_is (λ n. f (suc n)) F ps (λ n q at. each (suc n) q at)) refl

-- a number at which a node takes payments has one
pub within_by : (f : ℕ → GraphNode) (points : List Point) (n : ℕ) → (get_or (by_number f points) n (bare_node false)).accepts_payments ≡ true
    → n < length points
within_by f [] n is = absurd (true≢false (sym is))
within_by f (p ∷ ps) zero is = omega arith
within_by f (p ∷ ps) (suc n) is = let rest = within_by (λ m. f (suc m)) ps n is in omega (arith, rest)
