-- The first of some edges with a name, among those that are laid over the map.
use Rattle.std.proofs.Common.{◌≡◌, ◌⊎◌, inl, inr, ℕ, Bool, true, false, ◌&&◌, List, [], ◌∷◌, ◌++◌, Option, Some, None}
use Rattle.std.proofs.Common.{true≢false, ◌||◌, refl, sym, ap, subst, ◌∙◌}
use Rattle.std.specs.Prelude.{◌==◌, cond, fold, map, find}
use Rattle.std.specs.List.{list_any}
use Rattle.std.specs.Option.{option_map, option_or}
use Rattle.std.proofs.lemmas.List.Folds.{find-append}
use Rattle.std.proofs.lemmas.Bool.{and_parts, eqb-true, eq-eqb}
use Rattle.lgm_wire.specs.declared.point.Point.{Point}
use Rattle.lgm_store.specs.Rows.{is_point}
use Rattle.lgm_store.proofs.Points.{same_point, is_point-self}
use Rattle.lgm_graph.specs.declared.overlay.ExtraEdge.{ExtraEdge}
use Rattle.lgm_graph.specs.declared.route.Hop.{Hop}
use Rattle.lgm_graph.specs.Edges.{PointEdge}
use Rattle.lgm_graph.specs.Overlay.{extra_edge, has_key, is_named, with_first, firsts}
use Rattle.lgm_graph.proofs.Members.{Among, Among-either}
use Rattle.lgm_odds.specs.RouteOdds.{named}
use Rattle.lgm_payer.specs.Payments.{PaymentState}
use Rattle.lgm_payer.specs.Overlays.{spared, extra_of}

-- ---- what is found

find_alike : {X : Type 0} (p q : X → Bool) (xs : List X) → ((x : X) → p x ≡ q x) → find p xs ≡ find q xs
find_alike p q [] same = refl
find_alike p q (x ∷ xs) same =
    ap (λ b. cond b (Some x) (find p xs)) (same x) ∙ ap (λ rest. cond (q x) (Some x) rest) (find_alike p q xs same)

find_map : {X Y : Type 0} (p : Y → Bool) (f : X → Y) (xs : List X) → find p (map f xs) ≡ option_map f (find (λ x. p (f x)) xs)
find_map p f [] = refl
find_map p f (x ∷ xs) = by (p (f x)) (find_map p f xs)
  where
    by : (b : Bool) → find p (map f xs) ≡ option_map f (find (λ x. p (f x)) xs)
        → cond b (Some (f x)) (find p (map f xs)) ≡ option_map f (cond b (Some x) (find (λ x. p (f x)) xs))
    by true rest = refl
    by false rest = rest

-- where none is, nothing is found
pub none_found : {X : Type 0} (p : X → Bool) (xs : List X) → list_any p xs ≡ false → find p xs ≡ None
none_found p [] none = refl
none_found p (x ∷ xs) none = by (none_found p xs) (p x) refl none
  where
    by : (list_any p xs ≡ false → find p xs ≡ None) → (b : Bool) → p x ≡ b → (b || list_any p xs) ≡ false → find p (x ∷ xs) ≡ None
    by others true is never = absurd (true≢false never)
    by others false is never = rw is (others never)

-- ---- keys

is_point_sym : (p q : Point) → is_point p q ≡ is_point q p
is_point_sym p q = by (is_point p q) (is_point q p) refl refl
  where
    by : (a b : Bool) → is_point p q ≡ a → is_point q p ≡ b → is_point p q ≡ is_point q p
    by true true one other = one ∙ sym other
    by false false one other = one ∙ sym other
    by true false one other =
        absurd (true≢false (sym (ap (λ (r : Point). is_point r p) (sym (same_point p q one)) ∙ is_point-self p) ∙ other))
    by false true one other =
        absurd (true≢false (sym (ap (λ (r : Point). is_point r q) (sym (same_point q p other)) ∙ is_point-self q) ∙ one))

key_alike : (scid : ℕ) (from : Point) (edge : ExtraEdge) → has_key scid from (extra_edge edge) ≡ (edge.scid == scid && is_point edge.from from)
key_alike scid from edge = ap (λ b. edge.scid == scid && b) (is_point_sym from edge.from)

-- an edge has its own key, and where it has another one's, that has its
own_key : (edge : PointEdge) → has_key edge.scid edge.from edge ≡ true
own_key edge = rw (eq-eqb edge.scid edge.scid refl, is_point-self edge.from) refl

named_by : (before : List PointEdge) (edge other : PointEdge) → has_key edge.scid edge.from other ≡ true
    → is_named before other ≡ is_named before edge
named_by before edge other is =
    let both = and_parts _ _ is in
    let scid : other.scid ≡ edge.scid = eqb-true other.scid edge.scid both.0 in
    let from : edge.from ≡ other.from = same_point edge.from other.from both.1 in
    ap (λ n. list_any (has_key n other.from) before) scid ∙ ap (λ (p : Point). list_any (has_key edge.scid p) before) (sym from)

any_last : (p : PointEdge → Bool) (before : List PointEdge) (edge : PointEdge) → list_any p (before ++ edge ∷ []) ≡ false
    → (list_any p before ≡ false) × (p edge ≡ false)
any_last p [] edge none = by (p edge) refl none
  where
    by : (b : Bool) → p edge ≡ b → (b || false) ≡ false → (false ≡ false) × (p edge ≡ false)
    by true is never = absurd (true≢false never)
    by false is never = (refl, is)
any_last p (first ∷ before) edge none = by (any_last p before edge) (p first) refl none
  where
    by : (list_any p (before ++ edge ∷ []) ≡ false → (list_any p before ≡ false) × (p edge ≡ false))
        → (b : Bool) → p first ≡ b → (b || list_any p (before ++ edge ∷ [])) ≡ false
        → (list_any p (first ∷ before) ≡ false) × (p edge ≡ false)
    by others true is never = absurd (true≢false never)
    by others false is never = let rest = others never in (rw is rest.0, rest.1)

-- ---- the first of each key is the one that is found

-- those before have it, or it has a key of its own and is found
IsFirst : List PointEdge → List PointEdge → PointEdge → Type 0
IsFirst before edges edge =
    Among before edge ⊎ ((is_named before edge ≡ false) × (find (has_key edge.scid edge.from) edges ≡ Some edge))

first_of : (before edges : List PointEdge) (edge : PointEdge) → Among (fold with_first before edges) edge → IsFirst before edges edge
unfolding IsFirst
first_of before [] edge there = inl there
first_of before (e ∷ es) edge there = step (is_named before e) refl (first_of (with_first before e) es edge there)
  where
    found : (is_named before edge ≡ false) → (find (has_key edge.scid edge.from) es ≡ Some edge) → has_key edge.scid edge.from e ≡ false
        → (is_named before edge ≡ false) × (find (has_key edge.scid edge.from) (e ∷ es) ≡ Some edge)
    found none is other = (none, rw other is)

    kept : is_named before e ≡ true → (b : Bool) → has_key edge.scid edge.from e ≡ b → is_named before edge ≡ false
        → has_key edge.scid edge.from e ≡ false
    kept is true same none = absurd (true≢false (sym is ∙ named_by before edge e same ∙ none))
    kept is false same none = same

    step : (b : Bool) → is_named before e ≡ b
        → Among (with_first before e) edge ⊎ ((is_named (with_first before e) edge ≡ false) × (find (has_key edge.scid edge.from) es ≡ Some edge))
        → Among before edge ⊎ ((is_named before edge ≡ false) × (find (has_key edge.scid edge.from) (e ∷ es) ≡ Some edge))
    step true is rest = which (rw is at rest)
      where
        which : Among before edge ⊎ ((is_named before edge ≡ false) × (find (has_key edge.scid edge.from) es ≡ Some edge))
            → Among before edge ⊎ ((is_named before edge ≡ false) × (find (has_key edge.scid edge.from) (e ∷ es) ≡ Some edge))
        which (inl there) = inl there
        which (inr more) = inr (found more.0 more.1 (kept is (has_key edge.scid edge.from e) refl more.0))
    step false is rest = which (rw is at rest)
      where
        last : Among before edge ⊎ Among (e ∷ []) edge
            → Among before edge ⊎ ((is_named before edge ≡ false) × (find (has_key edge.scid edge.from) (e ∷ es) ≡ Some edge))
        last (inl there) = inl there
        last (inr (inl same)) =
            inr (subst (λ (x : PointEdge). (is_named before x ≡ false) × (find (has_key x.scid x.from) (e ∷ es) ≡ Some x)) same
            (is, rw (own_key e) refl))
        last (inr (inr none)) = absurd none

        which : Among (before ++ e ∷ []) edge ⊎ ((is_named (before ++ e ∷ []) edge ≡ false) × (find (has_key edge.scid edge.from) es ≡ Some edge))
            → Among before edge ⊎ ((is_named before edge ≡ false) × (find (has_key edge.scid edge.from) (e ∷ es) ≡ Some edge))
        which (inl there) = last (Among-either before (e ∷ []) edge there)
        which (inr more) = let none = any_last (has_key edge.scid edge.from) before e more.0 in inr (found none.0 more.1 none.1)

pub first_found : (edges : List PointEdge) (edge : PointEdge) → Among (firsts edges) edge → find (has_key edge.scid edge.from) edges ≡ Some edge
unfolding IsFirst
first_found edges edge there = by (first_of [] edges edge there)
  where
    by : Among [] edge ⊎ ((is_named [] edge ≡ false) × (find (has_key edge.scid edge.from) edges ≡ Some edge))
        → find (has_key edge.scid edge.from) edges ≡ Some edge
    by (inl none) = absurd none
    by (inr found) = found.1

-- ---- among a payment's edges

-- what is found with a name: the first of the payer's channels with it, or else the first of the hints
pub laid_found : (payment : PaymentState) (own : List ExtraEdge) (since busy : List Hop) (scid : ℕ) (from : Point)
    → find (has_key scid from) (map extra_edge (extra_of payment own since busy))
    ≡ option_map extra_edge (option_or (option_map (spared since) (named own scid from)) (option_map (spared busy) (named payment.hints scid from)))
laid_found payment own since busy scid from =
    let key : ExtraEdge → Bool = λ edge. has_key scid from (extra_edge edge) in
    let name : ExtraEdge → Bool = λ edge. edge.scid == scid && is_point edge.from from in
    find_map (has_key scid from) extra_edge (extra_of payment own since busy)
    ∙ ap (option_map extra_edge) (find-append key (map (spared since) own) (map (spared busy) payment.hints)
    ∙ ap (λ (first : Option ExtraEdge). option_or first (find key (map (spared busy) payment.hints)))
    (find_map key (spared since) own ∙ ap (option_map (spared since)) (find_alike key name own (key_alike scid from)))
    ∙ ap (option_or (option_map (spared since) (named own scid from)))
    (find_map key (spared busy) payment.hints ∙ ap (option_map (spared busy)) (find_alike key name payment.hints (key_alike scid from))))
