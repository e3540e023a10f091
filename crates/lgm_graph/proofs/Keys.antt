-- The keys of edges: a node and an id.
use Rattle.std.proofs.Common.{◌≡◌, ◌⊎◌, inl, inr, Bool, true, false, cond, ◌||◌, List, [], ◌∷◌, ◌++◌}
use Rattle.std.proofs.Common.{refl, sym, ap, ◌∙◌, true≢false}
use Rattle.std.specs.Prelude.{fold}
use Rattle.std.specs.List.{list_any}
use Rattle.std.proofs.lemmas.Bool.{and_parts, eqb-true, eq-eqb}
use Rattle.std.proofs.lemmas.List.Folds.{list_any-append}
use Rattle.lgm_wire.specs.declared.point.Point.{Point}
use Rattle.lgm_store.specs.Rows.{is_point}
use Rattle.lgm_store.proofs.Points.{same_point, is_point-self}
use Rattle.lgm_graph.specs.Edges.{PointEdge}
use Rattle.lgm_graph.specs.Overlay.{has_key, is_named, with_first}
use Rattle.lgm_graph.proofs.Members.{Among, Among-left, Among-either}

pub any_among : {X : Type 0} (p : X → Bool) (xs : List X) (x : X) → Among xs x → p x ≡ true → list_any p xs ≡ true
any_among p [] x none is = absurd none
any_among p (y ∷ ys) x (inl same) is = let own : p y ≡ true = ap p same ∙ is in rw own refl
any_among p (y ∷ ys) x (inr more) is = by (any_among p ys x more is) (p y)
  where
    by : list_any p ys ≡ true → (b : Bool) → (b || list_any p ys) ≡ true
    by rest true = refl
    by rest false = rest

pub or_false : (b : Bool) → (b || false) ≡ b
or_false true = refl
or_false false = refl

-- ---- the same key

-- the edges have the same key
abbrev pub is_same_key : PointEdge → PointEdge → Bool
is_same_key edge other = has_key edge.scid edge.from other

pub key_parts : (edge other : PointEdge) → is_same_key edge other ≡ true → (other.scid ≡ edge.scid) × (edge.from ≡ other.from)
key_parts edge other is =
    let both = and_parts _ _ is in
    (eqb-true other.scid edge.scid both.0, same_point edge.from other.from both.1)

pub key_of_parts : (edge other : PointEdge) → edge.scid ≡ other.scid → edge.from ≡ other.from → is_same_key edge other ≡ true
key_of_parts edge other id from =
    let one = eq-eqb other.scid edge.scid (sym id) in
    let two = ap (λ (p : Point). is_point p other.from) from ∙ is_point-self other.from in
    rw (one, two) refl

-- edges with one key are named alike
key_alike : (edge other : PointEdge) → is_same_key edge other ≡ true → (third : PointEdge) → is_same_key edge third ≡ is_same_key other third
key_alike edge other is third =
    let both = key_parts edge other is in
    ap (λ n. has_key n edge.from third) (sym both.0) ∙ ap (λ (p : Point). has_key other.scid p third) both.1

-- an edge among others names each with its key
pub names : (edges : List PointEdge) (edge other : PointEdge) → Among edges edge → edge.scid ≡ other.scid → edge.from ≡ other.from
    → is_named edges other ≡ true
names edges edge other there id from =
    any_among (has_key other.scid other.from) edges edge there (key_of_parts other edge (sym id) (sym from))

-- ---- of each key the first edge

pub firsts_name : (edge : PointEdge) (before edges : List PointEdge)
    → is_named (fold with_first before edges) edge ≡ (is_named before edge || is_named edges edge)
firsts_name edge before [] = sym (or_false (is_named before edge))
firsts_name edge before (e ∷ es) = firsts_name edge (with_first before e) es ∙ step (is_named before e) refl
  where
    last : (a b c : Bool) → ((a || (b || false)) || c) ≡ (a || (b || c))
    last true b c = refl
    last false true c = refl
    last false false c = refl

    -- what is named already
    there : is_named before e ≡ true → (b : Bool) → is_same_key edge e ≡ b → (is_named before edge || is_named es edge)
        ≡ (is_named before edge || (is_same_key edge e || is_named es edge))
    there is true same =
        let own : is_named before edge ≡ true =
        ap (λ (k : PointEdge → Bool). list_any k before) (λ i d. key_alike edge e same d i) ∙ is in
        rw own refl
    there is false same = rw same refl

    step : (b : Bool) → is_named before e ≡ b → (is_named (cond (is_named before e) before (before ++ e ∷ [])) edge || is_named es edge)
        ≡ (is_named before edge || (is_same_key edge e || is_named es edge))
    step true is = rw is (there is (is_same_key edge e) refl)
    step false is =
        rw is (ap (λ b. b || is_named es edge) (list_any-append (is_same_key edge) before (e ∷ [])) ∙ last (is_named before edge) (is_same_key edge e) (is_named es edge))

-- those before stay
pub firsts_keep : (before edges : List PointEdge) (edge : PointEdge) → Among before edge → Among (fold with_first before edges) edge
firsts_keep before [] edge there = there
firsts_keep before (e ∷ es) edge there = firsts_keep (with_first before e) es edge (by (is_named before e))
  where
    by : (b : Bool) → Among (cond b before (before ++ e ∷ [])) edge
    by true = there
    by false = Among-left before (e ∷ []) edge there

-- no two have one key
abbrev pub AreApart : List PointEdge → Type 0
AreApart edges =
    (edge other : PointEdge) → Among edges edge → Among edges other → edge.scid ≡ other.scid → edge.from ≡ other.from → edge ≡ other

pub firsts_apart : (before edges : List PointEdge) → AreApart before → AreApart (fold with_first before edges)
firsts_apart before [] all = all
firsts_apart before (e ∷ es) all = firsts_apart (with_first before e) es (step (is_named before e) refl)
  where
    never : (d : PointEdge) → is_named before e ≡ false → Among before d → d.scid ≡ e.scid → d.from ≡ e.from → ⊥
    never d is there id from = true≢false (sym (names before d e there id from) ∙ is)

    step : (b : Bool) → is_named before e ≡ b → AreApart (cond (is_named before e) before (before ++ e ∷ []))
    step true is = rw is all
    step false is = rw is (λ x y one two. which x y (Among-either before (e ∷ []) x one) (Among-either before (e ∷ []) y two))
      where
        which : (x y : PointEdge) → Among before x ⊎ Among (e ∷ []) x → Among before y ⊎ Among (e ∷ []) y
            → x.scid ≡ y.scid → x.from ≡ y.from → x ≡ y
        which x y (inl one) (inl two) id from = all x y one two id from
        which x y (inl one) (inr (inl same)) id from = absurd (never x is one (id ∙ ap (λ (d : PointEdge). d.scid) (sym same)) (from ∙ ap (λ (d : PointEdge). d.from) (sym same)))
        which x y (inr (inl same)) (inl two) id from = absurd (never y is two (sym id ∙ ap (λ (d : PointEdge). d.scid) (sym same)) (sym from ∙ ap (λ (d : PointEdge). d.from) (sym same)))
        which x y (inr (inl same)) (inr (inl also)) id from = sym same ∙ also
        which x y (inr (inr none)) two id from = absurd none
        which x y one (inr (inr none)) id from = absurd none
