-- Edges that are listed at their nodes, as they change.
use Rattle.std.proofs.Common.{◌≡◌, ◌≢◌, inl, inr, ℕ, ◌+◌, ◌<◌, Bool, true, false, List, [], ◌∷◌, ◌++◌, length, map}
use Rattle.std.proofs.Common.{suc, refl, sym, ap, ◌∙◌, Option, Some, None, option_to_list, arith, true≢false, length-append}
use Rattle.std.specs.Option.{option_map}
use Rattle.std.specs.List.{AllByRecursion, filter}
use Rattle.std.specs.declared.cmp.Ordering.{Ordering}
use Rattle.std.specs.declared.cmp.Ordering.TheVariants.{Equal, Greater}
use Rattle.std.specs.Ordering.{is_lt, is_gt}
use Rattle.std.proofs.lemmas.Bool.{cases_Bool, false_from_ne_true}
use Rattle.std.proofs.lemmas.List.{map-append, append-nil}
use Rattle.std.proofs.lemmas.List.Elements.{filter-append}
use Rattle.lgm_wire.specs.declared.point.Point.{Point}
use Rattle.lgm_store.specs.Rows.{is_point}
use Rattle.lgm_store.proofs.ListLaws.{All-filter, All-to}
use Rattle.lgm_store.proofs.Points.{same_point, is_point-self}
use Rattle.lgm_graph.specs.Edges.{PointEdge}
use Rattle.lgm_graph.specs.declared.edge.Edge.{Edge}
use Rattle.lgm_graph.specs.Graph.{GraphNode, Shows, bare_node, edges_with, node_with, number_of, IsNumbered, IsJoined, numbered_in}
use Rattle.lgm_graph.specs.inner.Lists.{to_key, edge_key, IsCut, put_at}
use Rattle.lgm_graph.specs.inner.Walk.{KeepsNumbers}
use Rattle.lgm_graph.proofs.CarriedEdgeLaws.{IsCut-filter, put_at-none, option_filter, filter-put}

-- ---- lists

module _ {X Y : Type 0} where
  pub map_alike : (F G : X → Y) (xs : List X) → AllByRecursion (λ x. F x ≡ G x) xs → map F xs ≡ map G xs
  map_alike F G [] all = refl
  map_alike F G (x ∷ xs) all = rw (all.0, map_alike F G xs all.1) refl

  -- a test after a map is one before it
  pub filter-map : (f : X → Y) (p : Y → Bool) (xs : List X) → filter p (map f xs) ≡ map f (filter (λ x. p (f x)) xs)
  filter-map f p [] = refl
  filter-map f p (x ∷ xs) = elim (cases_Bool (p (f x))) [
    | inl e ↦ rw (e, filter-map f p xs) refl
    | inr e ↦ rw e (filter-map f p xs)
  ]

  pub put_at-map : (f : X → Y) (h : Y → Ordering) (xs : List X) (o : Option X)
      → put_at h (map f xs) (option_map f o) ≡ map f (put_at (λ x. h (f x)) xs o)
  put_at-map f h xs o =
      rw (filter-map f (λ y. is_lt (h y)) xs, filter-map f (λ y. is_gt (h y)) xs, one o)
      (sym (map-append f (filter (λ x. is_lt (h (f x))) xs ++ option_to_list o) (filter (λ x. is_gt (h (f x))) xs)
      ∙ rw (map-append f (filter (λ x. is_lt (h (f x))) xs) (option_to_list o)) refl))
    where
      one : (o : Option X) → option_to_list (option_map f o) ≡ map f (option_to_list o)
      one None = refl
      one (Some x) = refl

-- what passes, with a fact about each
pub passing : {X : Type 0} (P : X → Type 0) (p : X → Bool) (xs : List X) → AllByRecursion P xs
    → AllByRecursion (λ x. P x × (p x ≡ true)) (filter p xs)
passing P p [] all = tt
passing P p (x ∷ xs) all = elim (cases_Bool (p x)) [
  | inl e ↦ rw e ((all.0, e), passing P p xs all.1)
  | inr e ↦ rw e (passing P p xs all.1)
]

pub turned : (p q : Point) → is_point p q ≡ false → is_point q p ≡ false
turned p q apart = false_from_ne_true (is_point q p)
    (λ e. true≢false (sym (ap (is_point p) (same_point q p e) ∙ is_point-self p) ∙ apart))

-- ---- the edges of one point change

-- at one point the edges change so, and at no other one
abbrev pub IsChangedAt : (PointEdge → Point) → List Point → List PointEdge → List PointEdge → (List Edge → List Edge) → Point → Type 0
IsChangedAt end points edges more change point =
    (edges_with end points more point ≡ change (edges_with end points edges point))
    × ((q : Point) → is_point point q ≡ false → edges_with end points more q ≡ edges_with end points edges q)

module _ (end : PointEdge → Point) (points : List Point) where
  -- a further edge
  pub edges_push : (edges : List PointEdge) (edge : PointEdge)
      → IsChangedAt end points edges (edges ++ edge ∷ []) (λ listed. listed ++ numbered_in points edge ∷ []) (end edge)
  edges_push edges edge = (own, other)
    where
      own : edges_with end points (edges ++ edge ∷ []) (end edge) ≡ edges_with end points edges (end edge) ++ numbered_in points edge ∷ []
      own =
          rw (filter-append (λ e. is_point (end edge) (end e)) edges (edge ∷ []), is_point-self (end edge))
          (map-append (numbered_in points) (filter (λ e. is_point (end edge) (end e)) edges) (edge ∷ []))

      other : (q : Point) → is_point (end edge) q ≡ false → edges_with end points (edges ++ edge ∷ []) q ≡ edges_with end points edges q
      other q apart =
          rw (
            filter-append (λ e. is_point q (end e)) edges (edge ∷ []),
            turned (end edge) q apart,
            append-nil (filter (λ e. is_point q (end e)) edges),
          ) refl

  -- ---- inserting an edge

  module _ (id : ℕ) (second : Bool) (edges : List PointEdge) (edge : Option PointEdge) (target : Point) (cut : IsCut (to_key id second) edges)
      (all : AllByRecursion (λ e. to_key id second e ≡ Equal → end e ≡ target) edges) (own : (e : PointEdge) → edge ≡ Some e → end e ≡ target) where
    -- the edges of a point are in order
    pub edges_cut : (p : Point) → IsCut (edge_key id second) (edges_with end points edges p)
    edges_cut p = IsCut-edges (filter (λ e. is_point p (end e)) edges) (IsCut-filter (to_key id second) (λ e. is_point p (end e)) edges cut)
      where
        above : (es : List PointEdge) → AllByRecursion (λ e. to_key id second e ≡ Greater) es
            → AllByRecursion (λ l. edge_key id second l ≡ Greater) (map (numbered_in points) es)
        above [] a = tt
        above (e ∷ es) a = (a.0, above es a.1)

        IsCut-edges : (es : List PointEdge) → IsCut (to_key id second) es → IsCut (edge_key id second) (map (numbered_in points) es)
        IsCut-edges [] cut = tt
        IsCut-edges (e ∷ es) (inl below) = inl (below.0, IsCut-edges es below.1)
        IsCut-edges (e ∷ es) (inr more) = inr (more.0, above es more.1)

    pub edges_put : IsChangedAt end points edges (put_at (to_key id second) edges edge)
        (λ listed. put_at (edge_key id second) listed (option_map (numbered_in points) edge)) target
    edges_put = (at_target, other)
      where
        test : Point → PointEdge → Bool
        test = λ p e. is_point p (end e)

        stays : (o : Option PointEdge) → edge ≡ o → option_filter (λ e. is_point target (end e)) o ≡ o
        stays None is = refl
        stays (Some e) is = let self : is_point target (end e) ≡ true = ap (is_point target) (own e is) ∙ is_point-self target in rw self refl

        at_target : edges_with end points (put_at (to_key id second) edges edge) target
            ≡ put_at (edge_key id second) (edges_with end points edges target) (option_map (numbered_in points) edge)
        at_target = ap (map (numbered_in points)) (filter-put (to_key id second) (λ e. is_point target (end e)) edges edge
            ∙ ap (put_at (to_key id second) (filter (λ e. is_point target (end e)) edges)) (stays edge refl))
            ∙ sym (put_at-map (numbered_in points) (edge_key id second) (filter (λ e. is_point target (end e)) edges) edge)

        never : (p : Point) → is_point target p ≡ false → (e : PointEdge) → end e ≡ target → is_point p (end e) ≡ true → ⊥
        never p other e is passes =
            let same : p ≡ target = same_point p (end e) passes ∙ is in
            let self : is_point target p ≡ true = ap (is_point target) same ∙ is_point-self target in
            true≢false (sym self ∙ other)

        gone : (p : Point) → is_point target p ≡ false → (o : Option PointEdge) → edge ≡ o → option_filter (λ e. is_point p (end e)) o ≡ None
        gone p other None is = refl
        gone p other (Some e) is = rw (false_from_ne_true (is_point p (end e)) (never p other e (own e is))) refl

        apart : (p : Point) → is_point target p ≡ false → AllByRecursion (λ e. to_key id second e ≢ Equal) (filter (λ e. is_point p (end e)) edges)
        apart p other = All-to (λ e. (to_key id second e ≡ Equal → end e ≡ target) × (is_point p (end e) ≡ true)) (λ e. to_key id second e ≢ Equal) _
            (λ e is k. never p other e (is.0 k) is.1) (passing (λ e. to_key id second e ≡ Equal → end e ≡ target) (λ e. is_point p (end e)) edges all)

        other : (q : Point) → is_point target q ≡ false → edges_with end points (put_at (to_key id second) edges edge) q ≡ edges_with end points edges q
        other q away = ap (map (numbered_in points)) (filter-put (to_key id second) (λ e. is_point q (end e)) edges edge
            ∙ ap (put_at (to_key id second) (filter (λ e. is_point q (end e)) edges)) (gone q away edge refl)
            ∙ put_at-none (to_key id second) (filter (λ e. is_point q (end e)) edges)
            (IsCut-filter (to_key id second) (λ e. is_point q (end e)) edges cut) (apart q away))

-- ---- a further point

pub number_append : (points : List Point) (p q : Point) → IsNumbered points q → number_of (points ++ p ∷ []) q ≡ number_of points q
number_append [] p q there = absurd (omega (arith, there))
number_append (r ∷ rs) p q there = elim (cases_Bool (is_point q r)) [
  | inl e ↦ rw e refl
  | inr e ↦
      let next : 1 + number_of rs q ≡ suc (number_of rs q) = omega arith in
      let fits : suc (number_of rs q) < suc (length rs) = rw (e, next) at there in
      rw e (ap (λ n. 1 + n) (number_append rs p q (omega (arith, fits))))
]

pub numbered_append : (points : List Point) (p : Point) → KeepsNumbers points (points ++ p ∷ [])
numbered_append points p q there = let same = number_append points p q there in (same, omega (arith, same, there, length-append points (p ∷ [])))

pub numbered_last : (points : List Point) (p : Point) → (IsNumbered points p → ⊥)
    → (number_of (points ++ p ∷ []) p ≡ length points) × IsNumbered (points ++ p ∷ []) p
numbered_last [] p new = rw (is_point-self p) (refl, omega arith)
numbered_last (r ∷ rs) p new = elim (cases_Bool (is_point p r)) [
  | inl e ↦ let there : IsNumbered (r ∷ rs) p = rw e (omega arith) in absurd (new there)
  | inr e ↦
      let rest = numbered_last rs p (λ h. new (let there : IsNumbered (r ∷ rs) p = rw e (omega (arith, h)) in there)) in
      rw e (omega (arith, rest.0), omega (arith, rest.1))
]

-- edges by numbers stay
pub edges_kept : (points more : List Point) (edges : List PointEdge) → KeepsNumbers points more → AllByRecursion (IsJoined points) edges
    → AllByRecursion (λ e. numbered_in points e ≡ numbered_in more e) edges
edges_kept points more edges keeps joined = All-to (IsJoined points) (λ e. numbered_in points e ≡ numbered_in more e) edges
    (λ e both. let from = keeps e.from both.0 in let to = keeps e.to both.1 in rw (from.0, to.0) refl) joined

-- no edge has an end without a number
pub none_at : (end : PointEdge → Point) (points : List Point) (p : Point) (edges : List PointEdge)
    → (IsNumbered points p → ⊥) → AllByRecursion (λ e. IsNumbered points (end e)) edges
    → filter (λ e. is_point p (end e)) edges ≡ []
none_at end points p [] new all = refl
none_at end points p (e ∷ es) new all = elim (cases_Bool (is_point p (end e))) [
  | inl is ↦ absurd (new (rw (same_point p (end e) is) all.0))
  | inr is ↦ rw is (none_at end points p es new all.1)
]

-- the edges of each point stay, and the further point has none
edges_more : (end : PointEdge → Point) (points : List Point) (p : Point) (edges : List PointEdge)
    → AllByRecursion (IsJoined points) edges → (q : Point) → edges_with end points edges q ≡ edges_with end (points ++ p ∷ []) edges q
edges_more end points p edges joined q =
    map_alike (numbered_in points) (numbered_in (points ++ p ∷ [])) (filter (λ e. is_point q (end e)) edges)
    (All-filter (λ e. numbered_in points e ≡ numbered_in (points ++ p ∷ []) e) (λ e. is_point q (end e)) edges
    (edges_kept points (points ++ p ∷ []) edges (numbered_append points p) joined))

pub shows_more : (accepts : Point → Bool) (edges : List PointEdge) (points : List Point) (nodes : List GraphNode) (p : Point)
    → (IsNumbered points p → ⊥) → Shows accepts edges points nodes
    → Shows accepts edges (points ++ p ∷ []) (nodes ++ bare_node (accepts p) ∷ [])
shows_more accepts edges points nodes p new shows = record {
  joined = All-to (IsJoined points) (IsJoined (points ++ p ∷ [])) edges
      (λ e both. ((numbered_append points p e.from both.0).1, (numbered_append points p e.to both.1).1)) shows.joined;
  nodes_are = rw (
    shows.nodes_are,
    map-append (node_with accepts (points ++ p ∷ []) edges) points (p ∷ []),
    none_at (λ e. e.to) points p edges new (All-to (IsJoined points) (λ e. IsNumbered points e.to) edges (λ e both. both.1) shows.joined),
    none_at (λ e. e.from) points p edges new (All-to (IsJoined points) (λ e. IsNumbered points e.from) edges (λ e both. both.0) shows.joined),
    ap (λ (F : Point → GraphNode). map F points) stays,
  ) refl;
}
  where
    stays : node_with accepts points edges ≡ node_with accepts (points ++ p ∷ []) edges
    stays = λ i q. record {
      accepts_payments = accepts q;
      into = edges_more (λ e. e.to) points p edges shows.joined q i;
      out = edges_more (λ e. e.from) points p edges shows.joined q i;
    }
