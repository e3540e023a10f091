-- Nodes of a graph, as they change.
use Rattle.std.proofs.Common.{◌≡◌, ℕ, ◌+◌, ◌<◌, Bool, true, false, ◌||◌, List, [], ◌∷◌, length, map, set, get_or}
use Rattle.std.proofs.Common.{suc, refl, sym, ap, subst, ◌∙◌, Option, arith, inl, inr}
use Rattle.std.specs.Prelude.{if◌then◌else◌}
use Rattle.std.specs.List.{AllByRecursion, IsDistinct, list_any}
use Rattle.std.proofs.lemmas.Bool.{cases_Bool}
use Rattle.std.proofs.lemmas.List.{length-set}
use Rattle.std.proofs.lemmas.Map.Keys.{IsDistinct-head, IsDistinct-tail}
use Rattle.lgm_wire.specs.declared.point.Point.{Point}
use Rattle.lgm_check.specs.declared.row.NodeRow.{NodeRow}
use Rattle.lgm_store.specs.Rows.{is_point}
use Rattle.lgm_store.proofs.ListLaws.{All-to, filter-twice}
use Rattle.lgm_store.proofs.Points.{same_point, is_point-self}
use Rattle.lgm_graph.specs.declared.edge.Edge.{Edge}
use Rattle.lgm_graph.specs.Edges.{PointEdge}
use Rattle.lgm_graph.specs.Graph.{GraphNode, Shows, IsJoined, number_of, IsNumbered, edges_with, node_with}
use Rattle.lgm_graph.specs.inner.Sound.{change_at, changed_at, edge_changed, into_changed, looked_at, out_changed}
use Rattle.lgm_graph.proofs.Numbers.{get_number}
use Rattle.lgm_graph.proofs.Places.{get_map}
use Rattle.lgm_graph.proofs.ListedEdgeLaws.{map_alike, IsChangedAt}

-- ---- what is stored by number changes at one point

-- one element of a map over distinct points changes
map_at : {Y : Type 0} (F G : Point → Y) (points : List Point) (p : Point) → IsDistinct is_point points → number_of points p < length points
    → ((q : Point) → is_point p q ≡ false → G q ≡ F q) → set (map F points) (number_of points p) (G p) ≡ map G points
map_at F G [] p distinct there other = absurd (omega (arith, there))
map_at F G (q ∷ qs) p distinct there other = elim (cases_Bool (is_point p q)) [
  | inl e ↦ let same : p ≡ q = same_point p q e in rw (e, same, rest same) refl
  | inr e ↦
      let next : 1 + number_of qs p ≡ suc (number_of qs p) = omega arith in
      let fits : suc (number_of qs p) < suc (length qs) = rw (e, next) at there in
      rw (e, next, sym (other q e))
      (ap (λ l. G q ∷ l) (map_at F G qs p (IsDistinct-tail is_point q qs distinct) (omega (arith, fits)) other))
]
  where
    rest : p ≡ q → map F qs ≡ map G qs
    rest same =
        map_alike F G qs (All-to _ _ qs (λ r apart. sym (other r (ap (λ s. is_point s r) same ∙ apart)))
        (IsDistinct-head is_point q qs distinct))

pub map_change : {Y : Type 0} (F : Point → Y) (h : Point → Y → Y) (points : List Point) (p : Point) (d : Y)
    → IsDistinct is_point points → IsNumbered points p
    → set (map F points) (number_of points p) (h p (get_or (map F points) (number_of points p) d))
    ≡ map (λ q. if is_point p q then h q (F q) else F q) points
map_change F h points p d distinct there =
    ap (set (map F points) (number_of points p)) (own ∙ sym here)
    ∙ map_at F (λ q. if is_point p q then h q (F q) else F q) points p distinct there other
  where
    own : h p (get_or (map F points) (number_of points p) d) ≡ h p (F p)
    own = ap (h p) (get_map F points (number_of points p) p d there ∙ ap F (get_number points p p there))

    here : (if is_point p p then h p (F p) else F p) ≡ h p (F p)
    here = rw (is_point-self p) refl

    other : (q : Point) → is_point p q ≡ false → (if is_point p q then h q (F q) else F q) ≡ F q
    other q apart = rw apart refl

-- nothing changes at a point that isn't there
pub map_absent : {Y : Type 0} (F : Point → Y) (h : Point → Y → Y) (points : List Point) (p : Point) → list_any (is_point p) points ≡ false
    → map F points ≡ map (λ q. if is_point p q then h q (F q) else F q) points
map_absent F h [] p none = refl
map_absent F h (q ∷ qs) p none = by (map_absent F h qs p) (is_point p q) refl none
  where
    by : (list_any (is_point p) qs ≡ false → map F qs ≡ map (λ q. if is_point p q then h q (F q) else F q) qs)
        → (b : Bool) → is_point p q ≡ b → (is_point p q || list_any (is_point p) qs) ≡ false
        → F q ∷ map F qs ≡ (if is_point p q then h q (F q) else F q) ∷ map (λ q. if is_point p q then h q (F q) else F q) qs
    by others true e none = let never : true ≡ false = rw e at none in absurd cc
    by others false e none = rw e (ap (λ l. F q ∷ l) (others (rw e at none)))

-- what is the same at each point
pub all_alike : {Y : Type 0} (F G : Point → Y) (points : List Point) → ((q : Point) → F q ≡ G q) → map F points ≡ map G points
all_alike {Y} F G points same = ap (λ (f : Point → Y). map f points) (λ i q. same q i)

pub node_is : (a b : GraphNode) → a.accepts_payments ≡ b.accepts_payments → a.into ≡ b.into → a.out ≡ b.out → a ≡ b
node_is a b accepts into out = λ i. record { accepts_payments = accepts i; into = into i; out = out i }

-- ---- edges change from one point to another

module _ (accepts : Point → Bool) (points : List Point) (edges more : List PointEdge) (change : List Edge → List Edge)
    (start target : Point) (distinct : IsDistinct is_point points) (leaves : IsNumbered points start) (ends : IsNumbered points target)
    (out : IsChangedAt (λ e. e.from) points edges more change start) (into : IsChangedAt (λ e. e.to) points edges more change target) where
  at_end : (end : PointEdge → Point) (p : Point) → IsChangedAt end points edges more change p → (q : Point) → is_point p q ≡ true
      → change (edges_with end points edges q) ≡ edges_with end points more q
  at_end end p changed q is =
      subst (λ r. change (edges_with end points edges r) ≡ edges_with end points more r) (same_point p q is) (sym changed.0)

  abbrev old_node : Point → GraphNode
  old_node = node_with accepts points edges

  abbrev mid_node : Point → GraphNode
  mid_node = changed_at target (λ q. into_changed change) old_node

  each : (q : Point) → changed_at start (λ q. out_changed change) mid_node q ≡ node_with accepts points more q
  each q = by (is_point start q) refl (is_point target q) refl
    where
      by : (s : Bool) → is_point start q ≡ s → (t : Bool) → is_point target q ≡ t
          → changed_at start (λ q. out_changed change) mid_node q ≡ node_with accepts points more q
      by true s true t = rw (s, t) (node_is _ _ refl (at_end (λ e. e.to) target into q t) (at_end (λ e. e.from) start out q s))
      by true s false t = rw (s, t) (node_is _ _ refl (sym (into.1 q t)) (at_end (λ e. e.from) start out q s))
      by false s true t = rw (s, t) (node_is _ _ refl (at_end (λ e. e.to) target into q t) (sym (out.1 q s)))
      by false s false t = rw (s, t) (node_is _ _ refl (sym (into.1 q t)) (sym (out.1 q s)))

  pub shows_changed : (nodes : List GraphNode) → Shows accepts edges points nodes → AllByRecursion (IsJoined points) more
      → Shows accepts more points (edge_changed (number_of points start) (number_of points target) change nodes)
  shows_changed nodes shows joined = record {
    joined = joined;
    nodes_are =
        ap (edge_changed (number_of points start) (number_of points target) change) shows.nodes_are
        ∙ ap (change_at (number_of points start) (out_changed change)) (map_change old_node (λ q. into_changed change) points target _ distinct ends)
        ∙ map_change mid_node (λ q. out_changed change) points start _ distinct leaves
        ∙ all_alike _ (node_with accepts points more) points each;
  }

-- there are as many nodes as before
pub changed_long : (from to : ℕ) (change : List Edge → List Edge) (nodes : List GraphNode) → length (edge_changed from to change nodes) ≡ length nodes
changed_long from to change nodes =
    length-set (change_at to (into_changed change) nodes) from _ ∙ length-set nodes to _

-- once is as good as twice
pub looked_twice : (known : Option (List ℕ)) (rows : List NodeRow) (stays : Edge → Bool) (point : Point) (node : GraphNode)
    → looked_at known rows stays point (looked_at known rows stays point node) ≡ looked_at known rows stays point node
looked_twice known rows stays point node = node_is _ _ refl (filter-twice stays node.into) (filter-twice stays node.out)
