-- Each edge is listed at its nodes, and nowhere else.
use Rattle.std.proofs.Common.{◌≡◌, ◌⊎◌, inl, inr, ℕ, ◌<◌, Bool, true, false, List, [], ◌∷◌, length}
use Rattle.std.proofs.Common.{map, get_or, zero, suc, refl, sym, ap, subst, ◌∙◌, arith}
use Rattle.std.specs.Prelude.{if◌then◌else◌}
use Rattle.std.specs.List.{AllByRecursion, IsDistinct, Contains, filter, flat_map}
use Rattle.std.proofs.lemmas.List.{length-map}
use Rattle.std.proofs.lemmas.Map.Keys.{IsDistinct-head, IsDistinct-tail}
use Rattle.lgm_wire.specs.declared.point.Point.{Point}
use Rattle.lgm_store.specs.Rows.{is_point}
use Rattle.lgm_store.proofs.Points.{same_point, is_point-self}
use Rattle.lgm_graph.specs.Edges.{PointEdge}
use Rattle.lgm_graph.specs.declared.edge.Edge.{Edge}
use Rattle.lgm_graph.specs.Graph.{Graph, GraphNode, Shows, IsListed, AreListed, IsJoined, IsNumbered, number_of, no_point}
use Rattle.lgm_graph.specs.Graph.{bare_node, node_at, node_with, open_into, numbered_in, edge_between, edges, edges_into, edges_leaving, edges_with}
use Rattle.lgm_graph.specs.inner.Sound.{IsSound}
use Rattle.lgm_graph.proofs.Members.{Among, Contains-Among, Among-Contains, Among-left, Among-right, Among-either}
use Rattle.lgm_graph.proofs.Members.{Among-passes, Among-passed, All_among, Among-mapped, Among-map}
use Rattle.lgm_graph.proofs.Numbers.{get_number}
use Rattle.lgm_graph.proofs.ListedEdgeLaws.{turned}
use Rattle.lgm_graph.proofs.Places.{get_map}

-- ---- lists by number

among_at : {X Y : Type 0} (f : X → List Y) (F : Point → X) (points : List Point) (n : ℕ) (d : X) (y : Y) → f d ≡ []
    → Among (f (get_or (map F points) n d)) y → (n < length points) × Among (f (F (get_or points n no_point))) y
among_at f F [] n d y none there = absurd (rw none at there)
among_at f F (p ∷ ps) zero d y none there = (omega arith, there)
among_at f F (p ∷ ps) (suc n) d y none there = let rest = among_at f F ps n d y none there in (omega (arith, rest.0), rest.1)

-- what is in one of the lists of a flattened one
module _ {X Y : Type 0} (f : X → List Y) where
  pub flat_in : (xs : List X) (n : ℕ) (d : X) (y : Y) → f d ≡ [] → Among (f (get_or xs n d)) y → Among (flat_map f xs) y
  flat_in [] n d y none there = absurd (rw none at there)
  flat_in (x ∷ xs) zero d y none there = Among-left (f x) _ y there
  flat_in (x ∷ xs) (suc n) d y none there = Among-right (f x) _ y (flat_in xs n d y none there)

  pub flat_out : (xs : List X) (d : X) (y : Y) → Among (flat_map f xs) y → (n : ℕ) × Among (f (get_or xs n d)) y
  flat_out [] d y none = absurd none
  flat_out (x ∷ xs) d y there = by (flat_out xs d y) (Among-either (f x) _ y there)
    where
      by : (Among (flat_map f xs) y → (n : ℕ) × Among (f (get_or xs n d)) y) → Among (f x) y ⊎ Among (flat_map f xs) y
          → (n : ℕ) × Among (f (get_or (x ∷ xs) n d)) y
      by others (inl first) = (zero, first)
      by others (inr second) = let rest = others second in (suc rest.0, rest.1)

-- the edges into a node that takes payments
pub opened : (node : GraphNode) (edge : Edge) → Among (open_into node) edge → (node.accepts_payments ≡ true) × Among node.into edge
opened node edge there = by node.accepts_payments refl there
  where
    by : (b : Bool) → node.accepts_payments ≡ b → Among (if node.accepts_payments then node.into else []) edge
        → (node.accepts_payments ≡ true) × Among node.into edge
    by true e there = (e, rw e at there)
    by false e there = let none : ⊥ = rw e at there in absurd none

pub open_in : (node : GraphNode) (edge : Edge) → node.accepts_payments ≡ true → Among node.into edge → Among (open_into node) edge
open_in node edge takes there = rw takes there

-- a point's number is its index
pub number_at : (points : List Point) (n : ℕ) (d : Point) → IsDistinct is_point points → n < length points → number_of points (get_or points n d) ≡ n
number_at [] n d distinct lt = absurd (omega (arith, lt))
number_at (p ∷ ps) zero d distinct lt = rw (is_point-self p) refl
number_at (p ∷ ps) (suc n) d distinct lt =
    let inner : n < length ps = omega (arith, lt) in
    rw (turned p (get_or ps n d) (at ps n (IsDistinct-head is_point p ps distinct) inner))
    (omega (arith, number_at ps n d (IsDistinct-tail is_point p ps distinct) inner))
  where
    at : (qs : List Point) (m : ℕ) → AllByRecursion (λ q. is_point p q ≡ false) qs → m < length qs → is_point p (get_or qs m d) ≡ false
    at [] m all lt = absurd (omega (arith, lt))
    at (q ∷ qs) zero all lt = all.0
    at (q ∷ qs) (suc m) all lt = at qs m all.1 (omega (arith, lt))

-- ---- edges

module _ (accepts : Point → Bool) (points : List Point) (distinct : IsDistinct is_point points) (edges : List PointEdge) (nodes : List GraphNode)
    (shows : Shows accepts edges points nodes) where
  abbrev pub node_of_number : ℕ → GraphNode
  node_of_number n = get_or nodes n (bare_node false)

  pub number_node : (p : Point) → IsNumbered points p → node_of_number (number_of points p) ≡ node_with accepts points edges p
  number_node p there =
      ap (λ ns. get_or ns (number_of points p) (bare_node false)) shows.nodes_are
      ∙ get_map (node_with accepts points edges) points (number_of points p) p (bare_node false) there
      ∙ ap (node_with accepts points edges) (get_number points p p there)

  pub joined_one : (edge : PointEdge) → Among edges edge → IsJoined points edge
  joined_one edge there = All_among (IsJoined points) edges edge shows.joined there

  -- a listed edge at a node is that of an edge between points with this end
  edge_at : (end : PointEdge → Point) (f : GraphNode → List Edge) → f (bare_node false) ≡ []
      → ((p : Point) → f (node_with accepts points edges p) ≡ edges_with end points edges p)
      → (n : ℕ) (listed : Edge) → Among (f (node_of_number n)) listed
      → (edge : PointEdge) × Among edges edge × (numbered_in points edge ≡ listed) × (number_of points (end edge) ≡ n)
  edge_at end f none is n listed there =
      let here = among_at f (node_with accepts points edges) points n (bare_node false) listed none
      (subst (λ ns. Among (f (get_or ns n (bare_node false))) listed) shows.nodes_are there) in
      let listed_there : Among (edges_with end points edges (get_or points n no_point)) listed = rw (is (get_or points n no_point)) at here.1 in
      let made = Among-mapped (numbered_in points) (filter (λ e. is_point (get_or points n no_point) (end e)) edges) listed listed_there in
      let passed = Among-passed (λ e. is_point (get_or points n no_point) (end e)) edges made.0 made.1 in (
        made.0,
        passed.0,
        made.2,
        ap (number_of points) (sym (same_point (get_or points n no_point) (end made.0) passed.1))
            ∙ number_at points n no_point distinct here.0,
      )

  pub edge_into : (n : ℕ) (listed : Edge) → Among (node_of_number n).into listed
      → (edge : PointEdge) × Among edges edge × (numbered_in points edge ≡ listed) × (number_of points edge.to ≡ n)
  edge_into n listed there = edge_at (λ e. e.to) (λ node. node.into) refl (λ p. refl) n listed there

  pub edge_out : (n : ℕ) (listed : Edge) → Among (node_of_number n).out listed
      → (edge : PointEdge) × Among edges edge × (numbered_in points edge ≡ listed) × (number_of points edge.from ≡ n)
  edge_out n listed there = edge_at (λ e. e.from) (λ node. node.out) refl (λ p. refl) n listed there

  -- and each edge between points is listed at its ends
  edge_there : (end : PointEdge → Point) (edge : PointEdge) → Among edges edge
      → Among (edges_with end points edges (end edge)) (numbered_in points edge)
  edge_there end edge there =
      Among-map (numbered_in points) (filter (λ e. is_point (end edge) (end e)) edges) edge
      (Among-passes (λ e. is_point (end edge) (end e)) edges edge there (is_point-self (end edge)))

  pub into_there : (edge : PointEdge) → Among edges edge → Among (node_of_number (number_of points edge.to)).into (numbered_in points edge)
  into_there edge there = rw (number_node edge.to (joined_one edge there).1) (edge_there (λ e. e.to) edge there)

  pub out_there : (edge : PointEdge) → Among edges edge → Among (node_of_number (number_of points edge.from)).out (numbered_in points edge)
  out_there edge there = rw (number_node edge.from (joined_one edge there).0) (edge_there (λ e. e.from) edge there)

  pub back_again : (edge : PointEdge) → IsJoined points edge → edge_between points (numbered_in points edge) ≡ edge
  back_again edge both = rw (get_number points edge.from no_point both.0, get_number points edge.to no_point both.1) refl

pub are_listed : (graph : Graph) → IsDistinct is_point graph.points → IsSound graph → AreListed graph
are_listed graph distinct sound = record {
  long = ap length sound.shows.nodes_are ∙ length-map graph.points (node_with sound.accepts graph.points sound.edges);
  unique = distinct;
  each = λ listed there. each listed (flat_out open_into graph.nodes (bare_node false) listed (Among-Contains (edges graph) listed there));
  into = λ n listed there. into n listed (Among-Contains (edges_into graph n) listed there);
  leaving = λ n listed there. leaving n listed (Among-Contains (edges_leaving graph n) listed there);
}
  where
    made_into : (n : ℕ) (listed : Edge) → Among (edges_into graph n) listed → (edge : PointEdge)
        × Among sound.edges edge × (numbered_in graph.points edge ≡ listed) × (number_of graph.points edge.to ≡ n)
    made_into n listed there =
        edge_into sound.accepts graph.points distinct sound.edges graph.nodes sound.shows n listed (opened (node_at graph n) listed there).1

    into : (n : ℕ) (listed : Edge) → Among (edges_into graph n) listed → (listed.to ≡ n) × Contains (edges graph) listed
    into n listed there =
        let made = made_into n listed there in
        (ap (λ (l : Edge). l.to) (sym made.2) ∙ made.3, Contains-Among (edges graph) listed (flat_in open_into graph.nodes n (bare_node false) listed refl there))

    leaving : (n : ℕ) (listed : Edge) → Among (edges_leaving graph n) listed → (listed.from ≡ n) × (listed.to < length graph.points)
    leaving n listed there =
        let made = edge_out sound.accepts graph.points distinct sound.edges graph.nodes sound.shows n listed there in
        let both = joined_one sound.accepts graph.points distinct sound.edges graph.nodes sound.shows made.0 made.1 in
        (ap (λ (l : Edge). l.from) (sym made.2) ∙ made.3, rw (← made.2) both.1)

    each : (listed : Edge) → (n : ℕ) × Among (edges_into graph n) listed → IsListed graph listed
    each listed place =
        let made = made_into place.0 listed place.1 in
        let both = joined_one sound.accepts graph.points distinct sound.edges graph.nodes sound.shows made.0 made.1 in
        let end : listed.to ≡ place.0 = ap (λ (l : Edge). l.to) (sym made.2) ∙ made.3 in
        let out = out_there sound.accepts graph.points distinct sound.edges graph.nodes sound.shows made.0 made.1 in
        record {
          from = rw (← made.2) both.0;
          to = rw (← made.2) both.1;
          there = Contains-Among (edges_into graph listed.to) listed (subst (λ n. Among (edges_into graph n) listed) (sym end) place.1);
          leaves = Contains-Among (edges_leaving graph listed.from) listed (rw (← made.2) out);
          back = rw (← made.2) (ap (numbered_in graph.points) (back_again sound.accepts graph.points distinct sound.edges graph.nodes sound.shows made.0 both));
        }
