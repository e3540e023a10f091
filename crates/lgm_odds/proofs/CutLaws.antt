-- No parts bring more than can be carried across a cut.
use Rattle.std.proofs.Common.{◌≡◌, inl, inr, ℕ, ◌+◌, ◌≤◌, Bool, true, false, not, ◌||◌, List, [], ◌∷◌, refl, sym, ap, ◌∙◌, arith, true≢false, if◌then◌else◌}
use Rattle.std.specs.Prelude.{sum_by, flat_map, Contains}
use Rattle.std.specs.List.{list_any}
use Rattle.std.proofs.lemmas.List.Sums.{sum_by-cons, sum_by-append}
use Rattle.std.proofs.lemmas.Map.Views.{Contains-from_any}
use Rattle.std.proofs.lemmas.Bool.{and_parts, and_from, eq-eqb}
use Rattle.lgm_wire.specs.declared.point.Point.{Point}
use Rattle.lgm_store.specs.Rows.{is_point}
use Rattle.lgm_store.proofs.Points.{same_point, is_point-self}
use Rattle.lgm_graph.proofs.Members.{Among, Among-Contains, Contains-Among, Among-flat}
use Rattle.lgm_odds.specs.declared.liquidity.CutEdge.{CutEdge}
use Rattle.lgm_odds.specs.Cut.{Capacities, CutParts, IsCut, is_near, crosses, across, across_at, edges_at}
use Rattle.lgm_odds.specs.CutLaw.{WalkedPart, IsWalk, IsEdge, IsPart, is_same, carried_by, CanCarry, BringsNoMore}

-- ---- sums

module _ {X : Type 0} where
  among_le : (f : X → ℕ) (xs : List X) (x : X) → Among xs x → f x ≤ sum_by f xs
  among_le f [] x none = absurd none
  among_le f (y ∷ ys) x (inl same) = omega (arith, sum_by-cons f y ys, ap f same)
  among_le f (y ∷ ys) x (inr more) = omega (arith, sum_by-cons f y ys, among_le f ys x more)

  sums_le : (f g : X → ℕ) (xs : List X) → ((x : X) → Among xs x → f x ≤ g x) → sum_by f xs ≤ sum_by g xs
  sums_le f g [] each = omega arith
  sums_le f g (x ∷ xs) each =
      omega (arith, sum_by-cons f x xs, sum_by-cons g x xs, each x (inl refl), sums_le f g xs (λ y there. each y (inr there)))

  sums_same : (f g : X → ℕ) (xs : List X) → ((x : X) → f x ≡ g x) → sum_by f xs ≡ sum_by g xs
  sums_same f g [] each = refl
  sums_same f g (x ∷ xs) each =
      omega (arith, sum_by-cons f x xs, sum_by-cons g x xs, each x, sums_same f g xs each)

  sum_none : (xs : List X) → sum_by (λ x. 0) xs ≡ 0
  sum_none [] = refl
  sum_none (x ∷ xs) = omega (arith, sum_by-cons (λ y. 0) x xs, sum_none xs)

  sum_plus : (f g : X → ℕ) (xs : List X) → sum_by (λ x. f x + g x) xs ≡ sum_by f xs + sum_by g xs
  sum_plus f g [] = refl
  sum_plus f g (x ∷ xs) =
      omega (arith, sum_by-cons f x xs, sum_by-cons g x xs, sum_by-cons (λ y. f y + g y) x xs, sum_plus f g xs)

-- the sum over a list of lists
sum_flat : {X Y : Type 0} (f : Y → ℕ) (h : X → List Y) (xs : List X) → sum_by f (flat_map h xs) ≡ sum_by (λ x. sum_by f (h x)) xs
sum_flat f h [] = refl
sum_flat f h (x ∷ xs) =
    omega (arith, sum_by-append f (h x) (flat_map h xs), sum_by-cons (λ y. sum_by f (h y)) x xs, sum_flat f h xs)

-- sums in the other order
swapped : {X Y : Type 0} (f : X → Y → ℕ) (xs : List X) (ys : List Y)
    → sum_by (λ x. sum_by (f x) ys) xs ≡ sum_by (λ y. sum_by (λ x. f x y) xs) ys
swapped f [] ys = sym (sum_none ys)
swapped f (x ∷ xs) ys =
    let first = sum_by-cons (λ z. sum_by (f z) ys) x xs in
    let rest = swapped f xs ys in
    let both = sum_plus (f x) (λ y. sum_by (λ z. f z y) xs) ys in
    let each = sums_same (λ y. sum_by (λ z. f z y) (x ∷ xs)) (λ y. f x y + sum_by (λ z. f z y) xs) ys
    (λ y. sum_by-cons (λ z. f z y) x xs) in
    omega (arith, first, rest, both, each)

-- ---- a walk crosses a cut

crossing : (cut : CutParts) (from to : Point) (walk : List CutEdge) → IsWalk from walk to → is_near cut from ≡ true
    → is_near cut to ≡ false → (edge : CutEdge) × Among walk edge × (crosses cut edge ≡ true)
crossing cut from to [] same near far = absurd (true≢false (sym near ∙ ap (λ (p : Point). is_near cut p) same ∙ far))
crossing cut from to (edge ∷ rest) walks near far = by (crossing cut edge.to to rest walks.1) (is_near cut edge.to) refl
  where
    by : (is_near cut edge.to ≡ true → is_near cut to ≡ false → (found : CutEdge) × Among rest found × (crosses cut found ≡ true))
        → (b : Bool) → is_near cut edge.to ≡ b → (found : CutEdge) × Among (edge ∷ rest) found × (crosses cut found ≡ true)
    by later true is = let more = later is far in (more.0, inr more.1, more.2)
    by later false is =
        (edge, inl refl, and_from _ _ (ap (λ (p : Point). is_near cut p) walks.0 ∙ near) (ap (λ b. not b) is))

twice_not : (b : Bool) → not (not b) ≡ true → b ≡ true
twice_not true is = refl
twice_not false is = absurd (true≢false (sym is))

-- an edge that crosses is one of those of the cut's nodes
is_across : (known : Capacities) (nodes : List Point) (of_payee : Bool) (edge : CutEdge) → IsEdge known edge
    → crosses (record { nodes = nodes; of_payee = of_payee }) edge ≡ true → Among (flat_map (edges_at known of_payee) nodes) edge
is_across known nodes true edge there crossed =
    let far = twice_not (list_any (is_point edge.to) nodes) (and_parts _ _ crossed).1 in
    Among-flat (edges_at known true) nodes edge.to edge
    (Among-Contains nodes edge.to (Contains-from_any same_point edge.to nodes far))
    (Among-Contains (edges_at known true edge.to) edge there.1)
is_across known nodes false edge there crossed =
    Among-flat (edges_at known false) nodes edge.from edge
    (Among-Contains nodes edge.from (Contains-from_any same_point edge.from nodes (and_parts _ _ crossed).0))
    (Among-Contains (edges_at known false edge.from) edge there.0)

same_self : (edge : CutEdge) → is_same edge edge ≡ true
same_self edge =
    and_from _ _ (eq-eqb edge.scid edge.scid refl) (and_from _ _ (is_point-self edge.from) (and_from _ _ (is_point-self edge.to) (eq-eqb edge.room edge.room refl)))

along_own : (walk : List CutEdge) (edge : CutEdge) → Among walk edge → list_any (is_same edge) walk ≡ true
along_own [] edge none = absurd none
along_own (other ∷ rest) edge (inl same) =
    ap (λ b. b || list_any (is_same edge) rest) (ap (λ (e : CutEdge). is_same edge e) same ∙ same_self edge)
along_own (other ∷ rest) edge (inr more) = by (along_own rest edge more) (is_same edge other)
  where
    by : list_any (is_same edge) rest ≡ true → (b : Bool) → (b || list_any (is_same edge) rest) ≡ true
    by later true = refl
    by later false = later

-- ---- what parts carry across

-- what a part carries over an edge, if it crosses
abbrev share : CutParts → WalkedPart → CutEdge → ℕ
share cut part edge = if crosses cut edge then (if list_any (is_same edge) part.walk then part.amount else 0) else 0

share_is : (cut : CutParts) (part : WalkedPart) (edge : CutEdge) → crosses cut edge ≡ true
    → list_any (is_same edge) part.walk ≡ true → share cut part edge ≡ part.amount
share_is cut part edge crossed along =
    ap (λ b. if b then (if list_any (is_same edge) part.walk then part.amount else 0) else 0) crossed
    ∙ ap (λ b. if b then part.amount else 0) along

-- an edge carries no more across than it can
shares_fit : (cut : CutParts) (parts : List WalkedPart) (edge : CutEdge) → carried_by parts edge ≤ edge.room
    → sum_by (λ part. share cut part edge) parts ≤ across cut edge
shares_fit cut parts edge fits = by (crosses cut edge)
  where
    by : (b : Bool) → sum_by (λ part. if b then (if list_any (is_same edge) part.walk then part.amount else 0) else 0) parts
        ≤ (if b then edge.room else 0)
    by true = fits
    by false = omega (arith, sum_none parts)

-- a part brings what it carries across
brings : (known : Capacities) (payee : Point) (nodes : List Point) (of_payee : Bool) (part : WalkedPart)
    → IsCut known.payer payee (record { nodes = nodes; of_payee = of_payee }) → IsPart known payee part
    → part.amount ≤ sum_by (share (record { nodes = nodes; of_payee = of_payee }) part) (flat_map (edges_at known of_payee) nodes)
brings known payee nodes of_payee part cut is =
    let found = crossing (record { nodes = nodes; of_payee = of_payee }) known.payer payee part.walk is.walks cut.near cut.far in
    let edge = found.0 in
    let there = is_across known nodes of_payee edge (is.edges edge (Contains-Among part.walk edge found.1)) found.2 in
    let all = share_is (record { nodes = nodes; of_payee = of_payee }) part edge found.2 (along_own part.walk edge found.1) in
    let less = among_le (share (record { nodes = nodes; of_payee = of_payee }) part) (flat_map (edges_at known of_payee) nodes) edge there in
    omega (arith, all, less)

bring : (known : Capacities) (payee : Point) (nodes : List Point) (of_payee : Bool) (parts : List WalkedPart)
    → IsCut known.payer payee (record { nodes = nodes; of_payee = of_payee })
    → ((part : WalkedPart) → Contains parts part → IsPart known payee part) → CanCarry parts
    → sum_by (λ part. part.amount) parts ≤ sum_by (across_at known (record { nodes = nodes; of_payee = of_payee })) nodes
bring known payee nodes of_payee parts is are fit =
    let cut : CutParts = record { nodes = nodes; of_payee = of_payee } in
    let edges = flat_map (edges_at known of_payee) nodes in
    let first = sums_le (λ part. part.amount) (λ part. sum_by (share cut part) edges) parts
    (λ part there. brings known payee nodes of_payee part is (are part (Contains-Among parts part there))) in
    let other = swapped (share cut) parts edges in
    let second = sums_le (λ edge. sum_by (λ part. share cut part edge) parts) (across cut) edges
    (λ edge there. shares_fit cut parts edge (fit edge)) in
    let flat = sum_flat (across cut) (edges_at known of_payee) nodes in
    omega (arith, first, other, second, flat)

pub bring_no_more : BringsNoMore
bring_no_more known payee cut parts is are fit =
    let less = bring known payee cut.nodes cut.of_payee parts is are fit in
    omega (arith, less)
