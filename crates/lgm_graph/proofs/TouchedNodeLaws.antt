-- How nodes are touched.
use Rattle.std.proofs.Common.{◌≡◌, ◌≢◌, inl, inr, ℕ, ◌+◌, ◌<◌, ◌≤◌, Bool, true, false, List, [], ◌∷◌, ◌++◌, length, get_or, set, zero, suc}
use Rattle.std.proofs.Common.{refl, sym, ap, subst, ◌∙◌, Option, Some, arith, append_assoc, true≢false, take, ltb}
use Rattle.std.specs.Prelude.{unwrap_or, eqb}
use Rattle.std.specs.List.{AllByRecursion, Contains, slice_get}
use Rattle.std.proofs.lemmas.Bool.{eqb-true, eq-eqb, ltb-true, ltb-false}
use Rattle.std.proofs.lemmas.List.{append-nil, take_more}
use Rattle.std.proofs.lemmas.Option.{slice_get-get_or}
use Rattle.lgm_store.proofs.ListLaws.{All-to, All-append}
use Rattle.lgm_graph.specs.declared.edge.Edge.{Edge}
use Rattle.lgm_graph.specs.Graph.{Graph, edges_leaving}
use Rattle.lgm_graph.specs.inner.Overlaying.{NodeOverrides, Touched, ArePlaced, IsTouchedMore, LeadsTo, IsReached, AreReached, IsBare}
use Rattle.lgm_graph.specs.Places.{at_place, place_of}
use Rattle.lgm_graph.specs.inner.Overlaying.{nothing_of, overrides_at, overlaid_at}
use Rattle.lgm_graph.proofs.Further.{slice_left}
use Rattle.lgm_graph.proofs.PlaceLaws.{with_more, more_other, more_long, more_here, more_others, more_placed, new_placed, new_here, new_others}
use Rattle.lgm_graph.proofs.Members.{Among-Contains, All_among}

-- ---- a further node

module _ (t : Touched) (placed : ArePlaced t) (n : ℕ) (within : n < length t.places) (new : place_of t n ≡ 0) where
  abbrev pub touched : Touched
  touched = with_more t placed (nothing_of n) within new

  kept_at : (m k : ℕ) → place_of t m ≡ suc k → m ≢ n
  kept_at m k is same = let h : 0 ≡ suc k = sym new ∙ ap (place_of t) (sym same) ∙ is in omega (arith, h)

  pub touched_placed : ArePlaced touched
  touched_placed = more_placed t placed (nothing_of n) within new

  same_overrides : (m : ℕ) (b : Bool) → eqb m n ≡ b → overrides_at touched m ≡ overrides_at t m
  same_overrides m true e =
      let same : m ≡ n = eqb-true m n e in
      let after : overrides_at touched n ≡ nothing_of n =
      ap (λ (o : Option NodeOverrides). unwrap_or o (nothing_of n)) (more_here t placed (nothing_of n) within new) in
      let before : overrides_at t n ≡ nothing_of n = ap (λ k. unwrap_or (at_place t.nodes k) (nothing_of n)) new in
      ap (overrides_at touched) same ∙ after ∙ sym before ∙ ap (overrides_at t) (sym same)
  same_overrides m false e =
      let apart : m ≢ n = λ same. (let h : true ≡ false = sym (eq-eqb m n same) ∙ e in true≢false h) in
      ap (λ (o : Option NodeOverrides). unwrap_or o (nothing_of m)) (more_others t placed (nothing_of n) within new m apart)

  pub touched_more : IsTouchedMore t touched
  touched_more = record {
    same = λ m. same_overrides m (eqb m n) refl;
    kept = λ m k is. more_other t placed (nothing_of n) within new m (kept_at m k is) ∙ is;
    more = nothing_of n ∷ [];
    nodes = refl;
    bare = bare;
    long = more_long t placed (nothing_of n) within new;
  }
    where
      bare : (k : ℕ) (local : NodeOverrides) → slice_get (nothing_of n ∷ []) k ≡ Some local → IsBare local
      bare zero local is = let same : nothing_of n ≡ local = cc in subst IsBare same refl
      bare (suc k) local is = absurd cc

pub more_none : (t : Touched) → IsTouchedMore t t
more_none t = record {
  same = λ m. refl;
  kept = λ m k is. is;
  more = [];
  nodes = sym (append-nil t.nodes);
  bare = λ k local is. absurd cc;
  long = refl;
}

pub more_again : (a b c : Touched) → IsTouchedMore a b → IsTouchedMore b c → IsTouchedMore a c
more_again a b c one two = record {
  same = λ m. two.same m ∙ one.same m;
  kept = λ m k is. two.kept m k (one.kept m k is);
  more = one.more ++ two.more;
  nodes = two.nodes ∙ ap (λ l. l ++ two.more) one.nodes ∙ append_assoc a.nodes one.more two.more;
  bare = both one.more one.bare;
  long = two.long ∙ one.long;
}
  where
    both : (more : List NodeOverrides) → ((k : ℕ) (local : NodeOverrides) → slice_get more k ≡ Some local → IsBare local)
        → (k : ℕ) (local : NodeOverrides) → slice_get (more ++ two.more) k ≡ Some local → IsBare local
    both [] first k local is = two.bare k local is
    both (s ∷ ss) first zero local is = first zero local is
    both (s ∷ ss) first (suc k) local is = both ss (λ j. first (suc j)) k local is

-- ---- the overrides of a node changes

module _ (t : Touched) (placed : ArePlaced t) (k : ℕ) (old new : NodeOverrides) (within : k < length t.nodes) (old_is : old ≡ get_or t.nodes k old)
    (same : new.node ≡ old.node) where
  abbrev changed : Touched
  changed = record { places = t.places; nodes = set t.nodes k new }

  old_at : slice_get t.nodes k ≡ Some old
  old_at = slice_get-get_or t.nodes k old within ∙ ap Some (sym old_is)

  pub changed_placed : ArePlaced changed
  changed_placed = new_placed t placed k old new old_at same

  module _ (n : ℕ) (there : place_of t n ≡ suc k) where
    pub changed_own : overrides_at changed n ≡ new
    changed_own = ap (λ (o : Option NodeOverrides). unwrap_or o (nothing_of n)) (new_here t placed k old new old_at same n there)

    pub was_own : overrides_at t n ≡ old
    was_own = ap (λ j. unwrap_or (at_place t.nodes j) (nothing_of n)) there ∙ ap (λ (o : Option NodeOverrides). unwrap_or o (nothing_of n)) old_at

    pub changed_other : (m : ℕ) → m ≢ n → overrides_at changed m ≡ overrides_at t m
    changed_other m apart =
        ap (λ (o : Option NodeOverrides). unwrap_or o (nothing_of m)) (new_others t placed k old new old_at same n there m apart)

-- ---- edges that lead to nodes that are touched

pub leads_more : (a b : Touched) → IsTouchedMore a b → (edge : Edge) → LeadsTo a edge → LeadsTo b edge
leads_more a b more edge (inl stays) = inl (ap (λ s. overlaid_at s edge) (more.same edge.from) ∙ stays)
leads_more a b more edge (inr there) = inr (by (place_of a edge.to) refl)
  where
    by : (place : ℕ) → place_of a edge.to ≡ place → place_of b edge.to ≢ 0
    by zero is = absurd (there is)
    by (suc k) is = λ none. (let h : suc k ≡ 0 = sym (more.kept edge.to k is) ∙ none in omega (arith, h))

-- each of the first edges leads there
pub all_leading : (a b : Touched) → IsTouchedMore a b → (edges : List Edge) → AllByRecursion (LeadsTo a) edges → AllByRecursion (LeadsTo b) edges
all_leading a b more edges all = All-to (LeadsTo a) (LeadsTo b) edges (leads_more a b more) all

pub one_leading : (a b : Touched) → IsTouchedMore a b → (edges : List Edge) (i : ℕ) (item : Edge) → i < length edges → item ≡ get_or edges i item
    → LeadsTo b item → AllByRecursion (LeadsTo a) (take i edges) → AllByRecursion (LeadsTo b) (take (i + 1) edges)
one_leading a b more edges i item lt is leads all =
    let next : take (i + 1) edges ≡ take i edges ++ item ∷ [] = take_more edges i item lt ∙ ap (λ e. take i edges ++ e ∷ []) (sym is) in
    rw next (All-append (LeadsTo b) (take i edges) (item ∷ []) (all_leading a b more (take i edges) all) (leads, tt))

-- the edges of one of the nodes
pub reached_at : (graph : Graph) (t : Touched) (k node : ℕ) → k < length t.nodes
    → ((local : NodeOverrides) → slice_get t.nodes k ≡ Some local → local.node ≡ node) → AllByRecursion (LeadsTo t) (edges_leaving graph node) → IsReached graph t k
reached_at graph t k node within own all local is edge there =
    All_among (LeadsTo t) (edges_leaving graph node) edge all
    (Among-Contains (edges_leaving graph node) edge (subst (λ n. Contains (edges_leaving graph n) edge) (own local is) there))

-- and those of the nodes before
pub reached_more : (graph : Graph) (a b : Touched) (count : ℕ) → IsTouchedMore a b → count ≤ length a.nodes → AreReached graph a count
    → AreReached graph b count
reached_more graph a b count more few all k lt local is edge there =
    let was : slice_get a.nodes k ≡ Some local =
    sym (slice_left a.nodes more.more k (omega (arith, lt, few))) ∙ ap (λ l. slice_get l k) (sym more.nodes) ∙ is in
    leads_more a b more edge (all k lt local was edge there)

pub reached_next : (graph : Graph) (a b : Touched) (k : ℕ) → IsTouchedMore a b → k < length a.nodes → AreReached graph a k → IsReached graph b k
    → AreReached graph b (k + 1)
reached_next graph a b k more within all one j lt = by (ltb j k) refl
  where
    by : (b' : Bool) → ltb j k ≡ b' → IsReached graph b j
    by true e = reached_more graph a b k more (omega (arith, within)) all j (ltb-true j k e)
    by false e =
        let same : k ≡ j = let le = ltb-false j k e in omega (arith, le, lt) in
        subst (IsReached graph b) same one
