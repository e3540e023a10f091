-- Fronts with a new label, and those of a new search.
use Rattle.std.proofs.Common.{◌≡◌, ◌≢◌, ◌⊎◌, ℕ, zero, suc, ◌+◌, ◌-◌, ◌^◌, ◌<◌, ◌≤◌, List, [], ◌∷◌, ◌++◌, length, set}
use Rattle.std.proofs.Common.{refl, sym, ◌∙◌, ap, subst, inl, inr, arith}
use Rattle.std.proofs.lemmas.List.{get_or_push, length_push, get_or-set_same, get_or-set_other}
use Rattle.lgm_graph.specs.Graph.{Graph}
use Rattle.lgm_graph.specs.declared.edge.Edge.{Edge}
use Rattle.lgm_route.specs.inner.Numbered.{Ask}
use Rattle.lgm_route.specs.declared.label.Label.{Label}
use Rattle.lgm_route.specs.inner.Searching.{label_at, no_label, IsSpelled, IsLabel, DoesDominate, SomeRest, AreLabels}
use Rattle.lgm_route.specs.inner.Fronts.{Fronts, first_in, next_in, DominatesAt, IsCovered, IsServed, AreFronts, HaveFronts}
use Rattle.lgm_route.specs.inner.Fronts.{IsBelow, FallsWithin, AreNewFronts, AreSameFronts, IsUndominated, IsLinked, IsAdded, AreDistinct}
use Rattle.lgm_route.proofs.Rests.{trichotomy, Dominates-refl, Dominates-trans}
use Rattle.lgm_route.proofs.Labels.{label-unique, label_left, label-grows}
use Rattle.lgm_route.proofs.FrontLaws.{label_shrinks, shrinks_at, grows_at, same_node, covered_more, covered_here, covered_behind, covered_later, unlinked}

-- ---- a new label in front of the others

pub next-set_same : (following : List ℕ) (i to : ℕ) → i < length following → next_in (set following i to) i ≡ to
next-set_same following i to within = get_or-set_same following i to (2 ^ 32 - 1) within

next-set_other : (following : List ℕ) (i j to : ℕ) → j ≢ i → next_in (set following i to) j ≡ next_in following j
next-set_other following i j to apart = get_or-set_other following i j to (2 ^ 32 - 1) apart

module _ (graph : Graph) (labels : List Label) (new : Label) (start : ℕ) where
  abbrev more : List Label
  more = labels ++ new ∷ []

  all : length more ≡ length labels + 1
  all = length_push labels new

  pub new_at : label_at more (length labels) ≡ new
  new_at = get_or_push labels new no_label (length labels) refl

  -- at first
  pub linked_first : (following : List ℕ) → length labels < length following
      → IsLinked graph labels new start following (set following (length labels) start)
  linked_first following room = record {
    others = λ i within apart. next-set_other following (length labels) i start (omega arith);
    covered = λ request rest some h.
        covered_behind graph request more next new.node (length labels) (length labels + 1) (length labels) rest (omega arith)
        (omega (arith, all)) (ap (λ l. l.node) new_at)
        (subst (λ p. IsCovered graph request more next new.node (length labels) p rest)
        (sym (next-set_same following (length labels) start room))
        (covered_later graph request labels more following next new.node (omega (arith, all)) (λ i within. label_left labels (new ∷ []) i within)
        (λ label rest is. label-grows graph request labels (new ∷ []) label rest is)
        (λ i within at. next-set_other following (length labels) i start (omega arith)) (length labels) start rest h));
    falling = λ few falls below i within. fall falls below i (trichotomy i (length labels)) within;
  }
    where
      next : List ℕ
      next = set following (length labels) start

      fall : FallsWithin following (length labels) → IsBelow start (length labels) → (i : ℕ)
          → (i < length labels) ⊎ (i ≡ length labels) ⊎ (length labels < i) → i < length labels + 1 → IsBelow (next_in next i) i
      fall falls below i (inl p) within =
          subst (λ n. IsBelow n i) (sym (next-set_other following (length labels) i start (omega arith))) (falls i p)
      fall falls below i (inr (inl e)) within =
          subst (λ k. IsBelow (next_in next k) k) (sym e)
          (subst (λ n. IsBelow n (length labels)) (sym (next-set_same following (length labels) start room)) below)
      fall falls below i (inr (inr p)) within = absurd (omega arith)

  -- without one more that the new one dominates
  pub linked_over : (following after : List ℕ) (last place : ℕ) → IsLinked graph labels new start following after
      → last < length after → (label_at more last).node ≡ new.node → next_in after last ≡ place → place < length labels
      → IsSpelled graph labels (label_at labels place) → DoesDominate graph labels new (label_at labels place)
      → IsLinked graph labels new start following (set after last (next_in after place))
  linked_over following after last place linked room at here within spelled dominates = record {
    others = λ i in_range apart. next-set_other after last i (next_in after place) (not_last i in_range apart) ∙ linked.others i in_range apart;
    covered = λ request rest some h.
        by request rest some
        (unlinked graph request more after next new.node last place (length labels) here (next-set_same after last (next_in after place) room)
        (λ i apart. next-set_other after last i (next_in after place) apart) (λ rest d. instead request some rest d)
        (length labels + 1) (length labels) rest (linked.covered request rest some h));
    falling = λ few falls below i in_range. fall few (linked.falling few falls below) i in_range (trichotomy i last);
  }
    where
      next : List ℕ
      next = set after last (next_in after place)

      unlike : FallsWithin after (length labels + 1) → (i : ℕ) → i < length labels + 1 → i ≢ last → IsBelow (next_in next i) i
      unlike falls i in_range apart =
          subst (λ n. IsBelow n i) (sym (next-set_other after last i (next_in after place) apart)) (falls i in_range)

      -- what was behind the one that is unlinked is below it, and that was below the last
      behind : length labels < 2 ^ 32 → IsBelow place last → IsBelow (next_in after place) place → IsBelow (next_in after place) last
      behind few (inl p) (inl q) = inl (omega arith)
      behind few (inl p) (inr q) = inr q
      behind few (inr p) (inl q) = absurd (omega arith)
      behind few (inr p) (inr q) = inr q

      fall : length labels < 2 ^ 32 → FallsWithin after (length labels + 1) → (i : ℕ) → i < length labels + 1
          → (i < last) ⊎ (i ≡ last) ⊎ (last < i) → IsBelow (next_in next i) i
      fall few falls i in_range (inl p) = unlike falls i in_range (omega arith)
      fall few falls i in_range (inr (inl e)) =
          subst (λ k. IsBelow (next_in next k) k) (sym e)
          (subst (λ n. IsBelow n last) (sym (next-set_same after last (next_in after place) room))
          (behind few (subst (λ n. IsBelow n last) here (falls last (omega (arith, in_range, e)))) (falls place (omega arith))))
      fall few falls i in_range (inr (inr p)) = unlike falls i in_range (omega arith)

      not_last : (i : ℕ) → i < length labels → (label_at labels i).node ≢ new.node → i ≢ last
      not_last i in_range apart e =
          apart (ap (λ l. l.node) (sym (label_left labels (new ∷ []) i in_range)) ∙ ap (λ n. (label_at more n).node) e ∙ at)

      instead : (request : Ask) → SomeRest graph request labels new → (rest : List Edge) → DominatesAt graph request more place rest
          → DominatesAt graph request more (length labels) rest
      instead request some rest d =
          record {
            other = some.0;
            is = subst (λ l. IsLabel graph request more l some.0) (sym new_at) (label-grows graph request labels (new ∷ []) new some.0 some.1);
            dominates = Dominates-trans request some.0 d.other rest
                (dominates request some.0 d.other some.1 (shrinks_at graph request labels (new ∷ []) place d.other within spelled d.is)) d.dominates;
          }

      by : (request : Ask) (rest : List Edge) → SomeRest graph request labels new
          → DominatesAt graph request more (length labels) rest ⊎ IsCovered graph request more next new.node (length labels + 1) (length labels) rest
          → IsCovered graph request more next new.node (length labels + 1) (length labels) rest
      by request rest some (inl d) =
          covered_here graph request more next new.node (length labels + 1) (length labels) rest (omega arith) (omega (arith, all))
          (ap (λ l. l.node) new_at) d
      by request rest some (inr c) = c

-- fronts remain fronts with the new label
pub fronts_added : (graph : Graph) (labels : List Label) (new : Label) (fronts : Fronts) (after : List ℕ)
    → new.node < length fronts.first → length labels < length after → length labels < 2 ^ 32
    → IsLinked graph labels new (first_in fronts.first new.node) fronts.following after
    → IsAdded graph labels new fronts (record { first = set fronts.first new.node (length labels); following = after })
fronts_added graph labels new fronts after known room few linked request some are = record {
  long = omega (arith, all);
  falling = record {
    first = λ node. first_below node (trichotomy node new.node);
    following = λ i within. linked.falling few are.falling.following (inl (are.falling.first new.node)) i (omega (arith, within, all));
  };
  served = λ i within. served i (trichotomy i (length labels)) within;
}
  where
    more : List Label
    more = labels ++ new ∷ []

    all : length more ≡ length labels + 1
    all = length_push labels new

    now : Fronts
    now = record { first = set fronts.first new.node (length labels); following = after }

    first_here : first_in now.first new.node ≡ length labels
    first_here = get_or-set_same fronts.first new.node (length labels) 0 known

    first_other : (node : ℕ) → node ≢ new.node → first_in now.first node < length more
    first_other node apart =
        omega (arith, all, are.falling.first node, get_or-set_other fronts.first new.node node (length labels) 0 apart)

    first_below : (node : ℕ) → (node < new.node) ⊎ (node ≡ new.node) ⊎ (new.node < node) → first_in now.first node < length more
    first_below node (inl p) = first_other node (omega arith)
    first_below node (inr (inl e)) = subst (λ n. first_in now.first n < length more) (sym e) (omega (arith, all, first_here))
    first_below node (inr (inr p)) = first_other node (omega arith)

    -- from an index on, the front of a node
    Covers : ℕ → ℕ → List Edge → Type 0
    Covers node from rest = IsCovered graph request more after node (length more) from rest

    other : (i : ℕ) → (s : IsServed graph request labels fronts i) → (label_at labels i).node ≢ new.node
        → Covers (label_at labels i).node (first_in now.first (label_at labels i).node) s.rest
    other i s apart =
        let node = (label_at labels i).node in
        subst (λ p. Covers node p s.rest) (sym (get_or-set_other fronts.first new.node node (length labels) 0 apart))
        (covered_more graph request more after node (length labels) (length more) (first_in fronts.first node) s.rest (omega (arith, all))
        (covered_later graph request labels more fronts.following after node (omega (arith, all))
        (λ j within. label_left labels (new ∷ []) j within) (λ label rest is. label-grows graph request labels (new ∷ []) label rest is)
        (λ j within at. linked.others j within (λ e. apart (sym at ∙ e))) (length labels) (first_in fronts.first node) s.rest s.covered))

    old : (i : ℕ) → (s : IsServed graph request labels fronts i)
        → ((label_at labels i).node < new.node) ⊎ ((label_at labels i).node ≡ new.node) ⊎ (new.node < (label_at labels i).node)
        → Covers (label_at labels i).node (first_in now.first (label_at labels i).node) s.rest
    old i s (inl p) = other i s (omega arith)
    old i s (inr (inl e)) =
        subst (λ n. Covers n (first_in now.first n) s.rest) (sym e)
        (subst (λ p. Covers new.node p s.rest) (sym first_here)
        (subst (λ n. IsCovered graph request more after new.node n (length labels) s.rest) (sym all)
        (linked.covered request s.rest some
        (subst (λ n. IsCovered graph request labels fronts.following n (length labels) (first_in fronts.first n) s.rest) e s.covered))))
    old i s (inr (inr p)) = other i s (omega arith)

    served : (i : ℕ) → (i < length labels) ⊎ (i ≡ length labels) ⊎ (length labels < i) → i < length more → IsServed graph request more now i
    served i (inl p) within =
        let s = are.served i p in
        record {
          rest = s.rest;
          is = grows_at graph request labels (new ∷ []) i s.rest p s.is;
          covered = subst (λ l. Covers l.node (first_in now.first l.node) s.rest) (sym (label_left labels (new ∷ []) i p))
              (old i s (trichotomy (label_at labels i).node new.node));
        }
    served i (inr (inl e)) within = subst (λ n. IsServed graph request more now n) (sym e) last
      where
        is : IsLabel graph request more (label_at more (length labels)) some.0
        is = subst (λ l. IsLabel graph request more l some.0) (sym (new_at graph labels new 0))
            (label-grows graph request labels (new ∷ []) new some.0 some.1)

        last : IsServed graph request more now (length labels)
        last = record {
          rest = some.0;
          is = is;
          covered = subst (λ l. Covers l.node (first_in now.first l.node) some.0) (sym (new_at graph labels new 0))
              (subst (λ p. Covers new.node p some.0) (sym first_here)
              (covered_here graph request more after new.node (length more) (length labels) some.0 (omega (arith, all)) (omega (arith, all))
              (ap (λ l. l.node) (new_at graph labels new 0))
              (record { other = some.0; is = is; dominates = Dominates-refl request some.0 })));
        }
    served i (inr (inr p)) within = absurd (omega (arith, all))

-- the same fronts
pub fronts_same : (graph : Graph) (request : Ask) (labels : List Label) (fronts after : Fronts) → AreSameFronts fronts after
    → AreFronts graph request labels fronts → AreFronts graph request labels after
fronts_same graph request labels fronts after same are = record {
  long = omega (arith, are.long, same.long);
  falling = record {
    first = λ node. omega (arith, same.first node, are.falling.first node);
    following = λ i within. subst (λ n. IsBelow n i) (sym (same.following i)) (are.falling.following i within);
  };
  served = served;
}
  where
    served : (i : ℕ) → i < length labels → IsServed graph request labels after i
    served i within =
        let s = are.served i within in
        let node = (label_at labels i).node in
        record {
          rest = s.rest;
          is = s.is;
          covered = subst (λ p. IsCovered graph request labels after.following node (length labels) p s.rest) (sym (same.first node))
              (covered_later graph request labels labels fronts.following after.following node (omega arith) (λ j within. refl) (λ label rest is. is)
              (λ j within at. same.following j) (length labels) (first_in fronts.first node) s.rest s.covered);
        }

-- new fronts, with the label at the payee
pub fronts_new : (graph : Graph) (request : Ask) (label : Label) (fronts : Fronts) → SomeRest graph request (label ∷ []) label
    → AreNewFronts fronts → AreFronts graph request (label ∷ []) fronts
fronts_new graph request label fronts some are = record {
  long = are.long;
  falling = record { first = λ node. omega (arith, are.first node); following = fall };
  served = served;
}
  where
    fall : (i : ℕ) → i < length (label ∷ []) → IsBelow (next_in fronts.following i) i
    fall zero within = inr are.following
    fall (suc i) within = absurd (omega arith)

    served : (i : ℕ) → i < length (label ∷ []) → IsServed graph request (label ∷ []) fronts i
    served zero within = record {
      rest = some.0;
      is = some.1;
      covered = subst (λ p. IsCovered graph request (label ∷ []) fronts.following label.node 1 p some.0) (sym (are.first label.node))
          (omega arith, refl, inl (record { other = some.0; is = some.1; dominates = Dominates-refl request some.0 }));
    }
    served (suc i) within = absurd (omega arith)

-- ---- different labels

-- a label that none in the front dominates represents another rest than those before it
pub distinct_more : (graph : Graph) (request : Ask) (labels : List Label) (new : Label) (fronts : Fronts)
    → AreLabels graph request labels → HaveFronts graph request labels fronts → AreDistinct graph request labels
    → SomeRest graph request labels new → IsUndominated graph labels fronts new → AreDistinct graph request (labels ++ new ∷ [])
distinct_more graph request labels new fronts are have distinct some apart i j rest before within few is also =
    by (trichotomy j (length labels))
  where
    all : length (labels ++ new ∷ []) ≡ length labels + 1
    all = length_push labels new

    spelled : (k : ℕ) → k < length labels → IsSpelled graph labels (label_at labels k)
    spelled k in_range = let s = are.sound k in_range in (s.0, s.1.spells, s.1.long)

    shrunk : (k : ℕ) → k < length labels → IsLabel graph request (labels ++ new ∷ []) (label_at (labels ++ new ∷ []) k) rest
        → IsLabel graph request labels (label_at labels k) rest
    shrunk k in_range h = shrinks_at graph request labels (new ∷ []) k rest in_range (spelled k in_range) h

    last : j ≡ length labels → i < length labels → length labels ≤ 2 ^ 32 → ⊥
    last e in_range low = apart request rest new_is
        (subst (λ n. IsCovered graph request labels fronts.following n (length labels) (first_in fronts.first n) rest) node
        (subst (λ r. IsCovered graph request labels fronts.following (label_at labels i).node (length labels)
        (first_in fronts.first (label_at labels i).node) r) same s.covered))
      where
        s : IsServed graph request labels fronts i
        s = (have low).served i in_range

        old_is : IsLabel graph request labels (label_at labels i) rest
        old_is = shrunk i in_range is

        same : s.rest ≡ rest
        same = label-unique graph request labels (label_at labels i) s.rest rest s.is old_is

        new_is : IsLabel graph request labels new rest
        new_is = label_shrinks graph request labels (new ∷ []) new rest (some.0, some.1.spells, some.1.long)
            (subst (λ l. IsLabel graph request (labels ++ new ∷ []) l rest)
            (ap (label_at (labels ++ new ∷ [])) e ∙ new_at graph labels new 0) also)

        node : (label_at labels i).node ≡ new.node
        node = same_node graph request rest (label_at labels i).node new.node old_is.joins new_is.joins

    by : (j < length labels) ⊎ (j ≡ length labels) ⊎ (length labels < j) → ⊥
    by (inl p) = distinct i j rest before p few (shrunk i (omega arith) is) (shrunk j p also)
    by (inr (inl e)) = last e (omega arith) (omega arith)
    by (inr (inr p)) = omega (arith, all)
