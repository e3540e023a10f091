-- One step of the search: labels are compared, added and relaxed.
-- the label comes first: by its amount, then by its number of edges, then by their ids
use Rattle.std.specs.Prelude.{if◌then◌else◌}
use Rattle.std.proofs.Common.{◌≡◌, ◌⊎◌, ℕ, ◌+◌, ◌<◌, ◌≤◌, List, [], ◌∷◌, ◌++◌, length, Option}
use Rattle.std.proofs.Common.{Some, None, Bool, true, false, refl, sym, ◌∙◌, ap, subst, inl, inr, arith}
use Rattle.std.proofs.lemmas.List.{get_or_push, length_push, append-nil}
use Rattle.lgm_graph.specs.Graph.{Graph}
use Rattle.lgm_graph.specs.declared.edge.Edge.{Edge}
use Rattle.lgm_route.specs.inner.Numbered.{Ask}
use Rattle.lgm_route.specs.declared.label.Label.{Label}
use Rattle.lgm_route.specs.inner.Numbered.{worth, ids}
use Rattle.lgm_route.specs.inner.Searching.{cost, NotAfter, walk_key, label_at, no_label}
use Rattle.lgm_route.specs.inner.Searching.{IdsFirst, IsLabel, IsWalk, DoesDominate, SomeRest, SomeWalk}
use Rattle.lgm_route.specs.inner.Searching.{AreLabels, IsFound, IsBetter, IsOffered}
use Rattle.lgm_route.proofs.Orders.{NotAfter-refl, NotAfter-trans, NotAfter-join}
use Rattle.lgm_route.proofs.Rests.{trichotomy, Dominates-refl}
use Rattle.lgm_route.proofs.Labels.{label_left, label-grows}

abbrev pub IsBefore : Graph → List Label → Label → Label → Type 0
IsBefore graph labels x y =
    (x.amount + x.penalty < y.amount + y.penalty) ⊎ ((x.amount + x.penalty ≡ y.amount + y.penalty) × (x.hops < y.hops))
    ⊎ ((x.amount + x.penalty ≡ y.amount + y.penalty) × (x.hops ≡ y.hops) × IdsFirst graph labels x y)

pub before_walk : (graph : Graph) (request : Ask) (labels : List Label) (x y : Label)
    (walk other : List Edge) → IsWalk graph request labels x walk → IsWalk graph request labels y other →
    IsBefore graph labels x y → NotAfter (walk_key request walk) (walk_key request other)
before_walk graph request labels x y walk other h k (inl p) =
    NotAfter-join (worth request walk) (worth request other) (length walk ∷ ids walk)
    (length other ∷ ids other) (inl (omega (arith, h.costs, k.costs)))
before_walk graph request labels x y walk other h k (inr (inl p)) =
    NotAfter-join (worth request walk) (worth request other) (length walk ∷ ids walk) (length other ∷ ids other)
    (inr (h.costs ∙ p.0 ∙ sym k.costs, NotAfter-join (length walk) (length other) (ids walk) (ids other) (inl (omega (arith, p.1, h.long, k.long)))))
before_walk graph request labels x y walk other h k (inr (inr p)) =
    NotAfter-join (worth request walk) (worth request other) (length walk ∷ ids walk) (length other ∷ ids other)
    (inr (
      h.costs ∙ p.0 ∙ sym k.costs,
      NotAfter-join (length walk) (length other) (ids walk) (ids other)
          (inr (h.long ∙ p.1 ∙ sym k.long, p.2 walk other h.spells k.spells h.long k.long)),
    ))

-- the better of two walks
module _ (graph : Graph) (request : Ask) (labels : List Label) (upper_bound : ℕ) (short : request.hops ≤ 20) where
  pub better_first : (new : Label) → SomeWalk graph request labels new → new.amount + new.penalty < upper_bound → IsBetter graph request labels upper_bound None new (Some new)
  better_first new some low =
      record {
        found_is = (some, low);
        lower = omega (arith, some.1.few, short);
        below = omega arith;
        keeps =
            λ walk h. (
              some.0,
              some.1,
              NotAfter-join (worth request some.0) (worth request walk)
                  (length some.0 ∷ ids some.0) (length walk ∷ ids walk) (inl (omega (arith, some.1.costs))),
            );
        takes = λ walk is. (walk, is, NotAfter-refl (walk_key request walk));
      }

  pub better_takes : (best new : Label) → IsFound graph request labels upper_bound (Some best)
      → SomeWalk graph request labels new → IsBefore graph labels new best
      → IsBetter graph request labels upper_bound (Some best) new (Some new)
  better_takes best new found some before =
      record {
        found_is = (some, low before);
        lower = lower before;
        below = omega arith;
        keeps =
            λ walk h. (
              some.0,
              some.1,
              NotAfter-trans (walk_key request some.0) (walk_key request h.0) (walk_key request walk)
                  (before_walk graph request labels new best some.0 h.0 some.1 h.1 before) h.2,
            );
        takes = λ walk is. (walk, is, NotAfter-refl (walk_key request walk));
      }
    where
      low : IsBefore graph labels new best → new.amount + new.penalty < upper_bound
      low (inl p) = omega (arith, found.1)
      low (inr (inl p)) = omega (arith, found.1, p.0)
      low (inr (inr p)) = omega (arith, found.1, p.0)

      lower : IsBefore graph labels new best → cost (new.amount + new.penalty) new.hops ≤ cost (best.amount + best.penalty) best.hops
      lower (inl p) = omega (arith, some.1.few, short)
      lower (inr (inl p)) = omega (arith, p.0, p.1)
      lower (inr (inr p)) = omega (arith, p.0, p.1)

  pub better_keeps : (best new : Label) → IsFound graph request labels upper_bound (Some best)
      → IsBefore graph labels best new → IsBetter graph request labels upper_bound (Some best) new (Some best)
  better_keeps best new found before =
      record {
        found_is = found;
        lower = omega arith;
        below = below before;
        keeps = λ walk h. h;
        takes = λ walk is. ((found.0).0, (found.0).1, before_walk graph request labels best new (found.0).0 walk (found.0).1 is before);
      }
    where
      below : IsBefore graph labels best new → cost (best.amount + best.penalty) best.hops ≤ cost (new.amount + new.penalty) new.hops
      below (inl p) = omega (arith, (found.0).1.few, short)
      below (inr (inl p)) = omega (arith, p.0, p.1)
      below (inr (inr p)) = omega (arith, p.0, p.1)

  -- no walk was found yet, and this one isn't below the upper bound
  pub better_none : (new : Label) → upper_bound ≤ new.amount + new.penalty → IsBetter graph request labels upper_bound None new None
  better_none new high =
      record {
        found_is = tt;
        lower = omega arith;
        below = omega arith;
        keeps = λ walk h. h;
        takes = λ walk is. omega (arith, is.costs);
      }

  pub better_choice : (best : Option Label) (new : Label) (b : Bool) → (b ≡ true → IsBetter graph request labels upper_bound best new (Some new)) →
      (b ≡ false → IsBetter graph request labels upper_bound best new best) → IsBetter graph request labels upper_bound best new (if b then Some new else best)
  better_choice best new true f g = f refl
  better_choice best new false f g = g refl

  -- the better of the best so far and a new walk, by a test
  pub better_by : (best : Option Label) (old new : Label) (b : Bool) → best ≡ Some old → IsFound graph request labels upper_bound best
      → SomeWalk graph request labels new → (b ≡ true → IsBefore graph labels new old)
      → (b ≡ false → IsBefore graph labels old new)
      → IsBetter graph request labels upper_bound best new (if b then Some new else best)
  better_by best old new b is found some before after =
      let stored : IsFound graph request labels upper_bound (Some old) = rw is at found in
      subst (λ (o : Option Label). IsBetter graph request labels upper_bound o new (if b then Some new else o)) (sym is)
      (better_choice (Some old) new b (λ e. better_takes old new stored some (before e)) (λ e. better_keeps old new stored (after e)))

-- a dominating label is there
pub offered_there : (graph : Graph) (request : Ask) (labels : List Label) (new : Label)
    (place : ℕ) → AreLabels graph request labels → place < length labels →
    (label_at labels place).node ≡ new.node → DoesDominate graph labels (label_at labels place) new → IsOffered graph request labels new labels
offered_there graph request labels new place are within at dominates =
    record {
      labelled = are;
      more = [];
      is = sym (append-nil labels);
      has = λ rest is. record {
        place = place;
        within = within;
        at = at;
        other = (are.sound place within).0;
        is = (are.sound place within).1;
        dominates = dominates request (are.sound place within).0 rest (are.sound place within).1 is;
      };
    }

label_new : (labels : List Label) (new : Label) (i : ℕ) → length labels ≡ i → label_at (labels ++ new ∷ []) i ≡ new
label_new labels new i long = get_or_push labels new no_label i long

-- or it is added
pub offered_new : (graph : Graph) (request : Ask) (labels : List Label) (new : Label) → AreLabels graph request labels →
    SomeRest graph request labels new → new.hops < request.hops → IsOffered graph request labels new (labels ++ new ∷ [])
offered_new graph request labels new are some few =
    record {
      labelled = record {
        some = omega (arith, all, are.some);
        first = (
          ap (λ l. l.node) (label_left labels (new ∷ []) 0 (omega (arith, are.some))) ∙ are.first.0,
          ap (λ l. l.hops) (label_left labels (new ∷ []) 0 (omega (arith, are.some))) ∙ are.first.1,
        );
        sound = λ i within. sound i (trichotomy i (length labels)) within;
        few = λ i within. low i (trichotomy i (length labels)) within;
      };
      more = new ∷ [];
      is = refl;
      has = λ rest is. record {
        place = length labels;
        within = omega (arith, all);
        at = ap (λ l. l.node) last;
        other = rest;
        is = subst (λ l. IsLabel graph request (labels ++ new ∷ []) l rest) (sym last) (label-grows graph request labels (new ∷ []) new rest is);
        dominates = Dominates-refl request rest;
      };
    }
  where
    all : length (labels ++ new ∷ []) ≡ length labels + 1
    all = length_push labels new

    last : label_at (labels ++ new ∷ []) (length labels) ≡ new
    last = label_new labels new (length labels) refl

    sound : (i : ℕ) → (i < length labels) ⊎ (i ≡ length labels) ⊎ (length labels < i) → i < length (labels
        ++ new ∷ []) → SomeRest graph request (labels ++ new ∷ []) (label_at (labels ++ new ∷ []) i)
    sound i (inl p) within = (
      (are.sound i p).0,
      subst (λ l. IsLabel graph request (labels ++ new ∷ []) l (are.sound i p).0) (sym (label_left labels (new ∷ []) i p))
          (label-grows graph request labels (new ∷ []) (label_at labels i) (are.sound i p).0 (are.sound i p).1),
    )
    sound i (inr (inl e)) within = (
      some.0,
      subst (λ l. IsLabel graph request (labels ++ new ∷ []) l some.0) (sym (label_new labels new i
          (sym e))) (label-grows graph request labels (new ∷ []) new some.0 some.1),
    )
    sound i (inr (inr p)) within = absurd (omega (arith, all))

    low : (i : ℕ) → (i < length labels) ⊎ (i ≡ length labels) ⊎ (length labels < i)
        → i < length (labels ++ new ∷ []) → (label_at (labels ++ new ∷ []) i).hops < request.hops
    low i (inl p) within = omega (arith, are.few i p, ap (λ l. l.hops) (label_left labels (new ∷ []) i p))
    low i (inr (inl e)) within = omega (arith, ap (λ l. l.hops) (label_new labels new i (sym e)))
    low i (inr (inr p)) within = absurd (omega (arith, all))
