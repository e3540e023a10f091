-- Fronts: their labels dominate all labels, and keep doing so as labels are added.
use Rattle.std.proofs.Common.{◌≡◌, ◌≢◌, ◌⊎◌, ℕ, zero, suc, ◌+◌, ◌-◌, ◌<◌, ◌≤◌, List, [], ◌∷◌, ◌++◌, length}
use Rattle.std.proofs.Common.{sym, ◌∙◌, ap, subst, inl, inr, arith}
use Rattle.lgm_graph.specs.Graph.{Graph, edges}
use Rattle.lgm_graph.specs.declared.edge.Edge.{Edge}
use Rattle.lgm_route.specs.inner.Numbered.{Ask, IsRest}
use Rattle.lgm_route.specs.declared.label.Label.{Label}
use Rattle.lgm_route.specs.inner.Searching.{label_at, Spells, IsSpelled, IsLabel}
use Rattle.lgm_route.specs.inner.Fronts.{next_in, DominatesAt, IsCovered}
use Rattle.lgm_route.proofs.Rests.{trichotomy}
use Rattle.lgm_route.proofs.Labels.{Spells-unique, Spells-grows, label_left, label-grows}

-- ---- labels among more labels

-- a label represents what it represented among fewer labels
pub label_shrinks : (graph : Graph) (request : Ask) (labels more : List Label) (label : Label) (rest : List Edge)
    → IsSpelled graph labels label → IsLabel graph request (labels ++ more) label rest → IsLabel graph request labels label rest
label_shrinks graph request labels more label rest spelled is =
    record {
      spells = subst (Spells graph labels label) same spelled.1;
      long = is.long;
      joins = is.joins;
      owes = is.owes;
      spends = is.spends;
      waits = is.waits;
      in_time = is.in_time;
    }
  where
    same : spelled.0 ≡ rest
    same = Spells-unique graph (labels ++ more) label spelled.0 rest (Spells-grows graph labels more label spelled.0 spelled.1)
        is.spells (spelled.2 ∙ sym is.long)

-- that of an index does
pub shrinks_at : (graph : Graph) (request : Ask) (labels more : List Label) (i : ℕ) (rest : List Edge) → i < length labels
    → IsSpelled graph labels (label_at labels i) → IsLabel graph request (labels ++ more) (label_at (labels ++ more) i) rest
    → IsLabel graph request labels (label_at labels i) rest
shrinks_at graph request labels more i rest within spelled is =
    label_shrinks graph request labels more (label_at labels i) rest spelled
    (subst (λ l. IsLabel graph request (labels ++ more) l rest) (label_left labels more i within) is)

pub grows_at : (graph : Graph) (request : Ask) (labels more : List Label) (i : ℕ) (rest : List Edge) → i < length labels
    → IsLabel graph request labels (label_at labels i) rest → IsLabel graph request (labels ++ more) (label_at (labels ++ more) i) rest
grows_at graph request labels more i rest within is =
    subst (λ l. IsLabel graph request (labels ++ more) l rest) (sym (label_left labels more i within))
    (label-grows graph request labels more (label_at labels i) rest is)

-- labels of one rest are at one node
pub same_node : (graph : Graph) (request : Ask) (rest : List Edge) (node other : ℕ) → IsRest (edges graph) request node rest
    → IsRest (edges graph) request other rest → node ≡ other
same_node graph request [] node other h k = h ∙ sym k
same_node graph request (edge ∷ rest) node other h k = sym h.0.leaves ∙ k.0.leaves

-- ---- what a front covers

both : {A B C D : Type 0} → (A → B) → (C → D) → A ⊎ C → B ⊎ D
both f g (inl a) = inl (f a)
both f g (inr c) = inr (g c)

module _ (graph : Graph) (request : Ask) (labels : List Label) (following : List ℕ) (node : ℕ) where
  -- it does within more labels
  pub covered_more : (steps more place : ℕ) (rest : List Edge) → steps ≤ more
      → IsCovered graph request labels following node steps place rest → IsCovered graph request labels following node more place rest
  covered_more zero more place rest few h = absurd h
  covered_more (suc steps) zero place rest few h = absurd (omega arith)
  covered_more (suc steps) (suc more) place rest few h =
      (h.0, h.1, both (λ d. d) (λ c. covered_more steps more (next_in following place) rest (omega arith) c) h.2)

  -- by its first label
  pub covered_here : (steps place : ℕ) (rest : List Edge) → 0 < steps → place < length labels → (label_at labels place).node ≡ node
      → DominatesAt graph request labels place rest → IsCovered graph request labels following node steps place rest
  covered_here zero place rest some within at dominates = absurd (omega arith)
  covered_here (suc more) place rest some within at dominates = (within, at, inl dominates)

  -- or by one after it
  pub covered_behind : (steps more place : ℕ) (rest : List Edge) → more ≡ suc steps → place < length labels
      → (label_at labels place).node ≡ node → IsCovered graph request labels following node steps (next_in following place) rest
      → IsCovered graph request labels following node more place rest
  covered_behind steps more place rest e within at behind =
      subst (λ n. IsCovered graph request labels following node n place rest) (sym e) (within, at, inr behind)

  -- if a front covers a rest, it has a label at its first index
  pub covered_within : (steps place : ℕ) (rest : List Edge) → IsCovered graph request labels following node steps place rest
      → (place < length labels) × ((label_at labels place).node ≡ node)
  covered_within zero place rest h = absurd h
  covered_within (suc more) place rest h = (h.0, h.1)

  -- and if that doesn't dominate the rest, a later one does
  pub covered_on : (steps more place : ℕ) (rest : List Edge) → steps ≡ suc more
      → (DominatesAt graph request labels place rest → ⊥) → IsCovered graph request labels following node steps place rest
      → IsCovered graph request labels following node more (next_in following place) rest
  covered_on steps more place rest e not h =
      by (subst (λ n. IsCovered graph request labels following node n place rest) e h).2
    where
      by : DominatesAt graph request labels place rest ⊎ IsCovered graph request labels following node more (next_in following place) rest
          → IsCovered graph request labels following node more (next_in following place) rest
      by (inl d) = absurd (not d)
      by (inr c) = c

-- among more labels, where those of the node are followed by the same ones
module _ (graph : Graph) (request : Ask) (labels after : List Label) (following next : List ℕ) (node : ℕ)
    (longer : length labels ≤ length after)
    (same : (i : ℕ) → i < length labels → label_at after i ≡ label_at labels i)
    (grows : (label : Label) (rest : List Edge) → IsLabel graph request labels label rest → IsLabel graph request after label rest)
    (agree : (i : ℕ) → i < length labels → (label_at labels i).node ≡ node → next_in next i ≡ next_in following i) where
  dominates_later : (i : ℕ) (rest : List Edge) → i < length labels → DominatesAt graph request labels i rest
      → DominatesAt graph request after i rest
  dominates_later i rest within h =
      record {
        other = h.other;
        is = subst (λ l. IsLabel graph request after l h.other) (sym (same i within)) (grows (label_at labels i) h.other h.is);
        dominates = h.dominates;
      }

  pub covered_later : (steps place : ℕ) (rest : List Edge) → IsCovered graph request labels following node steps place rest
      → IsCovered graph request after next node steps place rest
  covered_later zero place rest h = absurd h
  covered_later (suc more) place rest h = (
    omega (arith, h.0, longer),
    ap (λ l. l.node) (same place h.0) ∙ h.1,
    both (λ d. dominates_later place rest h.0 d) (λ c. subst (λ p. IsCovered graph request after next node more p rest)
        (sym (agree place h.0 h.1)) (covered_later more (next_in following place) rest c)) h.2,
  )

-- an index is unlinked: whatever its label dominates, another one does
module _ (graph : Graph) (request : Ask) (labels : List Label) (following next : List ℕ) (node last place top : ℕ)
    (here : next_in following last ≡ place) (over : next_in next last ≡ next_in following place)
    (others : (i : ℕ) → i ≢ last → next_in next i ≡ next_in following i)
    (instead : (rest : List Edge) → DominatesAt graph request labels place rest → DominatesAt graph request labels top rest) where
  abbrev Still : ℕ → ℕ → List Edge → Type 0
  Still steps from rest = DominatesAt graph request labels top rest ⊎ IsCovered graph request labels next node steps from rest

  -- what is after it is after the one before it
  passed : next_in next place ≡ next_in next last
  passed = by (trichotomy place last)
    where
      by : (place < last) ⊎ (place ≡ last) ⊎ (last < place) → next_in next place ≡ next_in next last
      by (inl p) = others place (omega arith) ∙ sym over
      by (inr (inl e)) = ap (next_in next) e
      by (inr (inr p)) = others place (omega arith) ∙ sym over

  skip : (steps : ℕ) (rest : List Edge) → IsCovered graph request labels next node steps place rest → Still steps (next_in next last) rest
  skip zero rest h = absurd h
  skip (suc more) rest h = by h.2
    where
      by : DominatesAt graph request labels place rest ⊎ IsCovered graph request labels next node more (next_in next place) rest
          → Still (suc more) (next_in next last) rest
      by (inl d) = inl (instead rest d)
      by (inr c) = inr (covered_more graph request labels next node more (suc more) (next_in next last) rest (omega arith)
          (subst (λ p. IsCovered graph request labels next node more p rest) passed c))

  pub unlinked : (steps from : ℕ) (rest : List Edge) → IsCovered graph request labels following node steps from rest → Still steps from rest
  unlinked zero from rest h = absurd h
  unlinked (suc more) from rest h = by (λ c. unlinked more (next_in following from) rest c) h.2
    where
      on : Still more (next_in next from) rest → Still (suc more) from rest
      on (inl d) = inl d
      on (inr c) = inr (h.0, h.1, inr c)

      other : from ≢ last → Still more (next_in following from) rest → Still (suc more) from rest
      other apart s = on (subst (λ p. Still more p rest) (sym (others from apart)) s)

      past : Still more place rest → Still more (next_in next last) rest
      past (inl d) = inl d
      past (inr c) = skip more rest c

      at : (from < last) ⊎ (from ≡ last) ⊎ (last < from) → Still more (next_in following from) rest → Still (suc more) from rest
      at (inl p) s = other (omega arith) s
      at (inr (inl e)) s =
          on (subst (λ p. Still more (next_in next p) rest) (sym e)
          (past (subst (λ p. Still more p rest) (ap (next_in following) e ∙ here) s)))
      at (inr (inr p)) s = other (omega arith) s

      by : (IsCovered graph request labels following node more (next_in following from) rest → Still more (next_in following from) rest)
          → DominatesAt graph request labels from rest ⊎ IsCovered graph request labels following node more (next_in following from) rest
          → Still (suc more) from rest
      by later (inl d) = inr (h.0, h.1, inl d)
      by later (inr c) = at (trichotomy from last) (later c)
