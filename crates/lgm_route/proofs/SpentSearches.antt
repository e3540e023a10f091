-- A search and its steps, from step to step.
use Rattle.std.proofs.Common.{◌≡◌, ◌≢◌, ◌⊎◌, ℕ, zero, suc, ◌+◌, ◌-◌, ◌^◌, ◌<◌, ◌≤◌, List, length, true, false, not, min, refl, sym, ◌∙◌, ap, subst, inl, inr, arith, add-one}
use Rattle.std.proofs.Math.Nat.{min-le_left}
use Rattle.std.proofs.lemmas.Bool.{cases_Bool}
use Rattle.lgm_graph.specs.Graph.{Graph, edges_into}
use Rattle.lgm_graph.specs.declared.edge.Edge.{Edge}
use Rattle.lgm_route.specs.declared.halt.Halt.{Halt}
use Rattle.lgm_route.specs.declared.halt.Halt.TheVariants.{NoMemory, Labels, Steps}
use Rattle.lgm_route.specs.declared.label.Label.{Label}
use Rattle.lgm_route.specs.inner.Searching.{label_at, edge_at}
use Rattle.lgm_route.specs.inner.Fronts.{AreFalling}
use Rattle.lgm_route.specs.inner.Spending.{HasMore, total, look_over, allowed, compares_of, is_marked, labels_of, looks_from, most_allowed, when}
use Rattle.lgm_route.specs.inner.SearchState.{Ground, SearchState, IsSearch, Extends, Adds, IsPaid, IsStopped, IsHalted, HasReached, MayHalt}
use Rattle.lgm_route.proofs.Rests.{trichotomy}
use Rattle.lgm_route.proofs.Labels.{grows-refl}
use Rattle.lgm_route.proofs.SpendingLaws.{total-le, total-longer, total-next, has_more-refl, has_more-trans, longer, label-more, labels_of-more, compares-more, allowed-more}
use Rattle.lgm_route.proofs.SpendingLaws.{allowed-done, allowed-both, allowed-open, allowed-open_both}

-- ---- steps alone

-- the same search with other steps
pub search_spent : (s : SearchState) (spent dived : ℕ) → IsSearch s → IsSearch (record s { spent = spent; dived = dived })
search_spent s spent dived is = record {
  ground = is.ground;
  labelled = is.labelled;
  found = is.found;
  settled = is.settled;
  fronts = is.fronts;
  distinct = is.distinct;
}

pub extends_spent : (s : SearchState) (spent dived : ℕ) → Extends s (record s { spent = spent; dived = dived })
extends_spent s spent dived = record {
  ground = refl;
  grows = grows-refl s.ground.graph s.ground.request s.ground.upper_bound s.labels s.best;
  still = λ i m. m;
}

pub adds_spent : (s : SearchState) (spent : ℕ) → Adds s (record s { spent = spent })
adds_spent s spent = record { ground = refl; more = has_more-refl s.labels; still = λ i m. m; dived = refl }

-- ---- labels are added

pub adds-refl : (a : SearchState) → Adds a a
adds-refl a = record { ground = refl; more = has_more-refl a.labels; still = λ i m. m; dived = refl }

pub adds-trans : (a b c : SearchState) → Adds a b → Adds b c → Adds a c
adds-trans a b c h k = record {
  ground = k.ground ∙ h.ground;
  more = has_more-trans a.labels b.labels c.labels h.more k.more;
  still = λ i m. k.still i (h.still i m);
  dived = k.dived ∙ h.dived;
}

pub adds_of : (a b : SearchState) → Extends a b → b.dived ≡ a.dived → Adds a b
adds_of a b h dived = record {
  ground = h.ground;
  more = record { more = h.grows.more; is = h.grows.is };
  still = h.still;
  dived = dived;
}

-- a search that stopped after this
pub stopped_on : (a b c : SearchState) (halt : Halt) → b.ground ≡ a.ground → IsStopped b c halt → IsStopped a c halt
stopped_on a b c halt same k = record { ground = k.ground ∙ same; reached = k.reached }

-- ---- paying

-- nothing was spent, and labels, marks and dives stay or grow
pub paid-more : (a b : SearchState) → b.ground ≡ a.ground → HasMore a.labels b.labels → ((i : ℕ) → is_marked a.done i ≡ true → is_marked b.done i ≡ true)
    → a.dived ≤ b.dived → b.spent ≤ a.spent → IsPaid a → IsPaid b
paid-more a b ground more still dived spent paid = record { few = λ low. by low }
  where
    by : length b.labels < 2 ^ 32 → b.spent ≤ allowed b.ground.graph b.labels (length b.labels) b.dived b.done
    by low =
        let known = allowed-more a.ground.graph a.labels b.labels (length a.labels) (length b.labels) a.dived b.dived a.done b.done more
        (longer a.labels b.labels more) dived still in
        subst (λ (g : Ground). b.spent ≤ allowed g.graph b.labels (length b.labels) b.dived b.done) (sym ground)
        (omega (arith, spent, known, paid.few (omega (arith, low, longer a.labels b.labels more))))

-- ---- comparing and relaxing

-- a label is compared with those of its node
pub compared_few : (s : SearchState) (i compared : ℕ) (label : Label) → IsSearch s → label_at s.labels i ≡ label
    → (AreFalling s.fronts (length s.labels) → length s.labels < 2 ^ 32 → compared ≤ labels_of s.labels label.node)
    → length s.labels < 2 ^ 32 → compared ≤ compares_of s.labels i
compared_few s i compared label is at few low =
    subst (λ (l : Label). compared ≤ labels_of s.labels l.node) (sym at) (few (is.fronts (omega arith)).falling low)

-- one that is offered, too
pub offered_spends : (labels after : List Label) (node compared spent : ℕ) → HasMore labels after
    → (length labels < 2 ^ 32 → compared ≤ labels_of labels node) → length after < 2 ^ 32
    → min (spent + compared) (2 ^ 64 - 1) ≤ spent + labels_of after node
offered_spends labels after node compared spent more few low =
    omega (arith, min-le_left (spent + compared) (2 ^ 64 - 1), few (omega (arith, low, longer labels after more)), labels_of-more labels after node more)

-- what was spent on the first so many edges
abbrev pub looked : List Label → List Edge → ℕ → ℕ
looked labels edges n = total (λ j. labels_of labels (edge_at edges j).from) n

pub looked-more : (labels after : List Label) (edges : List Edge) (n : ℕ) → HasMore labels after → looked labels edges n ≤ looked after edges n
looked-more labels after edges n more =
    total-le (λ j. labels_of labels (edge_at edges j).from) (λ j. labels_of after (edge_at edges j).from) n
    (λ j within. labels_of-more labels after (edge_at edges j).from more)

looked-over : (labels : List Label) (edges : List Edge) (n : ℕ) → total (λ j. look_over labels (edge_at edges j)) n ≡ n + looked labels edges n
looked-over labels edges zero = refl
looked-over labels edges (suc n) = omega (arith, looked-over labels edges n)

-- on all of them at most what relaxing the label takes
pub looked-all : (graph : Graph) (labels : List Label) (i n : ℕ) → n ≤ length (edges_into graph (label_at labels i).node)
    → length (edges_into graph (label_at labels i).node) + looked labels (edges_into graph (label_at labels i).node) n ≤ looks_from graph labels i
unfolding looks_from
looked-all graph labels i n few =
    let into = edges_into graph (label_at labels i).node in
    omega (arith, looked-over labels into (length into), total-longer (λ j. labels_of labels (edge_at into j).from) n (length into) few)

-- on some of them and one more of them
pub look-one : (graph : Graph) (labels : List Label) (i at looked : ℕ) → at < length (edges_into graph (label_at labels i).node)
    → looked ≤ length (edges_into graph (label_at labels i).node)
    → looked + labels_of labels (edge_at (edges_into graph (label_at labels i).node) at).from ≤ looks_from graph labels i
look-one graph labels i at looked within few =
    let into = edges_into graph (label_at labels i).node in
    omega (
      arith,
      few,
      looked-all graph labels i (length into) (omega arith),
      total-next (λ j. labels_of labels (edge_at into j).from) at (length into) within,
    )

-- one more edge
pub looked_next : (labels after : List Label) (run : List Edge) (at base mid now : ℕ) (edge : Edge) → HasMore labels after → edge ≡ edge_at run at
    → mid ≤ base + looked labels run at → now ≤ mid + labels_of after edge.from → now ≤ base + looked after run (at + 1)
looked_next labels after run at base mid now edge more is before next =
    let same : labels_of after edge.from ≡ labels_of after (edge_at run at).from = ap (λ (e : Edge). labels_of after e.from) is in
    let longer : looked after run (at + 1) ≡ looked after run at + labels_of after (edge_at run at).from = ap (looked after run) (add-one at) in
    omega (arith, before, next, same, longer, looked-more labels after run at more)

-- all of them at most what relaxing the label takes, once there are more labels
pub relaxed_spends : (graph : Graph) (labels after : List Label) (i n spent now : ℕ) (run : List Edge) → HasMore labels after → i < length labels
    → run ≡ edges_into graph (label_at labels i).node → n ≤ length run → now ≤ spent + length run + looked after run n
    → now ≤ spent + looks_from graph after i
relaxed_spends graph labels after i n spent now run more within is few before =
    let same : run ≡ edges_into graph (label_at after i).node = is ∙ ap (λ (l : Label). edges_into graph l.node) (sym (label-more labels after i more within)) in
    let all : length run + looked after run n ≤ looks_from graph after i =
    subst (λ r. n ≤ length r → length r + looked after r n ≤ looks_from graph after i) (sym same) (looked-all graph after i n) few in
    omega (arith, before, all)

-- ---- settling

-- one label was compared, and one that wasn't settled was perhaps relaxed
pub settled-stops : (a b : SearchState) (i place : ℕ) → IsPaid a → i < length a.labels → place < length a.labels
    → is_marked a.done i ≡ false → Adds a b
    → (length b.labels < 2 ^ 32 → b.spent ≤ a.spent + compares_of a.labels i
    + when (not (is_marked a.done place)) (looks_from a.ground.graph b.labels place))
    → length b.labels < 2 ^ 32 → b.spent ≤ most_allowed b.ground.graph b.labels
settled-stops a b i place paid within inside unmarked adds spends low =
    subst (λ (g : Ground). b.spent ≤ most_allowed g.graph b.labels) (sym adds.ground) (by (trichotomy i place) (cases_Bool (is_marked a.done place)))
  where
    graph : Graph
    graph = a.ground.graph

    long : length a.labels ≤ length b.labels
    long = longer a.labels b.labels adds.more

    -- what the labels before take of the labels after
    before : a.spent ≤ allowed graph b.labels (length a.labels) a.dived a.done
    before = omega (
      arith,
      paid.few (omega (arith, low, long)),
      allowed-more graph a.labels b.labels (length a.labels) (length a.labels) a.dived a.dived a.done a.done adds.more (omega arith) (omega arith) (λ j e. e),
    )

    compares : compares_of a.labels i ≤ compares_of b.labels i
    compares = compares-more graph a.labels b.labels adds.more i within

    apart : i ≢ place → (is_marked a.done place ≡ true) ⊎ (is_marked a.done place ≡ false) → b.spent ≤ most_allowed graph b.labels
    apart differs (inl e) =
        let known : when (not (is_marked a.done place)) (looks_from graph b.labels place) ≡ 0 = ap (λ m. when (not m) (looks_from graph b.labels place)) e in
        omega (arith, spends low, known, before, compares, allowed-open graph b.labels (length a.labels) a.dived a.done i (omega (arith, within, long)) unmarked)
    apart differs (inr e) =
        let known : when (not (is_marked a.done place)) (looks_from graph b.labels place) ≡ looks_from graph b.labels place
        = ap (λ m. when (not m) (looks_from graph b.labels place)) e in
        omega (
          arith,
          spends low,
          known,
          before,
          compares,
          allowed-open_both graph b.labels (length a.labels) a.dived a.done i place (omega (arith, within, long)) (omega (arith, inside, long)) differs unmarked e,
        )

    by : (i < place) ⊎ (i ≡ place) ⊎ (place < i) → (is_marked a.done place ≡ true) ⊎ (is_marked a.done place ≡ false)
        → b.spent ≤ most_allowed graph b.labels
    by (inl p) m = apart (omega arith) m
    by (inr (inl e)) m =
        let known : when (not (is_marked a.done place)) (looks_from graph b.labels place) ≡ looks_from graph b.labels i
        = ap (λ k. when (not (is_marked a.done k)) (looks_from graph b.labels k)) (sym e) ∙ ap (λ m. when (not m) (looks_from graph b.labels i)) unmarked in
        omega (arith, spends low, known, before, compares, allowed-open graph b.labels (length a.labels) a.dived a.done i (omega (arith, within, long)) unmarked)
    by (inr (inr p)) m = apart (omega arith) m

-- and both are marked now
pub settled-pays : (a b c : SearchState) (i place : ℕ) → i < length a.labels → place < length a.labels
    → is_marked a.done i ≡ false → Adds a b
    → (length b.labels < 2 ^ 32 → b.spent ≤ a.spent + compares_of a.labels i
    + when (not (is_marked a.done place)) (looks_from a.ground.graph b.labels place))
    → Adds b c → c.labels ≡ b.labels → c.spent ≡ b.spent → is_marked c.done i ≡ true → is_marked c.done place ≡ true → IsPaid a → IsPaid c
settled-pays a b c i place within inside unmarked adds spends after labels spent here there paid = record {
  few = λ low. subst (λ (g : Ground). c.spent ≤ allowed g.graph c.labels (length c.labels) c.dived c.done) (sym (after.ground ∙ adds.ground))
      (by low (trichotomy i place) (cases_Bool (is_marked a.done place)));
}
  where
    graph : Graph
    graph = a.ground.graph

    all : Adds a c
    all = adds-trans a b c adds after

    long : length a.labels ≤ length c.labels
    long = longer a.labels c.labels all.more

    same : length b.labels ≡ length c.labels
    same = ap length (sym labels)

    looks : looks_from graph b.labels place ≡ looks_from graph c.labels place
    looks = ap (λ l. looks_from graph l place) (sym labels)

    before : length c.labels < 2 ^ 32 → a.spent ≤ allowed graph c.labels (length c.labels) a.dived a.done
    before low = omega (
      arith,
      paid.few (omega (arith, low, long)),
      allowed-more graph a.labels c.labels (length a.labels) (length c.labels) a.dived a.dived a.done a.done all.more long (omega arith) (λ j e. e),
    )

    compares : compares_of a.labels i ≤ compares_of c.labels i
    compares = compares-more graph a.labels c.labels all.more i within

    dived : allowed graph c.labels (length c.labels) a.dived c.done ≡ allowed graph c.labels (length c.labels) c.dived c.done
    dived = ap (λ d. allowed graph c.labels (length c.labels) d c.done) (sym all.dived)

    one : allowed graph c.labels (length c.labels) a.dived a.done + (looks_from graph c.labels i + compares_of c.labels i)
        ≤ allowed graph c.labels (length c.labels) a.dived c.done
    one = allowed-done graph c.labels (length c.labels) a.dived a.done c.done i (omega (arith, within, long)) unmarked here all.still

    apart : length c.labels < 2 ^ 32 → i ≢ place → (is_marked a.done place ≡ true) ⊎ (is_marked a.done place ≡ false)
        → c.spent ≤ allowed graph c.labels (length c.labels) c.dived c.done
    apart low differs (inl e) =
        let known : when (not (is_marked a.done place)) (looks_from graph b.labels place) ≡ 0 = ap (λ m. when (not m) (looks_from graph b.labels place)) e in
        omega (arith, spent, spends (omega (arith, low, same)), known, before low, compares, one, dived)
    apart low differs (inr e) =
        let known : when (not (is_marked a.done place)) (looks_from graph b.labels place) ≡ looks_from graph b.labels place
        = ap (λ m. when (not m) (looks_from graph b.labels place)) e in
        omega (
          arith,
          spent,
          spends (omega (arith, low, same)),
          known,
          looks,
          before low,
          compares,
          dived,
          allowed-both graph c.labels (length c.labels) a.dived a.done c.done i place (omega (arith, within, long)) (omega (arith, inside, long)) differs unmarked here e there all.still,
        )

    by : length c.labels < 2 ^ 32 → (i < place) ⊎ (i ≡ place) ⊎ (place < i) → (is_marked a.done place ≡ true) ⊎ (is_marked a.done place ≡ false)
        → c.spent ≤ allowed graph c.labels (length c.labels) c.dived c.done
    by low (inl p) m = apart low (omega arith) m
    by low (inr (inl e)) m =
        let known : when (not (is_marked a.done place)) (looks_from graph b.labels place) ≡ looks_from graph b.labels i
        = ap (λ k. when (not (is_marked a.done k)) (looks_from graph b.labels k)) (sym e) ∙ ap (λ m. when (not m) (looks_from graph b.labels i)) unmarked in
        let also : looks_from graph b.labels i ≡ looks_from graph c.labels i = ap (λ l. looks_from graph l i) (sym labels) in
        omega (arith, spent, spends (omega (arith, low, same)), known, also, before low, compares, one, dived)
    by low (inr (inr p)) m = apart low (omega arith) m

-- a search that may stop there
pub settled-halts : (a b : SearchState) (halt : Halt) → b.ground ≡ a.ground → HasReached b halt
    → (IsPaid a → length b.labels < 2 ^ 32 → b.spent ≤ most_allowed b.ground.graph b.labels) → IsHalted a b halt
settled-halts a b halt ground reached bounded = record { ground = ground; may = λ paid. by halt reached (bounded paid) }
  where
    by : (halt : Halt) → HasReached b halt → (length b.labels < 2 ^ 32 → b.spent ≤ most_allowed b.ground.graph b.labels) → MayHalt b halt
    by NoMemory is few = tt
    by Labels is few = is
    by Steps is few = (is, few)
