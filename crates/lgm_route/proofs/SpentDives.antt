-- What dives spend, and why they stop.
use Rattle.std.proofs.Common.{◌≡◌, ◌⊎◌, ℕ, ◌+◌, ◌-◌, ◌*◌, ◌^◌, ◌<◌, ◌≤◌, List, [], length, Bool, true, not, min, refl, sym, ◌∙◌, ap, subst, inl, inr, arith, append-nil}
use Rattle.std.specs.Prelude.{Result, Ok, Err, IfErr}
use Rattle.std.proofs.Math.Nat.{min-le_left}
use Rattle.lgm_graph.specs.Graph.{Graph, edges_into}
use Rattle.lgm_graph.specs.declared.edge.Edge.{Edge}
use Rattle.lgm_route.specs.declared.halt.Halt.{Halt}
use Rattle.lgm_route.specs.declared.label.Label.{Label}
use Rattle.lgm_route.specs.inner.Searching.{label_at, edge_at}
use Rattle.lgm_route.specs.inner.Spending.{HasMore, allowed, compares_of, is_marked, labels_of, looks_from, when}
use Rattle.lgm_route.specs.inner.SearchState.{Ground, SearchState, Adds, IsPaid, IsHalted, HasReached, IsDiveFrom}
use Rattle.lgm_route.proofs.SpendingLaws.{has_more-refl, longer, label-more, looks-more, allowed-more, allowed-passed, allowed-dived}
use Rattle.lgm_route.proofs.SpendingLaws.{allowed-most}
use Rattle.lgm_route.proofs.SpentSearches.{adds-refl, adds-trans, looked-all, look-one, settled-halts}

-- ---- dives

-- a dive that passes no more
pub dives-on : (graph : Graph) (labels after : List Label) (passed dived more spent now here : ℕ) (done done' : List Bool) → HasMore labels after
    → ((i : ℕ) → is_marked done i ≡ true → is_marked done' i ≡ true) → here < length labels → passed ≤ here
    → spent ≤ allowed graph labels passed dived done + more → now ≤ spent + looks_from graph after here
    → now ≤ allowed graph after (here + 1) dived done' + more
dives-on graph labels after passed dived more spent now here done done' grows still within low few next =
    omega (
      arith,
      few,
      next,
      allowed-more graph labels after passed passed dived dived done done' grows (omega arith) (omega arith) still,
      allowed-passed graph after passed dived done' (here + 1) here low (omega arith) (omega (arith, within, longer labels after grows)),
    )

-- two dives from a label
pub dives-pay : (a b c d : SearchState) (i : ℕ) → i < length a.labels → a.dived ≤ i → b ≡ record a { dived = i + 1 } → Adds b c → IsDiveFrom i b c
    → Adds c d → IsDiveFrom i c d → IsPaid a → IsPaid d
dives-pay a b c d i within below is adds dive adds_too dive_too paid = record {
  few = λ low. subst (λ (g : Ground). d.spent ≤ allowed g.graph d.labels (length d.labels) d.dived d.done) (sym ground)
      (omega (arith, second low, looks-more graph c.labels d.labels adds_too.more i (omega (arith, inside, longer b.labels c.labels adds.more)), deeper));
}
  where
    graph : Graph
    graph = a.ground.graph

    ground_b : b.ground ≡ a.ground
    ground_b = ap (λ (s : SearchState). s.ground) is

    ground : d.ground ≡ a.ground
    ground = adds_too.ground ∙ adds.ground ∙ ground_b

    inside : i < length b.labels
    inside = omega (arith, within, ap (λ (s : SearchState). length s.labels) is)

    -- what was spent before, with the dives from labels before this one
    first : length d.labels < 2 ^ 32 → b.spent ≤ allowed graph b.labels (length b.labels) a.dived b.done + 0
    first low = subst (λ (s : SearchState). s.spent ≤ allowed graph s.labels (length s.labels) a.dived s.done + 0) (sym is)
        (omega (arith, paid.few (omega (arith, low, longer c.labels d.labels adds_too.more, longer b.labels c.labels adds.more, ap (λ (s : SearchState). length s.labels) is))))

    once : length d.labels < 2 ^ 32 → c.spent ≤ allowed graph c.labels (length c.labels) a.dived c.done + 0 + looks_from graph c.labels i
    once low = subst (λ (g : Ground). c.spent ≤ allowed g.graph c.labels (length c.labels) a.dived c.done + 0 + looks_from g.graph c.labels i) ground_b
        (dive a.dived 0 (omega (arith, low, longer c.labels d.labels adds_too.more))
        (subst (λ (g : Ground). b.spent ≤ allowed g.graph b.labels (length b.labels) a.dived b.done + 0) (sym ground_b) (first low)))

    ground_c : c.ground ≡ a.ground
    ground_c = adds.ground ∙ ground_b

    second : length d.labels < 2 ^ 32 → d.spent ≤ allowed graph d.labels (length d.labels) a.dived d.done + looks_from graph c.labels i + looks_from graph d.labels i
    second low = subst (λ (g : Ground). d.spent ≤ allowed g.graph d.labels (length d.labels) a.dived d.done + looks_from graph c.labels i + looks_from g.graph d.labels i) ground_c
        (dive_too a.dived (looks_from graph c.labels i) low
        (subst (λ (g : Ground). c.spent ≤ allowed g.graph c.labels (length c.labels) a.dived c.done + looks_from graph c.labels i) (sym ground_c) (omega (arith, once low))))

    dived : d.dived ≡ i + 1
    dived = adds_too.dived ∙ adds.dived ∙ ap (λ (s : SearchState). s.dived) is

    deeper : allowed graph d.labels (length d.labels) a.dived d.done + 2 * looks_from graph d.labels i ≤ allowed graph d.labels (length d.labels) d.dived d.done
    deeper = allowed-dived graph d.labels (length d.labels) a.dived d.done d.dived i below (omega (arith, dived))
        (omega (arith, inside, longer b.labels c.labels adds.more, longer c.labels d.labels adds_too.more))

-- one dive, perhaps in the middle of two
pub dive-pays : (a b c : SearchState) (i : ℕ) → i < length a.labels → a.dived ≤ i → b ≡ record a { dived = i + 1 } → Adds b c → IsDiveFrom i b c
    → IsPaid a → IsPaid c
dive-pays a b c i within below is adds dive paid =
    dives-pay a b c c i within below is adds dive (adds-refl c) (λ dived more low before. omega (arith, before)) paid

-- where a dive is: at the label where it starts, or at one that it added
abbrev pub IsDiving : ℕ → ℕ → SearchState → SearchState → Type 0
IsDiving i here a b =
    (dived more : ℕ) → length b.labels < 2 ^ 32 → a.spent ≤ allowed a.ground.graph a.labels (length a.labels) dived a.done + more
    → ((here ≡ i) × (b.spent ≤ allowed a.ground.graph b.labels (length a.labels) dived b.done + more))
    ⊎ ((length a.labels ≤ here) × (b.spent ≤ allowed a.ground.graph b.labels here dived b.done + more + looks_from a.ground.graph b.labels i))

pub diving-first : (a : SearchState) (i : ℕ) → IsDiving i i a a
diving-first a i dived more low before = inl (refl, before)

-- one more step of it
pub diving-on : (a b c : SearchState) (i here : ℕ) → i < length a.labels → here < length b.labels → Adds a b → Adds b c → IsDiving i here a b
    → (length c.labels < 2 ^ 32 → c.spent ≤ b.spent + looks_from b.ground.graph c.labels here)
    → (dived more : ℕ) → length c.labels < 2 ^ 32 → a.spent ≤ allowed a.ground.graph a.labels (length a.labels) dived a.done + more
    → c.spent ≤ allowed a.ground.graph c.labels (length b.labels) dived c.done + more + looks_from a.ground.graph c.labels i
diving-on a b c i here within inside adds adds_too diving spends dived more low before =
    by (diving dived more (omega (arith, low, longer b.labels c.labels adds_too.more)) before)
  where
    graph : Graph
    graph = a.ground.graph

    all : Adds a c
    all = adds-trans a b c adds adds_too

    next : c.spent ≤ b.spent + looks_from graph c.labels here
    next = subst (λ (g : Ground). c.spent ≤ b.spent + looks_from g.graph c.labels here) adds.ground (spends low)

    by : ((here ≡ i) × (b.spent ≤ allowed graph b.labels (length a.labels) dived b.done + more))
        ⊎ ((length a.labels ≤ here) × (b.spent ≤ allowed graph b.labels here dived b.done + more + looks_from graph b.labels i))
        → c.spent ≤ allowed graph c.labels (length b.labels) dived c.done + more + looks_from graph c.labels i
    by (inl h) =
        let same : looks_from graph c.labels here ≡ looks_from graph c.labels i = ap (looks_from graph c.labels) h.0 in
        omega (
          arith,
          next,
          same,
          h.1,
          allowed-more graph b.labels c.labels (length a.labels) (length b.labels) dived dived b.done c.done adds_too.more (longer a.labels b.labels adds.more) (omega arith) adds_too.still,
        )
    by (inr h) =
        omega (
          arith,
          dives-on graph b.labels c.labels here dived (more + looks_from graph b.labels i) b.spent c.spent here b.done c.done adds_too.more adds_too.still inside (omega arith)
              (omega (arith, h.1)) next,
          looks-more graph b.labels c.labels adds_too.more i (omega (arith, within, longer a.labels b.labels adds.more)),
          allowed-more graph c.labels c.labels (here + 1) (length b.labels) dived dived c.done c.done (has_more-refl c.labels) (omega arith) (omega arith) (λ j e. e),
        )

pub diving-next : (a b c : SearchState) (i here last : ℕ) → last ≡ length b.labels → i < length a.labels → here < length b.labels → Adds a b → Adds b c
    → IsDiving i here a b → (length c.labels < 2 ^ 32 → c.spent ≤ b.spent + looks_from b.ground.graph c.labels here) → IsDiving i last a c
diving-next a b c i here last is within inside adds adds_too diving spends dived more low before =
    subst (λ n. ((n ≡ i) × (c.spent ≤ allowed a.ground.graph c.labels (length a.labels) dived c.done + more))
    ⊎ ((length a.labels ≤ n) × (c.spent ≤ allowed a.ground.graph c.labels n dived c.done + more + looks_from a.ground.graph c.labels i))) (sym is)
    (inr (longer a.labels b.labels adds.more, diving-on a b c i here within inside adds adds_too diving spends dived more low before))

-- its end, after a step
pub diving-ends : (a b c : SearchState) (i here : ℕ) → i < length a.labels → here < length b.labels → Adds a b → Adds b c → IsDiving i here a b
    → (length c.labels < 2 ^ 32 → c.spent ≤ b.spent + looks_from b.ground.graph c.labels here) → IsDiveFrom i a c
diving-ends a b c i here within inside adds adds_too diving spends dived more low before =
    omega (
      arith,
      diving-on a b c i here within inside adds adds_too diving spends dived more low before,
      allowed-more a.ground.graph c.labels c.labels (length b.labels) (length c.labels) dived dived c.done c.done (has_more-refl c.labels)
          (longer b.labels c.labels adds_too.more) (omega arith) (λ j e. e),
    )

-- or before one
pub diving-ended : (a b : SearchState) (i here : ℕ) → here < length b.labels → Adds a b → IsDiving i here a b → IsDiveFrom i a b
diving-ended a b i here inside adds diving dived more low before = by (diving dived more low before)
  where
    by : ((here ≡ i) × (b.spent ≤ allowed a.ground.graph b.labels (length a.labels) dived b.done + more))
        ⊎ ((length a.labels ≤ here) × (b.spent ≤ allowed a.ground.graph b.labels here dived b.done + more + looks_from a.ground.graph b.labels i))
        → b.spent ≤ allowed a.ground.graph b.labels (length b.labels) dived b.done + more + looks_from a.ground.graph b.labels i
    by (inl h) = omega (
      arith,
      h.1,
      allowed-more a.ground.graph b.labels b.labels (length a.labels) (length b.labels) dived dived b.done b.done (has_more-refl b.labels) (longer a.labels b.labels adds.more) (omega arith) (λ j e. e),
    )
    by (inr h) = omega (
      arith,
      h.1,
      allowed-more a.ground.graph b.labels b.labels here (length b.labels) dived dived b.done b.done (has_more-refl b.labels) (omega arith) (omega arith) (λ j e. e),
    )

-- ---- marks

-- marks alone were added
pub adds_marked : (a b : SearchState) → b.ground ≡ a.ground → b.labels ≡ a.labels → ((i : ℕ) → is_marked a.done i ≡ true → is_marked b.done i ≡ true)
    → b.dived ≡ a.dived → Adds a b
adds_marked a b ground labels still dived = record { ground = ground; more = record { more = []; is = labels ∙ sym (append-nil a.labels) }; still = still; dived = dived }

-- what a label takes that is compared and perhaps closed
pub settle-spends : (a s b : SearchState) (i place compared : ℕ) → s ≡ record a { spent = min (a.spent + compared) (2 ^ 64 - 1) }
    → (length a.labels < 2 ^ 32 → compared ≤ compares_of a.labels i) → HasMore a.labels b.labels
    → (length b.labels < 2 ^ 32 → b.spent ≤ s.spent + when (not (is_marked s.done place)) (looks_from s.ground.graph b.labels place))
    → length b.labels < 2 ^ 32
    → b.spent ≤ a.spent + compares_of a.labels i + when (not (is_marked a.done place)) (looks_from a.ground.graph b.labels place)
settle-spends a s b i place compared is few more spends low =
    subst (λ (t : SearchState). (length b.labels < 2 ^ 32 → b.spent ≤ t.spent + when (not (is_marked t.done place)) (looks_from t.ground.graph b.labels place))
    → b.spent ≤ a.spent + compares_of a.labels i + when (not (is_marked a.done place)) (looks_from a.ground.graph b.labels place)) (sym is)
    (λ h. omega (arith, h low, min-le_left (a.spent + compared) (2 ^ 64 - 1), few (omega (arith, low, longer a.labels b.labels more)))) spends

-- what a step of a dive takes that finds no edge
pub dive_spends-none : (a s : SearchState) (here seen : ℕ) (run : List Edge) → s ≡ record a { spent = min (a.spent + seen) (2 ^ 64 - 1) }
    → run ≡ edges_into a.ground.graph (label_at a.labels here).node → seen ≤ length run
    → s.spent ≤ a.spent + looks_from a.ground.graph s.labels here
dive_spends-none a s here seen run is same few =
    subst (λ (t : SearchState). t.spent ≤ a.spent + looks_from a.ground.graph t.labels here) (sym is)
    (omega (arith, few, ap length same, min-le_left (a.spent + seen) (2 ^ 64 - 1), looked-all a.ground.graph a.labels here 0 (omega arith)))

-- and that of one that relaxes over one
pub dive_spends : (a s b : SearchState) (here seen at : ℕ) (run : List Edge) (edge : Edge) → s ≡ record a { spent = min (a.spent + seen) (2 ^ 64 - 1) }
    → run ≡ edges_into a.ground.graph (label_at a.labels here).node → seen ≤ length run → at < length run → edge ≡ edge_at run at
    → here < length a.labels → HasMore s.labels b.labels
    → (length b.labels < 2 ^ 32 → b.spent ≤ s.spent + labels_of b.labels edge.from) → length b.labels < 2 ^ 32
    → b.spent ≤ a.spent + looks_from a.ground.graph b.labels here
dive_spends a s b here seen at run edge is same few within there inside more spends low =
    omega (arith, spends low, taken, from, one, min-le_left (a.spent + seen) (2 ^ 64 - 1))
  where
    grown : HasMore a.labels b.labels
    grown = subst (λ (t : SearchState). HasMore t.labels b.labels) is more

    taken : s.spent ≡ min (a.spent + seen) (2 ^ 64 - 1)
    taken = ap (λ (t : SearchState). t.spent) is

    from : labels_of b.labels edge.from ≡ labels_of b.labels (edge_at run at).from
    from = ap (λ (e : Edge). labels_of b.labels e.from) there

    node : run ≡ edges_into a.ground.graph (label_at b.labels here).node
    node = same ∙ ap (λ (l : Label). edges_into a.ground.graph l.node) (sym (label-more a.labels b.labels here grown inside))

    one : seen + labels_of b.labels (edge_at run at).from ≤ looks_from a.ground.graph b.labels here
    one = subst (λ r. at < length r → seen ≤ length r → seen + labels_of b.labels (edge_at r at).from ≤ looks_from a.ground.graph b.labels here) (sym node)
        (look-one a.ground.graph b.labels here at seen) within few

-- ---- why a call stopped

-- what holds of each halt that is told
pub map_halt : {X : Type 0} (result : Result X Halt) (P Q : Halt → Type 0) → IfErr result P → ((halt : Halt) → P halt → Q halt) → IfErr result Q
map_halt (Ok x) P Q h f = tt
map_halt (Err halt) P Q h f = f halt h

-- a search that is paid may stop
pub dive-halts : (a b : SearchState) (halt : Halt) → b.ground ≡ a.ground → HasReached b halt → (IsPaid a → IsPaid b) → IsHalted a b halt
dive-halts a b halt ground reached pays =
    settled-halts a b halt ground reached (λ paid low. omega (
      arith,
      (pays paid).few low,
      allowed-most b.ground.graph b.labels (length b.labels) b.dived b.done,
    ))
