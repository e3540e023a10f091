-- What the steps of a search are spent on.
use Rattle.std.proofs.Common.{◌≡◌, ◌≢◌, ◌⊎◌, ℕ, zero, suc, ◌+◌, ◌-◌, ◌*◌, ◌^◌, ◌<◌, ◌≤◌, List, [], ◌∷◌, ◌++◌, length, get_or}
use Rattle.std.proofs.Common.{Bool, true, false, cond, if◌then◌else◌, refl, sym, ◌∙◌, ap, subst, inl, inr, arith, append-nil, add-one}
use Rattle.std.specs.Prelude.{◌==◌, nat_lt}
use Rattle.std.proofs.lemmas.Bool.{cases_Bool, eqb-true, eq-eqb, ltb-true, lt-ltb}
use Rattle.std.proofs.lemmas.List.{length-append, append_assoc}
use Rattle.lgm_graph.specs.Graph.{Graph, edges_into}
use Rattle.lgm_graph.specs.declared.edge.Edge.{Edge}
use Rattle.lgm_route.specs.declared.label.Label.{Label}
use Rattle.lgm_route.specs.inner.Searching.{label_at, edge_at}
use Rattle.lgm_route.specs.inner.Fronts.{next_in, IsBelow}
use Rattle.lgm_route.specs.inner.Spending.{total, when, first_labels_of, labels_of, look_over, looks_from, compares_of, charge, is_marked}
use Rattle.lgm_route.specs.inner.Spending.{allowed, most_allowed, HasMore}
use Rattle.lgm_route.proofs.Rests.{trichotomy}
use Rattle.lgm_route.proofs.Labels.{label_left}

-- ---- sums

-- each of them is no more
pub total-le : (f g : ℕ → ℕ) (n : ℕ) → ((i : ℕ) → i < n → f i ≤ g i) → total f n ≤ total g n
total-le f g zero each = omega arith
total-le f g (suc n) each = omega (arith, total-le f g n (λ i within. each i (omega arith)), each n (omega arith))

pub total-longer : (f : ℕ → ℕ) (n m : ℕ) → n ≤ m → total f n ≤ total f m
total-longer f n zero few = let e : 0 ≡ n = omega arith in subst (λ k. total f k ≤ 0) e (omega arith)
total-longer f n (suc m) few = by (λ low. total-longer f n m low) (trichotomy n (suc m))
  where
    by : (n ≤ m → total f n ≤ total f m) → (n < suc m) ⊎ (n ≡ suc m) ⊎ (suc m < n) → total f n ≤ total f m + f m
    by before (inl p) = omega (arith, before (omega arith))
    by before (inr (inl e)) = subst (λ k. total f k ≤ total f m + f m) (sym e) (omega arith)
    by before (inr (inr p)) = absurd (omega arith)

-- one more
pub total-next : (f : ℕ → ℕ) (n m : ℕ) → n < m → total f n + f n ≤ total f m
total-next f n m few = total-longer f (suc n) m (omega arith)

-- one of the numbers leaves room
pub total-room : (f g : ℕ → ℕ) (n k more : ℕ) → k < n → ((i : ℕ) → i < n → f i ≤ g i) → f k + more ≤ g k
    → total f n + more ≤ total g n
total-room f g zero k more within each room = absurd (omega arith)
total-room f g (suc n) k more within each room =
    by (λ p. total-room f g n k more p (λ i low. each i (omega arith)) room) (each n (omega arith)) (trichotomy k n)
  where
    by : (k < n → total f n + more ≤ total g n) → f n ≤ g n → (k < n) ⊎ (k ≡ n) ⊎ (n < k) → total f n + f n + more ≤ total g n + g n
    by before last (inl p) = omega (arith, before p, last)
    by before last (inr (inl e)) =
        let here : f n + more ≤ g n = subst (λ i. f i + more ≤ g i) e room in
        omega (arith, total-le f g n (λ i low. each i (omega arith)), here)
    by before last (inr (inr p)) = absurd (omega arith)

-- two of them do
pub total-rooms : (f g : ℕ → ℕ) (n k m more also : ℕ) → k < n → m < n → k ≢ m → ((i : ℕ) → i < n → f i ≤ g i) → f k + more ≤ g k
    → f m + also ≤ g m → total f n + more + also ≤ total g n
total-rooms f g n k m more also within inside apart each room also_room =
    omega (arith, total-room f h n k more within (λ i low. raised i (cases_Bool (i == k))) own, total-room h g n m also inside (λ i low. below i low (cases_Bool (i == k))) other)
  where
    h : ℕ → ℕ
    h i = if i == k then f i + more else f i

    raised : (i : ℕ) → (i == k ≡ true) ⊎ (i == k ≡ false) → f i ≤ h i
    raised i (inl e) = rw e (omega arith)
    raised i (inr e) = rw e (omega arith)

    own : f k + more ≤ h k
    own = rw (eq-eqb k k refl) (omega arith)

    below : (i : ℕ) → i < n → (i == k ≡ true) ⊎ (i == k ≡ false) → h i ≤ g i
    below i low (inl e) = rw e (let same : k ≡ i = sym (eqb-true i k e) in subst (λ j. f j + more ≤ g j) same room)
    below i low (inr e) = rw e (each i low)

    unlike : (m == k ≡ true) ⊎ (m == k ≡ false) → h m + also ≤ g m
    unlike (inl e) = absurd (apart (sym (eqb-true m k e)))
    unlike (inr e) = rw e also_room

    other : h m + also ≤ g m
    other = unlike (cases_Bool (m == k))

-- ---- labels of a node

pub first_few : (labels : List Label) (node n : ℕ) → n ≤ length labels → first_labels_of labels node n ≤ labels_of labels node
unfolding labels_of
first_few labels node n few = total-longer (λ i. when ((label_at labels i).node == node) 1) n (length labels) few

-- one that is compared
one_more : (labels : List Label) (node place : ℕ) → (label_at labels place).node ≡ node
    → first_labels_of labels node (place + 1) ≡ first_labels_of labels node place + 1
one_more labels node place at =
    ap (first_labels_of labels node) (add-one place)
    ∙ ap (λ b. first_labels_of labels node place + when b 1) (eq-eqb (label_at labels place).node node at)

pub counted_once : (labels : List Label) (node step place : ℕ) → (label_at labels place).node ≡ node
    → step + first_labels_of labels node (place + 1) ≤ labels_of labels node → step + 1 ≤ labels_of labels node
counted_once labels node step place at few =
    let known : first_labels_of labels node (place + 1) ≡ first_labels_of labels node place + 1 = one_more labels node place at in
    omega (arith, few, known)

-- and the one behind it
pub counted_next : (labels : List Label) (node step place next : ℕ) {behind : ℕ} → length labels < 2 ^ 32 → next < length labels
    → IsBelow behind place → next ≡ behind → (label_at labels place).node ≡ node
    → step + first_labels_of labels node (place + 1) ≤ labels_of labels node
    → step + 1 + first_labels_of labels node (next + 1) ≤ labels_of labels node
counted_next labels node step place next {behind} low within (inl p) same at few =
    let known : first_labels_of labels node (place + 1) ≡ first_labels_of labels node place + 1 = one_more labels node place at in
    omega (arith, few, known, total-longer (λ i. when ((label_at labels i).node == node) 1) (next + 1) place (omega (arith, p, same)))
counted_next labels node step place next {behind} low within (inr e) same at few = absurd (omega (arith, low, within, e, same))

-- ---- more labels

same_when : (a b : Bool) (n : ℕ) → a ≡ b → when a n ≡ when b n
same_when a b n e = ap (λ x. when x n) e

pub labels_of-more : (labels after : List Label) (node : ℕ) → HasMore labels after → labels_of labels node ≤ labels_of after node
unfolding labels_of
labels_of-more labels after node more =
    subst (λ l. total (λ i. when ((label_at labels i).node == node) 1) (length labels) ≤ total (λ i. when ((label_at l i).node == node) 1) (length l)) (sym more.is) long
  where
    all : List Label
    all = labels ++ more.more

    same : total (λ i. when ((label_at labels i).node == node) 1) (length labels) ≤ total (λ i. when ((label_at all i).node == node) 1) (length labels)
    same = total-le (λ i. when ((label_at labels i).node == node) 1) (λ i. when ((label_at all i).node == node) 1) (length labels)
        (λ i within. let e : when ((label_at all i).node == node) 1 ≡ when ((label_at labels i).node == node) 1 = ap (λ (l : Label). when (l.node == node) 1) (label_left labels more.more i within) in omega (arith, e))

    long : total (λ i. when ((label_at labels i).node == node) 1) (length labels) ≤ total (λ i. when ((label_at all i).node == node) 1) (length all)
    long = omega (arith, same, total-longer (λ i. when ((label_at all i).node == node) 1) (length labels) (length all) (omega (arith, length-append labels more.more)))

pub has_more-refl : (labels : List Label) → HasMore labels labels
has_more-refl labels = record { more = []; is = sym (append-nil labels) }

pub has_more-trans : (a b c : List Label) → HasMore a b → HasMore b c → HasMore a c
has_more-trans a b c h k = record {
  more = h.more ++ k.more;
  is = k.is ∙ ap (λ l. l ++ k.more) h.is ∙ append_assoc a h.more k.more;
}

pub longer : (labels after : List Label) → HasMore labels after → length labels ≤ length after
longer labels after more = omega (arith, ap length more.is, length-append labels more.more)

-- a label stays
pub label-more : (labels after : List Label) (i : ℕ) → HasMore labels after → i < length labels → label_at after i ≡ label_at labels i
label-more labels after i more within = ap (λ l. label_at l i) more.is ∙ label_left labels more.more i within

module _ (graph : Graph) (labels after : List Label) (more : HasMore labels after) where
  pub compares-more : (i : ℕ) → i < length labels → compares_of labels i ≤ compares_of after i
  compares-more i within =
      let e : labels_of after (label_at labels i).node ≡ compares_of after i = ap (λ (l : Label). labels_of after l.node) (sym (label-more labels after i more within)) in
      omega (arith, labels_of-more labels after (label_at labels i).node more, e)

  pub looks-more : (i : ℕ) → i < length labels → looks_from graph labels i ≤ looks_from graph after i
  unfolding looks_from
  looks-more i within =
      subst (λ (l : Label). looks_from graph labels i ≤ total (λ j. look_over after (edge_at (edges_into graph l.node) j)) (length (edges_into graph l.node)))
      (sym (label-more labels after i more within))
      (total-le (λ j. look_over labels (edge_at (edges_into graph (label_at labels i).node) j)) (λ j. look_over after (edge_at (edges_into graph (label_at labels i).node) j))
      (length (edges_into graph (label_at labels i).node))
      (λ j low. omega (arith, labels_of-more labels after (edge_at (edges_into graph (label_at labels i).node) j).from more)))

-- a number that isn't below another
not_lt : (i n : ℕ) → n ≤ i → nat_lt i n ≡ false
not_lt i n above = by (cases_Bool (nat_lt i n))
  where
    by : (nat_lt i n ≡ true) ⊎ (nat_lt i n ≡ false) → nat_lt i n ≡ false
    by (inl e) = let h : i < n = ltb-true i n e in absurd (omega arith)
    by (inr e) = e

-- what holds of one holds of the other
abbrev pub Implies : Bool → Bool → Type 0
Implies a b = a ≡ true → b ≡ true

when-le : (a b : Bool) (n m : ℕ) → Implies a b → n ≤ m → when a n ≤ when b m
when-le false b n m h few = omega arith
when-le true b n m h few = rw (h refl) few

when-most : (a : Bool) (n : ℕ) → when a n ≤ n
when-most true n = omega arith
when-most false n = omega arith

lower : (i n m : ℕ) → n ≤ m → Implies (nat_lt i n) (nat_lt i m)
lower i n m few low = let h : i < n = ltb-true i n low in lt-ltb i m (omega arith)

-- ---- what may be spent

module _ (graph : Graph) (labels after : List Label) (more : HasMore labels after) (passed passed' dived dived' : ℕ) (done done' : ℕ → Bool)
    (further : passed ≤ passed') (deeper : dived ≤ dived') where
  charge-more : (i : ℕ) → i < length labels → Implies (done i) (done' i)
      → charge graph labels passed dived done i ≤ charge graph after passed' dived' done' i
  charge-more i within still =
      omega (
        arith,
        when-le (nat_lt i passed) (nat_lt i passed') (looks_from graph labels i) (looks_from graph after i) (lower i passed passed' further) (looks-more graph labels after more i within),
        when-le (nat_lt i dived) (nat_lt i dived') (2 * looks_from graph labels i) (2 * looks_from graph after i) (lower i dived dived' deeper) (omega (arith, looks-more graph labels after more i within)),
        when-le (done i) (done' i) (looks_from graph labels i + compares_of labels i) (looks_from graph after i + compares_of after i) still
            (omega (arith, looks-more graph labels after more i within, compares-more graph labels after more i within)),
      )

  -- up to the labels that there were
  charges-more : ((i : ℕ) → Implies (done i) (done' i)) → total (charge graph labels passed dived done) (length labels)
      ≤ total (charge graph after passed' dived' done') (length after)
  charges-more still =
      omega (
        arith,
        total-le (charge graph labels passed dived done) (charge graph after passed' dived' done') (length labels) (λ i within. charge-more i within (still i)),
        total-longer (charge graph after passed' dived' done') (length labels) (length after) (longer labels after more),
      )

-- more may be spent on more labels, of which more were dived from, and are settled
pub allowed-more : (graph : Graph) (labels after : List Label) (passed passed' dived dived' : ℕ) (done done' : List Bool) → HasMore labels after
    → passed ≤ passed' → dived ≤ dived' → ((i : ℕ) → Implies (is_marked done i) (is_marked done' i))
    → allowed graph labels passed dived done ≤ allowed graph after passed' dived' done'
unfolding allowed
allowed-more graph labels after passed passed' dived dived' done done' more further deeper still =
    charges-more graph labels after more passed passed' dived dived' (is_marked done) (is_marked done') further deeper still

module _ (graph : Graph) (labels : List Label) (passed dived : ℕ) (done : List Bool) where
  own : HasMore labels labels
  own = has_more-refl labels

  -- a dive passes one more
  pub allowed-passed : (passed' i : ℕ) → passed ≤ i → i < passed' → i < length labels
      → allowed graph labels passed dived done + looks_from graph labels i ≤ allowed graph labels passed' dived done
  unfolding allowed
  allowed-passed passed' i above below within =
      total-room (charge graph labels passed dived (is_marked done)) (charge graph labels passed' dived (is_marked done)) (length labels) i (looks_from graph labels i) within
      (λ j low. charge-more graph labels labels own passed passed' dived dived (is_marked done) (is_marked done) (omega arith) (omega arith) j low (λ e. e))
      (rw (not_lt i passed above, lt-ltb i passed' below) (omega arith))

  -- two dives start at one more
  pub allowed-dived : (dived' i : ℕ) → dived ≤ i → i < dived' → i < length labels
      → allowed graph labels passed dived done + 2 * looks_from graph labels i ≤ allowed graph labels passed dived' done
  unfolding allowed
  allowed-dived dived' i above below within =
      total-room (charge graph labels passed dived (is_marked done)) (charge graph labels passed dived' (is_marked done)) (length labels) i (2 * looks_from graph labels i) within
      (λ j low. charge-more graph labels labels own passed passed dived dived' (is_marked done) (is_marked done) (omega arith) (omega arith) j low (λ e. e))
      (rw (not_lt i dived above, lt-ltb i dived' below) (omega arith))

  -- one more is settled
  pub allowed-done : (done' : List Bool) (i : ℕ) → i < length labels → is_marked done i ≡ false → is_marked done' i ≡ true
      → ((j : ℕ) → Implies (is_marked done j) (is_marked done' j))
      → allowed graph labels passed dived done + (looks_from graph labels i + compares_of labels i) ≤ allowed graph labels passed dived done'
  unfolding allowed
  allowed-done done' i within unset closed still =
      total-room (charge graph labels passed dived (is_marked done)) (charge graph labels passed dived (is_marked done')) (length labels) i (looks_from graph labels i + compares_of labels i) within
      (λ j low. charge-more graph labels labels own passed passed dived dived (is_marked done) (is_marked done') (omega arith) (omega arith) j low (still j))
      (rw (unset, closed) (omega arith))

  -- two more are
  pub allowed-both : (done' : List Bool) (i place : ℕ) → i < length labels → place < length labels → i ≢ place
      → is_marked done i ≡ false → is_marked done' i ≡ true → is_marked done place ≡ false → is_marked done' place ≡ true
      → ((j : ℕ) → Implies (is_marked done j) (is_marked done' j))
      → allowed graph labels passed dived done + compares_of labels i + looks_from graph labels place ≤ allowed graph labels passed dived done'
  unfolding allowed
  allowed-both done' i place within inside apart unset closed also_unset closed_too still =
      total-rooms (charge graph labels passed dived (is_marked done)) (charge graph labels passed dived (is_marked done')) (length labels) i place
      (compares_of labels i) (looks_from graph labels place) within inside apart
      (λ j low. charge-more graph labels labels own passed passed dived dived (is_marked done) (is_marked done') (omega arith) (omega arith) j low (still j))
      (rw (unset, closed) (omega arith)) (rw (also_unset, closed_too) (omega arith))

  at_most : (i : ℕ) → charge graph labels passed dived (is_marked done) i ≤ 4 * looks_from graph labels i + compares_of labels i
  at_most i =
      omega (
        arith,
        when-most (nat_lt i passed) (looks_from graph labels i),
        when-most (nat_lt i dived) (2 * looks_from graph labels i),
        when-most (is_marked done i) (looks_from graph labels i + compares_of labels i),
      )

  -- that is no more than may be spent at all
  pub allowed-most : allowed graph labels passed dived done ≤ most_allowed graph labels
  unfolding allowed most_allowed
  allowed-most = total-le (charge graph labels passed dived (is_marked done)) (λ i. 4 * looks_from graph labels i + compares_of labels i) (length labels) (λ i within. at_most i)

  unsettled : (i : ℕ) → is_marked done i ≡ false
      → charge graph labels passed dived (is_marked done) i + (looks_from graph labels i + compares_of labels i) ≤ 4 * looks_from graph labels i + compares_of labels i
  unsettled i unset =
      rw unset (omega (arith, when-most (nat_lt i passed) (looks_from graph labels i), when-most (nat_lt i dived) (2 * looks_from graph labels i)))

  -- nor with what a label takes that isn't settled
  pub allowed-open : (i : ℕ) → i < length labels → is_marked done i ≡ false
      → allowed graph labels passed dived done + (looks_from graph labels i + compares_of labels i) ≤ most_allowed graph labels
  unfolding allowed most_allowed
  allowed-open i within unset =
      total-room (charge graph labels passed dived (is_marked done)) (λ k. 4 * looks_from graph labels k + compares_of labels k) (length labels) i
      (looks_from graph labels i + compares_of labels i) within (λ j low. at_most j) (unsettled i unset)

  -- nor with two of them
  pub allowed-open_both : (i place : ℕ) → i < length labels → place < length labels → i ≢ place
      → is_marked done i ≡ false → is_marked done place ≡ false
      → allowed graph labels passed dived done + compares_of labels i + looks_from graph labels place ≤ most_allowed graph labels
  unfolding allowed most_allowed
  allowed-open_both i place within inside apart unset also_unset =
      total-rooms (charge graph labels passed dived (is_marked done)) (λ k. 4 * looks_from graph labels k + compares_of labels k) (length labels) i place
      (compares_of labels i) (looks_from graph labels place) within inside apart (λ j low. at_most j)
      (omega (arith, unsettled i unset)) (omega (arith, unsettled place also_unset))
