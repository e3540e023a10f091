-- A table of filters by their peers, with the filter of one peer set.
use Rattle.std.proofs.Common.{◌≡◌, ℕ, zero, suc, ◌+◌, ◌<◌, ◌≤◌, Bool, true, false, List, [], ◌∷◌, Option, Some, None, refl, sym, ap, ◌∙◌, eqb, arith}
use Rattle.std.specs.Prelude.{filter}
use Rattle.std.specs.Ordering.{is_lt, is_gt}
use Rattle.std.proofs.lemmas.Bool.{lt-ltb, le-ltb, eq-eqb, ne_eqb, eqb-true, eqb-false}
use Rattle.lgm_store.specs.Rows.{put}
use Rattle.lgm_query.specs.declared.filter.Filter.{Filter}
use Rattle.lgm_answers.specs.declared.filters.PeerFilter.{PeerFilter}
use Rattle.lgm_answers.specs.Filters.{by_peer, filters_from}

abbrev with_peer : ℕ → Filter → PeerFilter
with_peer peer f = record { peer = peer; filter = f }

-- the filters of greater peers
later_lesser : (g : ℕ → Option Filter) (own : PeerFilter) (first count : ℕ) → own.peer < first
    → filter (λ other. is_lt (by_peer other own)) (filters_from g first count) ≡ []
later_lesser g own first zero above = refl
later_lesser g own first (suc n) above = by (later_lesser g own (first + 1) n (omega arith)) (g first) refl
  where
    by : filter (λ other. is_lt (by_peer other own)) (filters_from g (first + 1) n) ≡ [] → (o : Option Filter)
        → g first ≡ o → filter (λ other. is_lt (by_peer other own)) (filters_from g first (suc n)) ≡ []
    by rest None e = rw e rest
    by rest (Some f) e = rw (e, le-ltb first own.peer (omega arith), ne_eqb first own.peer (λ s. omega arith)) rest

later_greater : (g : ℕ → Option Filter) (own : PeerFilter) (first count : ℕ) → own.peer < first
    → filter (λ other. is_gt (by_peer other own)) (filters_from g first count) ≡ filters_from g first count
later_greater g own first zero above = refl
later_greater g own first (suc n) above = by (later_greater g own (first + 1) n (omega arith)) (g first) refl
  where
    by : filter (λ other. is_gt (by_peer other own)) (filters_from g (first + 1) n) ≡ filters_from g (first + 1) n → (o : Option Filter) → g first ≡ o
        → filter (λ other. is_gt (by_peer other own)) (filters_from g first (suc n)) ≡ filters_from g first (suc n)
    by rest None e = rw e rest
    by rest (Some f) e =
        rw (e, le-ltb first own.peer (omega arith), ne_eqb first own.peer (λ s. omega arith))
        (ap (λ (l : List PeerFilter). with_peer first f ∷ l) rest)

-- tables that agree
filters_from-same : (g h : ℕ → Option Filter) (first count : ℕ) → ((p : ℕ) → first ≤ p → g p ≡ h p)
    → filters_from g first count ≡ filters_from h first count
filters_from-same g h first zero same = refl
filters_from-same g h first (suc n) same = rw (same first (omega arith), filters_from-same g h (first + 1) n (λ p le. same p (omega arith))) refl

pub filters_from-agree : (g h : ℕ → Option Filter) (first count : ℕ) → ((p : ℕ) → g p ≡ h p) → filters_from g first count ≡ filters_from h first count
filters_from-agree g h first count same = filters_from-same g h first count (λ p le. same p)

-- if no peer has a filter, the table is empty
pub no_filters : (g : ℕ → Option Filter) (first count : ℕ) → ((p : ℕ) → g p ≡ None) → filters_from g first count ≡ []
no_filters g first zero none = refl
no_filters g first (suc n) none = rw (none first) (no_filters g (first + 1) n none)

-- the filter of a peer, added to the table of the others
pub filters_from-put : (g h : ℕ → Option Filter) (peer : ℕ) (f : Filter) (first count : ℕ) → first ≤ peer → peer < first + count → h peer ≡ Some f
    → ((p : ℕ) → (p ≡ peer → ⊥) → g p ≡ h p) → put by_peer (filters_from g first count) (with_peer peer f) ≡ filters_from h first count
filters_from-put g h peer f first zero low high own others = absurd (omega arith)
filters_from-put g h peer f first (suc n) low high own others =
    by (eqb first peer) refl (λ other. filters_from-put g h peer f (first + 1) n (omega arith) (omega arith) own others)
  where
    rest_here : first ≡ peer → put by_peer (filters_from g (first + 1) n) (with_peer peer f) ≡ with_peer peer f ∷ filters_from h (first + 1) n
    rest_here here =
        rw (later_lesser g (with_peer peer f) (first + 1) n (omega arith), later_greater g (with_peer peer f) (first + 1) n (omega arith))
        (ap (λ (l : List PeerFilter). with_peer peer f ∷ l) (filters_from-same g h (first + 1) n (λ p le. others p (λ s. omega arith))))

    here : first ≡ peer → (o : Option Filter) → g first ≡ o
        → put by_peer (filters_from g first (suc n)) (with_peer peer f) ≡ filters_from h first (suc n)
    here is None e = rw (e, ap h is ∙ own) (rest_here is ∙ ap (λ (p : ℕ). with_peer p f ∷ filters_from h (first + 1) n) (sym is))
    here is (Some other) e =
        rw (e, ap h is ∙ own, le-ltb first peer (omega arith), eq-eqb first peer is)
        (rest_here is ∙ ap (λ (p : ℕ). with_peer p f ∷ filters_from h (first + 1) n) (sym is))

    behind : (first ≡ peer → ⊥) → put by_peer (filters_from g (first + 1) n) (with_peer peer f)
        ≡ filters_from h (first + 1) n → (o : Option Filter) → g first ≡ o
        → put by_peer (filters_from g first (suc n)) (with_peer peer f) ≡ filters_from h first (suc n)
    behind other rest None e = rw (e, sym (others first other) ∙ e) rest
    behind other rest (Some x) e =
        rw (e, sym (others first other) ∙ e, lt-ltb first peer (omega arith)) (ap (λ (l : List PeerFilter). with_peer first x ∷ l) rest)

    by : (b : Bool) → eqb first peer ≡ b
        → ((first ≡ peer → ⊥) → put by_peer (filters_from g (first + 1) n) (with_peer peer f) ≡ filters_from h (first + 1) n)
        → put by_peer (filters_from g first (suc n)) (with_peer peer f) ≡ filters_from h first (suc n)
    by true e rest = here (eqb-true first peer e) (g first) refl
    by false e rest = let other = eqb-false first peer e in behind other (rest other) (g first) refl
