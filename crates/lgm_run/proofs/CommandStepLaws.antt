-- How the state changes from command to command.
use Rattle.std.proofs.Common.{◌≡◌, ℕ, ◌+◌, ◌<◌, ◌≤◌, Bool, true, false, ◌||◌, cond, eqb, List, [], ◌∷◌, ◌++◌, length}
use Rattle.std.proofs.Common.{Option, Some, None, Result, Ok, Err, refl, sym, ap, ◌∙◌, arith}
use Rattle.std.specs.List.{filter_map, cons_option, last_or, list_any}
use Rattle.std.specs.Result.{result_ok}
use Rattle.std.proofs.lemmas.Bool.{eq-eqb, ne_eqb}
use Rattle.std.proofs.lemmas.List.{append-nil, length_push}
use Rattle.std.proofs.lemmas.List.Elements.{filter_map-append}
use Rattle.std.proofs.lemmas.List.Folds.{list_any-append}
use Rattle.lgm_wire.specs.declared.chain_hash.ChainHash.{ChainHash}
use Rattle.lgm_check.specs.declared.refusal.Refusal.{Refusal}
use Rattle.lgm_store.specs.declared.op.Op.{Op}
use Rattle.lgm_store.specs.Rows.{empty}
use Rattle.lgm_store.specs.History.{fold}
use Rattle.lgm_store.proofs.Histories.{fold_from-push}
use Rattle.lgm_query.specs.declared.filter.Filter.{Filter}
use Rattle.lgm_script.specs.declared.grammar.item.Item.{Item}
use Rattle.lgm_script.specs.declared.grammar.command.Command.{Command}
use Rattle.lgm_script.specs.declared.grammar.command.Command.TheVariants as requests
use Rattle.lgm_script.specs.Command.{item_in, HasLawfulPeer}
use Rattle.lgm_answers.specs.declared.filters.PeerFilter.{PeerFilter}
use Rattle.lgm_query.specs.declared.request.RequestFault.{RequestFault}
use Rattle.lgm_answers.specs.Filters.{filters_with, filters_from}
use Rattle.lgm_query.specs.Requests.{filter_read}
use Rattle.lgm_answers.specs.Outcomes.{outcome_of, with_outcome, outcomes_behind, history_of}
use Rattle.lgm_answers.specs.Script.{items_of, is_commit, before_commit, filter_given, filter_of, filters_of, ScriptState, state_of}
use Rattle.lgm_answers.proofs.Outcomes.{outcome_joins}
use Rattle.lgm_run.specs.inner.Steps.{opening, state_behind, state_after, state_from}
use Rattle.lgm_run.proofs.Tables.{filters_from-agree, no_filters, filters_from-put}

-- ---- the accepted history

-- a history, and what is accepted of further items
abbrev history_behind : ChainHash → List Op → List Item → List Op
history_behind chain history items = history ++ filter_map result_ok (outcomes_behind chain history items)

history_behind-push : (chain : ChainHash) (history : List Op) (items : List Item) (item : Item)
    → history_behind chain history (items ++ item ∷ []) ≡ with_outcome (history_behind chain history items)
    (outcome_of chain (fold (history_behind chain history items)) item)
history_behind-push chain history [] item =
    outcome_joins history (outcome_of chain (fold history) item) [] ∙ append-nil (with_outcome history (outcome_of chain (fold history) item))
    ∙ ap (λ (h : List Op). with_outcome h (outcome_of chain (fold h) item)) (sym (append-nil history))
history_behind-push chain history (i ∷ items) item =
    let first = outcome_of chain (fold history) i in
    let next = with_outcome history first in
    outcome_joins history first (filter_map result_ok (outcomes_behind chain next (items ++ item ∷ [])))
    ∙ history_behind-push chain next items item
    ∙ ap (λ (h : List Op). with_outcome h (outcome_of chain (fold h) item))
    (sym (outcome_joins history first (filter_map result_ok (outcomes_behind chain next items))))

history_of-push : (chain : ChainHash) (items : List Item) (item : Item) → history_of chain (items ++ item
    ∷ []) ≡ with_outcome (history_of chain items) (outcome_of chain (fold (history_of chain items)) item)
history_of-push chain items item = history_behind-push chain [] items item

-- the history after one more request
abbrev history_after : ChainHash → List Op → Command → List Op
history_after chain history (requests.Offer item) = with_outcome history (outcome_of chain (fold history) item)
history_after chain history _ = history

items_of-push : (asked : List Command) (request : Command) → items_of (asked ++ request ∷ []) ≡ items_of asked ++ cons_option (item_in request) []
items_of-push asked request = filter_map-append item_in asked (request ∷ [])

history_asked-push : (chain : ChainHash) (asked : List Command) (request : Command) → history_of chain
    (items_of (asked ++ request ∷ [])) ≡ history_after chain (history_of chain (items_of asked)) request
history_asked-push chain asked request = ap (history_of chain) (items_of-push asked request) ∙ by request
  where
    none : history_of chain (items_of asked ++ []) ≡ history_of chain (items_of asked)
    none = ap (history_of chain) (append-nil (items_of asked))

    by : (r : Command) → history_of chain (items_of asked ++ cons_option (item_in r) []) ≡ history_after chain (history_of chain (items_of asked)) r
    by (requests.Offer item) = history_of-push chain (items_of asked) item
    by _ = none

-- ---- the last commit

-- the requests before the last commit, if one more is a commit or not
abbrev before_commit_and : List Command → Command → List Command
before_commit_and asked request = cond (is_commit request) asked (before_commit asked)

before_commit-push : (asked : List Command) (request : Command) → before_commit (asked ++ request ∷ []) ≡ before_commit_and asked request
before_commit-push [] request = by (is_commit request)
  where
    by : (b : Bool) → [] ≡ cond b [] (before_commit [])
    by true = refl
    by false = refl
before_commit-push (r ∷ rs) request =
    rw (list_any-append is_commit rs (request ∷ []))
    (by (is_commit request) (list_any is_commit rs) (before_commit (rs ++ request ∷ [])) (before_commit-push rs request))
  where
    by : (b any : Bool) (rest : List Command) → rest ≡ cond b rs (before_commit rs)
        → cond (any || (b || false)) (r ∷ rest) [] ≡ cond b (r ∷ rs) (cond any (r ∷ before_commit rs) [])
    by true true rest e = rw e refl
    by true false rest e = rw e refl
    by false true rest e = rw e refl
    by false false rest e = refl

-- ---- filters

last_or-push : {X : Type 0} (o : Option X) (xs : List X) (x : X) → last_or o (xs ++ x ∷ []) ≡ Some x
last_or-push o [] x = refl
last_or-push o (y ∷ ys) x = last_or-push (Some y) ys x

-- the filter of a peer after one more request
abbrev given_or : Option Filter → Option Filter → Option Filter
given_or None old = old
given_or (Some f) old = Some f

filter_of-push : (chain : ChainHash) (asked : List Command) (request : Command) (peer : ℕ) → filter_of chain
    (asked ++ request ∷ []) peer ≡ given_or (filter_given chain peer request) (filter_of chain asked peer)
filter_of-push chain asked request peer =
    ap (last_or None) (filter_map-append (filter_given chain peer) asked (request ∷ [])) ∙ by (filter_given chain peer request)
  where
    by : (given : Option Filter) → last_or None (filter_map (filter_given chain peer) asked
        ++ cons_option given []) ≡ given_or given (filter_of chain asked peer)
    by None = ap (last_or None) (append-nil (filter_map (filter_given chain peer) asked))
    by (Some f) = last_or-push None (filter_map (filter_given chain peer) asked) f

filters_of-is : (chain : ChainHash) (asked : List Command) → filters_of chain asked ≡ filters_from (filter_of chain asked) 0 1000
unfolding filters_of
filters_of-is chain asked = refl

-- the filters after one more request that sets none
filters_kept : (chain : ChainHash) (asked : List Command) (request : Command)
    → ((peer : ℕ) → filter_given chain peer request ≡ None)
    → filters_of chain (asked ++ request ∷ []) ≡ filters_of chain asked
filters_kept chain asked request none =
    filters_of-is chain (asked ++ request ∷ [])
    ∙ filters_from-agree (filter_of chain (asked ++ request ∷ [])) (filter_of chain asked) 0 1000
    (λ peer. filter_of-push chain asked request peer
    ∙ ap (λ (o : Option Filter). given_or o (filter_of chain asked peer)) (none peer))
    ∙ sym (filters_of-is chain asked)

-- the filters after one more request, which sets that of a peer
filters_set : (chain : ChainHash) (asked : List Command) (peer : ℕ) (bytes : List ℕ)
    (read : Result Filter RequestFault) → filter_read chain bytes ≡ read → peer < 1000
    → filters_with (filters_of chain asked) peer read ≡ filters_of chain (asked ++ requests.Filter peer bytes ∷ [])
filters_set chain asked peer bytes (Err fault) is small = sym (filters_kept chain asked (requests.Filter peer bytes) (λ p. by (eqb peer p)))
  where
    by : (b : Bool) → cond b (result_ok (filter_read chain bytes)) None ≡ None
    by true = ap result_ok is
    by false = refl
filters_set chain asked peer bytes (Ok f) is small =
    ap (λ (l : List PeerFilter). filters_with l peer (Ok f)) (filters_of-is chain asked)
    ∙ filters_from-put (filter_of chain asked) (filter_of chain (asked ++ requests.Filter peer bytes ∷ []))
    peer f 0 1000 (omega arith) (omega arith) own others
    ∙ sym (filters_of-is chain (asked ++ requests.Filter peer bytes ∷ []))
  where
    own : filter_of chain (asked ++ requests.Filter peer bytes ∷ []) peer ≡ Some f
    own = filter_of-push chain asked (requests.Filter peer bytes) peer ∙ rw (eq-eqb peer peer refl, is) refl

    others : (p : ℕ) → (p ≡ peer → ⊥) → filter_of chain asked p ≡ filter_of chain (asked ++ requests.Filter peer bytes ∷ []) p
    others p other = sym (filter_of-push chain asked (requests.Filter peer bytes) p ∙ rw (ne_eqb peer p (λ s. other (sym s))) refl)

-- ---- the state

pub opening_is : (chain : ChainHash) (known : Option (List ℕ)) → opening known ≡ state_of chain known []
opening_is chain known =
    ap (λ (fs : List PeerFilter).
    record { known = known; rows = empty; committed = empty; accepted = 0; filters = fs })
    (sym (filters_of-is chain [] ∙ no_filters (filter_of chain []) 0 1000 (λ p. refl)))

-- the state of a history, of which the first operations were committed, and of filters
abbrev state_at : Option (List ℕ) → List Op → List Op → List PeerFilter → ScriptState
state_at known history committed filters =
    record {
      known = known;
      rows = fold history;
      committed = fold committed;
      accepted = length history;
      filters = filters;
    }

state_behind-outcome : (known : Option (List ℕ)) (history committed : List Op) (filters : List PeerFilter) (outcome : Result Op Refusal)
    → state_behind (state_at known history committed filters) outcome ≡ state_at known (with_outcome history outcome) committed filters
state_behind-outcome known history committed filters (Ok op) = rw (fold_from-push empty history op, length_push history op) refl
state_behind-outcome known history committed filters (Err refusal) = refl

-- the filters after one more request
abbrev filters_after : ChainHash → List PeerFilter → Command → List PeerFilter
filters_after chain filters (requests.Filter peer bytes) = filters_with filters peer (filter_read chain bytes)
filters_after chain filters _ = filters

filters_of-push : (chain : ChainHash) (asked : List Command) (request : Command) → HasLawfulPeer request
    → filters_after chain (filters_of chain asked) request ≡ filters_of chain (asked ++ request ∷ [])
filters_of-push chain asked (requests.Filter peer bytes) small = filters_set chain asked peer bytes (filter_read chain bytes) refl small
filters_of-push chain asked request small = sym (filters_kept chain asked request (λ p. refl))

by_request : (chain : ChainHash) (known : Option (List ℕ)) (asked : List Command) (request : Command)
    → state_after chain (state_of chain known asked) request
    ≡ state_at known (history_after chain (history_of chain (items_of asked)) request) (history_of chain
    (items_of (before_commit_and asked request))) (filters_after chain (filters_of chain asked) request)
by_request chain known asked (requests.Offer item) =
    state_behind-outcome known (history_of chain (items_of asked))
    (history_of chain (items_of (before_commit asked))) (filters_of chain asked)
    (outcome_of chain (fold (history_of chain (items_of asked))) item)
by_request chain known asked _ = refl

-- the state after one more request
pub state_after-request : (chain : ChainHash) (known : Option (List ℕ)) (asked : List Command)
    (request : Command) → HasLawfulPeer request
    → state_after chain (state_of chain known asked) request ≡ state_of chain known (asked ++ request ∷ [])
state_after-request chain known asked request small =
    by_request chain known asked request
    ∙ rw (← history_asked-push chain asked request, ← before_commit-push asked request, filters_of-push chain asked request small) refl

state_behind-le : (state : ScriptState) (outcome : Result Op Refusal) → (state_behind state outcome).accepted ≤ state.accepted + 1
state_behind-le state (Ok op) = omega arith
state_behind-le state (Err refusal) = omega arith

-- a request has one item at most
pub accepted-le : (chain : ChainHash) (state : ScriptState) (request : Command) → (state_after chain state request).accepted ≤ state.accepted + 1
accepted-le chain state (requests.Offer item) = state_behind-le state (outcome_of chain state.rows item)
accepted-le chain state _ = omega arith

-- and this many requests at most this many items
pub accepted_from-le : (chain : ChainHash) (state : ScriptState) (asked : List Command)
    → (state_from chain state asked).accepted ≤ state.accepted + length asked
accepted_from-le chain state [] = omega arith
accepted_from-le chain state (request ∷ asked) =
    omega
    (arith, accepted_from-le chain (state_after chain state request) asked, accepted-le chain state request)
