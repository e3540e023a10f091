-- The text for the requests of a script, each depending on the requests before it.
use Rattle.std.specs.Prelude.{ℕ, zero, suc, ◌+◌, ◌==◌, Bool, true, false, List, [], ◌∷◌, ◌++◌, length}
use Rattle.std.specs.Prelude.{take, map, Option, None, slice_index_or, codes, if◌then◌else◌}
use Rattle.std.specs.List.{filter_map, last_or, list_any}
use Rattle.std.specs.Result.{result_ok, result_err}
use Rattle.lgm_wire.specs.declared.chain_hash.ChainHash.{ChainHash}
use Rattle.lgm_store.specs.Rows.{Rows}
use Rattle.lgm_store.specs.History.{fold}
use Rattle.lgm_query.specs.declared.filter.Filter.{Filter}
use Rattle.lgm_script.specs.declared.grammar.item.Item.{Item}
use Rattle.lgm_script.specs.declared.grammar.command.Command.{Command}
use Rattle.lgm_script.specs.declared.grammar.command.Command.TheVariants as requests
use Rattle.lgm_script.specs.Lines.{lines_of}
use Rattle.lgm_script.specs.Command.{command_of, item_in}
use Rattle.lgm_script.specs.Text.{word_line}
use Rattle.lgm_answers.specs.declared.filters.PeerFilter.{PeerFilter}
use Rattle.lgm_answers.specs.Outcomes.{outcome_of, history_of}
use Rattle.lgm_answers.specs.Filters.{filters_from}
use Rattle.lgm_query.specs.Requests.{filter_read, query_answer}
use Rattle.lgm_answers.specs.Answer.{outcome_text, query_text, filter_text, commit_text, route_text}
use Rattle.lgm_answers.specs.Routing.{route_answer}

-- what the lines of a script request
abbrev pub commands_of : List ℕ → List Command
commands_of script = map command_of (lines_of script)

-- ---- the effect of requests

-- the items that are offered
abbrev pub items_of : List Command → List Item
items_of asked = filter_map item_in asked

abbrev pub is_commit : Command → Bool
is_commit requests.Commit = true
is_commit _ = false

-- the requests before the last commit, and none if there is none
abbrev pub before_commit : List Command → List Command
before_commit [] = []
before_commit (request ∷ others) = if list_any is_commit others then request ∷ before_commit others else []

-- the filter that a request sets for a peer, if it sets one
abbrev pub filter_given : ChainHash → ℕ → Command → Option Filter
filter_given chain peer (requests.Filter other bytes) =
    if other == peer then result_ok (filter_read chain bytes) else None
filter_given chain peer _ = None

-- the filter of a peer: the last one that was set
abbrev pub filter_of : ChainHash → List Command → ℕ → Option Filter
filter_of chain asked peer = last_or None (filter_map (filter_given chain peer) asked)

-- the filters of the peers, which are numbers below 1,000
unfoldable pub filters_of : ChainHash → List Command → List PeerFilter
filters_of chain asked = filters_from (filter_of chain asked) 0 1000

-- the state on which a request is answered
pub record ScriptState : Type 0 where
  -- the known feature bits of nodes, or none if all are known
  pub known : Option (List ℕ)
  -- the rows of all accepted items
  pub rows : Rows
  -- the rows of those before the last commit
  pub committed : Rows
  -- the number of accepted items
  pub accepted : ℕ
  -- the filters of peers, by ascending peer
  pub filters : List PeerFilter

-- the state after these requests
abbrev pub state_of : ChainHash → Option (List ℕ) → List Command → ScriptState
state_of chain known asked = record {
  known = known;
  rows = fold (history_of chain (items_of asked));
  committed = fold (history_of chain (items_of (before_commit asked)));
  accepted = length (history_of chain (items_of asked));
  filters = filters_of chain asked;
}

-- ---- the text for them

-- the text for a request, for the line with this number
abbrev pub text_for : ChainHash → ℕ → ScriptState → Command → List ℕ
text_for chain number state requests.Quiet = []
text_for chain number state requests.Bad = word_line number (codes "bad")
text_for chain number state (requests.Offer item) =
    outcome_text number (result_err (outcome_of chain state.rows item))
text_for chain number state requests.Commit =
    commit_text number state.accepted state.committed state.rows state.filters
text_for chain number state (requests.Query bytes) =
    query_text number (query_answer chain state.committed bytes)
text_for chain number state (requests.Filter peer bytes) =
    filter_text number peer state.committed (filter_read chain bytes)
text_for chain number state (requests.Route payment) =
    route_text number payment.secret (route_answer state.known state.committed payment)

-- the text for the request at an index, from 0
unfoldable pub text_at : ChainHash → Option (List ℕ) → List Command → ℕ → List ℕ
text_at chain known asked k =
    text_for chain (k + 1) (state_of chain known (take k asked)) (slice_index_or asked k requests.Quiet)

-- the text for the first k requests
unfoldable pub text_before : ChainHash → Option (List ℕ) → List Command → ℕ → List ℕ
text_before chain known asked zero = []
text_before chain known asked (suc k) = text_before chain known asked k ++ text_at chain known asked k
