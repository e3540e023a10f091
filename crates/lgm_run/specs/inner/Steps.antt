-- The same state, request by request, as the engine maintains it.
use Rattle.std.specs.Prelude.{ℕ, ◌+◌, List, [], Option, Result, Ok, Err, codes}
use Rattle.lgm_wire.specs.declared.chain_hash.ChainHash.{ChainHash}
use Rattle.lgm_check.specs.declared.refusal.Refusal.{Refusal}
use Rattle.lgm_store.specs.declared.op.Op.{Op}
use Rattle.lgm_store.specs.Rows.{empty}
use Rattle.lgm_store.specs.History.{absorbed}
use Rattle.lgm_query.specs.declared.filter.Filter.{Filter}
use Rattle.lgm_script.specs.declared.grammar.command.Command.{Command}
use Rattle.lgm_script.specs.declared.grammar.command.Command.TheVariants as requests
use Rattle.lgm_query.specs.declared.request.RequestFault.{RequestFault}
use Rattle.lgm_script.specs.Text.{word_line}
use Rattle.lgm_answers.specs.Answer.{commit_text}
use Rattle.lgm_answers.specs.Filters.{filters_with}
use Rattle.lgm_query.specs.Requests.{filter_read}
use Rattle.lgm_answers.specs.Outcomes.{outcome_of}
use Rattle.lgm_answers.specs.Script.{ScriptState, text_for}
use Rattle.lgm_run.specs.inner.Turns.{behind_all, texts_of}

-- no item was accepted, and no filter set
abbrev pub opening : Option (List ℕ) → ScriptState
opening known = record { known = known; rows = empty; committed = empty; accepted = 0; filters = [] }

-- after an item that was accepted or refused
abbrev pub state_behind : ScriptState → Result Op Refusal → ScriptState
state_behind state (Ok op) = record state { rows = absorbed state.rows op; accepted = state.accepted + 1 }
state_behind state (Err refusal) = state

-- after a commit
abbrev pub state_committed : ScriptState → ScriptState
state_committed state = record state { committed = state.rows }

-- after a filter of a peer
abbrev pub with_filter : ScriptState → ℕ → Result Filter RequestFault → ScriptState
with_filter state peer filter = record state { filters = filters_with state.filters peer filter }

abbrev pub state_after : ChainHash → ScriptState → Command → ScriptState
state_after chain state requests.Commit = state_committed state
state_after chain state (requests.Offer item) = state_behind state (outcome_of chain state.rows item)
state_after chain state (requests.Filter peer bytes) = with_filter state peer (filter_read chain bytes)
state_after chain state _ = state

-- ---- a request that is neither an item nor a question

abbrev pub state_alone : ScriptState → Command → ScriptState
state_alone state requests.Commit = state_committed state
state_alone state _ = state

abbrev pub text_alone : ℕ → ScriptState → Command → List ℕ
text_alone number state requests.Quiet = []
text_alone number state requests.Commit =
    commit_text number state.accepted state.committed state.rows state.filters
text_alone number state _ = word_line number (codes "bad")

-- ---- several requests

abbrev pub state_from : ChainHash → ScriptState → List Command → ScriptState
state_from chain = behind_all (state_after chain)

-- their text, for the lines from this number on
abbrev pub text_from : ChainHash → ℕ → ScriptState → List Command → List ℕ
text_from chain = texts_of (state_after chain) (text_for chain)
