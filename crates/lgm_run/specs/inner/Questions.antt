-- Questions: they are answered on the committed rows, and change only the filters of peers.
use Rattle.std.specs.Prelude.{◌≡◌, ℕ, List, Option, Some, None, codes}
use Rattle.lgm_wire.specs.declared.chain_hash.ChainHash.{ChainHash}
use Rattle.lgm_store.specs.Rows.{Rows}
use Rattle.lgm_graph.specs.Graph.{Graph}
use Rattle.lgm_script.specs.declared.grammar.command.Command.{Command}
use Rattle.lgm_script.specs.declared.grammar.command.Command.TheVariants as requests
use Rattle.lgm_script.specs.Groups.{IsNoRoute}
use Rattle.lgm_script.specs.Text.{word_line}
use Rattle.lgm_answers.specs.declared.answer.Answer.{Answer}
use Rattle.lgm_answers.specs.declared.filters.PeerFilter.{PeerFilter}
use Rattle.lgm_answers.specs.Answer.{answer_text, query_text, filter_text, route_text}
use Rattle.lgm_query.specs.Requests.{filter_read, query_answer}
use Rattle.lgm_answers.specs.Filters.{filters_with}
use Rattle.lgm_answers.specs.Setting.{filters_by}
use Rattle.lgm_answers.specs.Routing.{route_answer}
use Rattle.lgm_run.specs.inner.Turns.{behind_all, texts_of}

-- the text for a question, from the committed rows alone
abbrev pub question_text : ChainHash → Option (List ℕ) → Rows → ℕ → Command → List ℕ
question_text chain known committed number (requests.Query bytes) =
    query_text number (query_answer chain committed bytes)
question_text chain known committed number (requests.Filter peer bytes) =
    filter_text number peer committed (filter_read chain bytes)
question_text chain known committed number (requests.Route payment) =
    route_text number payment.secret (route_answer known committed payment)
question_text chain known committed number _ = word_line number (codes "bad")

-- the filters after a question
abbrev pub filters_after : ChainHash → List PeerFilter → Command → List PeerFilter
filters_after chain filters (requests.Filter peer bytes) = filters_with filters peer (filter_read chain bytes)
filters_after chain filters _ = filters

-- the answer to a question: its text, and the filters after it
pub record IsAnswerTo (chain : ChainHash) (known : Option (List ℕ)) (committed : Rows) (request : Command)
    (answer : Answer) : Type 0 where
  pub text : (n : ℕ) → answer_text chain committed n answer ≡ question_text chain known committed n request
  pub filters : (filters : List PeerFilter) → filters_by filters answer ≡ filters_after chain filters request

-- the filters after several
abbrev pub filters_behind : ChainHash → List PeerFilter → List Command → List PeerFilter
filters_behind chain = behind_all (filters_after chain)

-- their text, for the lines from this number on
abbrev pub questions_text : ChainHash → Option (List ℕ) → Rows → ℕ → List PeerFilter → List Command → List ℕ
questions_text chain known committed =
    texts_of (filters_after chain)
    (λ number filters request. question_text chain known committed number request)

-- there is a view, or no route is requested
abbrev pub IsReady : Option Graph → Command → Type 0
IsReady None request = IsNoRoute request
IsReady (Some graph) request = Unit {0}
