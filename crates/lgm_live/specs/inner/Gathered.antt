-- The commands of a script, line by line, as a `ParsedScript` stores them.
use Rattle.std.specs.Prelude.{◌≡◌, ℕ, ◌+◌, ◌%◌, List, [], ◌∷◌, ◌++◌, length, map, slice_set, slice_index_or}
use Rattle.lgm_route.specs.declared.request.Request.{Request as RouteRequest}
use Rattle.lgm_script.specs.declared.grammar.item.Item.{Item}
use Rattle.lgm_script.specs.declared.grammar.command.Command.{Command}
use Rattle.lgm_script.specs.declared.grammar.command.Command.TheVariants as requests
use Rattle.lgm_answers.specs.Routing.{asked_route}
use Rattle.lgm_live.specs.declared.parsed_script.LineAnswer.{LineAnswer}
use Rattle.lgm_live.specs.declared.parsed_script.LineAnswer.TheVariants as line_answers
use Rattle.lgm_live.specs.ParsedScript.{batches_of, lists_of}

-- where the report has the answer to a line
abbrev pub line_answer_of : Command → LineAnswer
line_answer_of requests.Quiet = line_answers.Quiet
line_answer_of requests.Bad = line_answers.Bad
line_answer_of (requests.Offer item) = line_answers.Item
line_answer_of requests.Commit = line_answers.Commit
line_answer_of (requests.Query bytes) = line_answers.NotLive
line_answer_of (requests.Filter peer bytes) = line_answers.NotLive
line_answer_of (requests.Route payment) = line_answers.Payment payment.secret

-- what lines have requested
pub record Gathered : Type 0 where
  -- the complete batches
  pub batches : List (List Item)
  -- the items since the last commit
  pub batch : List Item
  -- the payments of each worker
  pub lists : List (List RouteRequest)
  -- the number of payments
  pub payments : ℕ
  -- where the report has the answer to each line
  pub line_answers : List LineAnswer

-- lists with one more item in one of them
abbrev pub appended_to : {T : Type 0} → List (List T) → ℕ → T → List (List T)
appended_to lists place item = slice_set lists place (slice_index_or lists place [] ++ item ∷ [])

abbrev pub with_slot : Gathered → LineAnswer → Gathered
with_slot so_far line_answer = record so_far { line_answers = so_far.line_answers ++ line_answer ∷ [] }

-- with the command of a line, but for where its answer is found
abbrev pub with_request : Gathered → Command → Gathered
with_request so_far (requests.Offer item) = record so_far { batch = so_far.batch ++ item ∷ [] }
with_request so_far requests.Commit =
    record so_far { batches = so_far.batches ++ so_far.batch ∷ []; batch = [] }
with_request so_far (requests.Route payment) =
    record so_far {
      lists = appended_to so_far.lists (so_far.payments % length so_far.lists) (asked_route payment);
      payments = so_far.payments + 1;
    }
with_request so_far _ = so_far

-- with the command of a line
abbrev pub with_line : Gathered → Command → Gathered
with_line so_far request = with_slot (with_request so_far request) (line_answer_of request)

-- all that lines request, for this many workers
pub record IsParsed (workers : ℕ) (asked : List Command) (parsed : Gathered) : Type 0 where
  pub batches : parsed.batches ≡ batches_of asked
  pub lists : parsed.lists ≡ lists_of workers asked
  pub line_answers : parsed.line_answers ≡ map line_answer_of asked
