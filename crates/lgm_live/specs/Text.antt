-- The text of a script whose payments are answered while its items are admitted.
use Rattle.std.specs.Prelude.{◌≡◌, ℕ, zero, suc, ◌+◌, ◌/◌, ◌%◌, ◌==◌, ◌&&◌, Bool, false, List, [], ◌++◌}
use Rattle.std.specs.Prelude.{length, take, Option, Some, None, Result, Ok, Err, codes, count_by, nat_eq}
use Rattle.std.specs.Prelude.{slice_get, slice_index_or, option_and_then, if◌then◌else◌}
use Rattle.std.specs.Cmp.Lexicographic.{pointwise}
use Rattle.std.specs.Fmt.{decimal}
use Rattle.std.specs.Global.{Vec}
use Rattle.lgm_store.specs.declared.op.Op.{Op}
use Rattle.lgm_store.specs.History.{fold}
use Rattle.lgm_graph.specs.declared.route.Hop.{Hop}
use Rattle.lgm_route.specs.declared.fault.RouteFault.{RouteFault}
use Rattle.lgm_route.specs.Words.{route_word}
use Rattle.lgm_script.specs.declared.grammar.route_parameters.RouteParameters.{RouteParameters}
use Rattle.lgm_script.specs.declared.grammar.command.Command.{Command}
use Rattle.lgm_script.specs.declared.grammar.command.Command.TheVariants as requests
use Rattle.lgm_script.specs.Text.{word_line, commit_line}
use Rattle.lgm_answers.specs.Answer.{outcome_text, route_text}
use Rattle.lgm_answers.specs.Routing.{route_answer}
use Rattle.lgm_answers.specs.Script.{items_of, is_commit}
use Rattle.lgm_live.specs.declared.report.LiveAnswer.{LiveAnswer}
use Rattle.lgm_live.specs.declared.report.LiveReport.{LiveReport}
use Rattle.lgm_live.specs.ParsedScript.{payments_of}

-- ---- whether two answers are the same

abbrev pub same_hop : Hop → Hop → Bool
same_hop a b =
    (a.scid == b.scid) && pointwise nat_eq a.from.0 b.from.0 && pointwise nat_eq a.to.0 b.to.0
    && (a.amount == b.amount) && (a.expiry == b.expiry)

abbrev pub same_answer : Result (List Hop) RouteFault → Result (List Hop) RouteFault → Bool
same_answer (Ok hops) (Ok others) = pointwise same_hop hops others
same_answer (Err fault) (Err other) = pointwise nat_eq (route_word fault) (route_word other)
same_answer _ _ = false

-- whether the map of the first operations, as many as the answer's version says, gives the same answer
abbrev pub replay_word : Option (List ℕ) → List Op → RouteParameters → LiveAnswer → List ℕ
replay_word known ops payment answer =
    if same_answer answer.result (route_answer known (fold (take answer.version ops)) payment)
    then codes "same" else codes "other"

-- ---- the text for requests

-- the answer to a payment, by its index among all that were dealt to this many workers round-robin
abbrev pub answer_at : ℕ → List (Vec LiveAnswer) → ℕ → Option LiveAnswer
answer_at workers answers place =
    option_and_then (λ (list : Vec LiveAnswer). slice_get list.items (place / workers))
    (slice_get answers (place % workers))

-- N at V WORD
abbrev pub at_line : ℕ → ℕ → List ℕ → List ℕ
at_line number version word = word_line number (codes "at " ++ decimal version ++ codes " " ++ word)

-- the answer to a payment: the version of its map, whether the replay gives the same, and the answer itself
abbrev pub payment_text : Option (List ℕ) → List Op → ℕ → RouteParameters → Option LiveAnswer → List ℕ
payment_text known ops number payment None = []
payment_text known ops number payment (Some answer) =
    at_line number answer.version (replay_word known ops payment answer)
    ++ route_text number payment.secret answer.result

-- the text for a request after these, for the line with this number
abbrev pub live_text_for : ℕ → Option (List ℕ) → LiveReport → ℕ → List Command → Command → List ℕ
live_text_for workers known report number before requests.Quiet = []
live_text_for workers known report number before requests.Bad = word_line number (codes "bad")
live_text_for workers known report number before (requests.Offer item) =
    outcome_text number (slice_index_or report.outcomes.items (length (items_of before)) None)
live_text_for workers known report number before requests.Commit =
    commit_line number (slice_index_or report.ends.items (count_by is_commit before) 0)
live_text_for workers known report number before (requests.Query bytes) = word_line number (codes "not-live")
live_text_for workers known report number before (requests.Filter peer bytes) = word_line number (codes "not-live")
live_text_for workers known report number before (requests.Route payment) =
    payment_text known report.ops.items number payment
    (answer_at workers report.answers.items (length (payments_of before)))

-- the text for the first k requests
unfoldable pub live_text_before : ℕ → Option (List ℕ) → LiveReport → List Command → ℕ → List ℕ
live_text_before workers known report asked zero = []
live_text_before workers known report asked (suc k) =
    live_text_before workers known report asked k
    ++ live_text_for workers known report (k + 1) (take k asked) (slice_index_or asked k requests.Quiet)

-- the text for all requests
abbrev pub live_text : ℕ → Option (List ℕ) → LiveReport → List Command → List ℕ
live_text workers known report asked = live_text_before workers known report asked (length asked)

-- each payment has an answer, and the replay gives the same
abbrev pub AreSame : ℕ → Option (List ℕ) → LiveReport → List RouteParameters → Type 0
AreSame workers known report payments =
    (place : ℕ) (payment : RouteParameters) → slice_get payments place ≡ Some payment
    → (answer : LiveAnswer) × (answer_at workers report.answers.items place ≡ Some answer)
    × (replay_word known report.ops.items payment answer ≡ codes "same")
