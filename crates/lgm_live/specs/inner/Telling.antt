-- The same text, line by line, as it is written.
use Rattle.std.specs.Prelude.{ℕ, zero, suc, ◌+◌, ◌<◌, Bool, true, false, List, [], ◌++◌, length}
use Rattle.std.specs.Prelude.{take, Option, Some, None, IsSome, IfSome, codes, count_by, slice_index_or}
use Rattle.lgm_script.specs.Text.{word_line, commit_line}
use Rattle.lgm_answers.specs.Answer.{outcome_text, route_text}
use Rattle.lgm_live.specs.declared.report.LiveAnswer.{LiveAnswer}
use Rattle.lgm_live.specs.declared.report.LiveReport.{LiveReport}
use Rattle.lgm_live.specs.declared.parsed_script.LineAnswer.{LineAnswer}
use Rattle.lgm_live.specs.declared.parsed_script.LineAnswer.TheVariants as line_answers
use Rattle.lgm_live.specs.declared.report_place.ReportPlace.{ReportPlace}
use Rattle.lgm_live.specs.Text.{answer_at, at_line}
use Rattle.lgm_live.specs.Freshness.{HasBatches}

abbrev pub is_item : LineAnswer → Bool
is_item line_answers.Item = true
is_item _ = false

abbrev pub is_end : LineAnswer → Bool
is_end line_answers.Commit = true
is_end _ = false

abbrev pub is_payment : LineAnswer → Bool
is_payment (line_answers.Payment secret) = true
is_payment _ = false

-- the indices of the next outcome, end and answer of a report after these lines
abbrev pub place_behind : List LineAnswer → ReportPlace
place_behind before =
    record {
      items = count_by is_item before;
      ends = count_by is_end before;
      payments = count_by is_payment before;
    }

-- the indices after one more line
abbrev pub place_passed : ReportPlace → LineAnswer → ReportPlace
place_passed place line_answers.Item = record place { items = place.items + 1 }
place_passed place line_answers.Commit = record place { ends = place.ends + 1 }
place_passed place (line_answers.Payment secret) = record place { payments = place.payments + 1 }
place_passed place _ = place

-- an answer, and that the replay gives the same
abbrev pub same_text : ℕ → List ℕ → Option LiveAnswer → List ℕ
same_text number secret None = []
same_text number secret (Some answer) =
    at_line number answer.version (codes "same") ++ route_text number secret answer.result

abbrev pub slot_text : ℕ → LiveReport → ℕ → ReportPlace → LineAnswer → List ℕ
slot_text workers report number place line_answers.Quiet = []
slot_text workers report number place line_answers.Bad = word_line number (codes "bad")
slot_text workers report number place line_answers.Item =
    outcome_text number (slice_index_or report.outcomes.items place.items None)
slot_text workers report number place line_answers.Commit =
    commit_line number (slice_index_or report.ends.items place.ends 0)
slot_text workers report number place line_answers.NotLive = word_line number (codes "not-live")
slot_text workers report number place (line_answers.Payment secret) =
    same_text number secret (answer_at workers report.answers.items place.payments)

-- the report has what a line's answer refers to
abbrev pub IsThere : ℕ → LiveReport → ReportPlace → LineAnswer → Type 0
IsThere workers report place line_answers.Item = place.items < length report.outcomes.items
IsThere workers report place line_answers.Commit = place.ends < length report.ends.items
IsThere workers report place (line_answers.Payment secret) =
    IsSome (answer_at workers report.answers.items place.payments)
IsThere workers report place _ = Unit {0}

-- and what each of them refers to
abbrev pub AreThere : ℕ → LiveReport → List LineAnswer → Type 0
AreThere workers report all =
    (k : ℕ) → k < length all
    → IsThere workers report (place_behind (take k all)) (slice_index_or all k line_answers.Quiet)

-- what a payment's line refers to is on a map with the batches before it
abbrev pub IsFreshThere : ℕ → LiveReport → ReportPlace → LineAnswer → Type 0
IsFreshThere workers report place (line_answers.Payment secret) =
    IfSome (answer_at workers report.answers.items place.payments) (HasBatches report place.ends)
IsFreshThere workers report place _ = Unit {0}

-- and so with each of the first n lines
abbrev pub AreFreshThere : ℕ → LiveReport → List LineAnswer → ℕ → Type 0
AreFreshThere workers report all n =
    (k : ℕ) → k < n
    → IsFreshThere workers report (place_behind (take k all)) (slice_index_or all k line_answers.Quiet)

-- the text of the first k lines
unfoldable pub slots_before : ℕ → LiveReport → List LineAnswer → ℕ → List ℕ
slots_before workers report all zero = []
slots_before workers report all (suc k) =
    slots_before workers report all k
    ++ slot_text workers report (k + 1) (place_behind (take k all)) (slice_index_or all k line_answers.Quiet)
