-- On which maps payments are answered, beside the batches above them.
use Rattle.std.specs.Prelude.{ℕ, ◌<◌, ◌≤◌, List, ◌∷◌, length, take, count_by, IfSome, slice_index_or}
use Rattle.lgm_script.specs.declared.grammar.command.Command.{Command}
use Rattle.lgm_script.specs.declared.grammar.command.Command.TheVariants as requests
use Rattle.lgm_answers.specs.Script.{is_commit}
use Rattle.lgm_live.specs.declared.report.LiveAnswer.{LiveAnswer}
use Rattle.lgm_live.specs.declared.report.LiveReport.{LiveReport}
use Rattle.lgm_live.specs.ParsedScript.{payments_of}
use Rattle.lgm_live.specs.Text.{answer_at}

-- the answer is on the map of this many batches, or on a later one: its version is no lower than where the last of them ends
abbrev pub HasBatches : LiveReport → ℕ → LiveAnswer → Type 0
HasBatches report batches answer = slice_index_or (0 ∷ report.ends.items) batches 0 ≤ answer.version

-- the answer to a request after these, if that is a payment, is on a map with the batches that these commit
abbrev pub IsFresh : ℕ → LiveReport → List Command → Command → Type 0
IsFresh workers report before (requests.Route payment) =
    IfSome (answer_at workers report.answers.items (length (payments_of before))) (HasBatches report (count_by is_commit before))
IsFresh workers report before _ = Unit {0}

-- each payment is answered on a map with the batches above it
abbrev pub AreFresh : ℕ → LiveReport → List Command → Type 0
AreFresh workers report asked =
    (k : ℕ) → k < length asked → IsFresh workers report (take k asked) (slice_index_or asked k requests.Quiet)
