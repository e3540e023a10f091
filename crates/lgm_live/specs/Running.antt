-- What a run with workers writes.
use Rattle.std.specs.Prelude.{◌≡◌, ℕ, ◌<◌, ◌≤◌, List, [], length, map, take, All, Option, slice_index_or}
use Rattle.std.specs.List.{AllZip, AllByRecursion}
use Rattle.std.specs.Result.{result_err}
use Rattle.lgm_wire.specs.declared.chain_hash.ChainHash.{ChainHash}
use Rattle.lgm_route.specs.declared.request.Request.{Request as RouteRequest}
use Rattle.lgm_answers.specs.Limits.{longest_line, most_lines}
use Rattle.lgm_script.specs.declared.grammar.item.Item.{Item}
use Rattle.lgm_script.specs.declared.grammar.command.Command.{Command}
use Rattle.lgm_script.specs.Lines.{lines_of}
use Rattle.lgm_answers.specs.Outcomes.{outcomes, history_of}
use Rattle.lgm_answers.specs.Script.{commands_of}
use Rattle.lgm_live.specs.declared.fault.LiveFault.{LiveFault}
use Rattle.lgm_live.specs.declared.fault.LiveFault.TheVariants as live
use Rattle.lgm_live.specs.declared.report.LiveReport.{LiveReport}
use Rattle.lgm_answers.specs.declared.run_fault.RunFault.{RunFault}
use Rattle.lgm_answers.specs.declared.run_fault.RunFault.TheVariants as faults
use Rattle.lgm_live.specs.Answers.{AreAnsweredBy, NeverFall, IsAtEnd}
use Rattle.lgm_live.specs.Batches.{items_of, ends_of}
use Rattle.lgm_live.specs.ParsedScript.{batches_of, payments_of, lists_of}
use Rattle.lgm_live.specs.Text.{live_text, AreSame}
use Rattle.lgm_live.specs.Freshness.{AreFresh}

-- the same fault as one of a script
abbrev pub live_fault : LiveFault → RunFault
live_fault live.NoMemory = faults.NoMemory
live_fault live.Closed = faults.Closed
live_fault live.Versions = faults.Versions

-- what `live` promises of its report
pub record IsReport (chain : ChainHash) (known : Option (List ℕ)) (batches : List (List Item))
    (lists : List (List RouteRequest)) (report : LiveReport) : Type 0 where
  -- the items are judged in order, as if there were no batches and no workers
  pub outcomes : report.outcomes.items ≡ map result_err (outcomes chain (items_of batches))
  pub ops : report.ops.items ≡ history_of chain (items_of batches)
  pub ends : report.ends.items ≡ ends_of chain batches
  -- each worker has one answer for each payment of its list, in order, on the map of the answer's version
  pub answers : AllZip (λ requests answers. AreAnsweredBy known report.ops.items requests answers.items) lists
      report.answers.items
  -- that map is empty or that of the end of a batch, and never shrinks
  pub at_ends : All (λ answers. All (IsAtEnd report.ends.items) answers.items) report.answers.items
  pub rising : All (λ answers. NeverFall answers.items) report.answers.items

-- all lines are within the limits
pub record IsWithin (script : List ℕ) : Type 0 where
  pub few : length (lines_of script) ≤ most_lines
  pub short : AllByRecursion (λ line. length line ≤ longest_line) (lines_of script)

-- a report on what these requests ask
abbrev pub IsReportOn : ChainHash → Option (List ℕ) → ℕ → List Command → LiveReport → Type 0
IsReportOn chain known workers asked report =
    IsReport chain known (batches_of asked) (lists_of workers asked) report

-- the report is one on the whole script, and the whole text of both was written
pub record IsToldWhole (chain : ChainHash) (known : Option (List ℕ)) (workers : ℕ) (told : List ℕ → Type 0)
    (report : LiveReport) (script : List ℕ) : Type 0 where
  pub limits : IsWithin script
  pub is_report : IsReportOn chain known workers (commands_of script) report
  pub text : told (live_text workers known report (commands_of script))
  pub same : AreSame workers known report (payments_of (commands_of script))
  pub fresh : AreFresh workers report (commands_of script)

-- a prefix of the text of the whole script and of some report on it was written
pub record IsToldInPart (chain : ChainHash) (known : Option (List ℕ)) (workers : ℕ)
    (told_part : List ℕ → Type 0) (script : List ℕ) : Type 0 where
  pub limits : IsWithin script
  pub report : LiveReport
  pub is_report : IsReportOn chain known workers (commands_of script) report
  pub fresh : AreFresh workers report (commands_of script)
  pub text : told_part (live_text workers known report (commands_of script))

-- none of the first n lines is too long
abbrev pub AreShort : List ℕ → ℕ → Type 0
AreShort script n = AllByRecursion (λ line. length line ≤ longest_line) (take n (lines_of script))

-- one more line than the limit begins, and none of the lines before it is too long
pub record HasMoreLines (script : List ℕ) : Type 0 where
  pub more : most_lines < length (lines_of script)
  pub short : AreShort script most_lines

-- a line within the limit is too long, and none of the lines before it is
pub record HasLongLine (script : List ℕ) : Type 0 where
  pub place : ℕ
  pub limit : place < most_lines
  pub long : longest_line < length (slice_index_or (lines_of script) place [])
  pub short : AreShort script place

-- a fault that comes before anything is written
abbrev pub ComesFirst : RunFault → Type 0
ComesFirst faults.Write = ⊥
ComesFirst faults.NoMemory = ⊥
ComesFirst _ = Unit {0}
