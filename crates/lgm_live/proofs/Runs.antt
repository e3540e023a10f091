-- A whole script, its report and their text.
use Rattle.std.proofs.Common.{◌≡◌, ℕ, ◌<◌, List, length, map, Option, Some, None, sym, subst, ◌∙◌}
use Rattle.std.specs.Prelude.{IfSome}
use Rattle.lgm_wire.specs.declared.chain_hash.ChainHash.{ChainHash}
use Rattle.lgm_route.specs.declared.request.Request.{Request as RouteRequest}
use Rattle.lgm_script.specs.declared.grammar.item.Item.{Item}
use Rattle.lgm_script.specs.declared.grammar.command.Command.{Command}
use Rattle.lgm_script.specs.Device.{Appends, AppendsSome}
use Rattle.lgm_live.specs.declared.report.LiveReport.{LiveReport}
use Rattle.lgm_live.specs.declared.parsed_script.LineAnswer.{LineAnswer}
use Rattle.lgm_live.specs.ParsedScript.{batches_of, payments_of}
use Rattle.lgm_live.specs.inner.Gathered.{Gathered, line_answer_of, IsParsed}
use Rattle.lgm_live.specs.inner.Reading.{IsAsked}
use Rattle.lgm_live.specs.Running.{IsReport, IsReportOn, IsToldWhole, IsToldInPart}
use Rattle.lgm_live.specs.inner.Telling.{slots_before, AreThere, AreFreshThere}
use Rattle.lgm_live.specs.Freshness.{AreFresh}
use Rattle.lgm_live.specs.Text.{live_text, AreSame}
use Rattle.lgm_live.proofs.Slots.{text_is, all_there, all_fresh}
use Rattle.lgm_live.proofs.Scripts.{are_same, is_full}

-- a report on a parsed script, with an answer for each command
pub record IsReported (chain : ChainHash) (known : Option (List ℕ)) (workers : ℕ) (asked : List Command)
    (all : List LineAnswer) (report : LiveReport) : Type 0 where
  pub some : 0 < workers
  pub is_report : IsReportOn chain known workers asked report
  pub line_answers : all ≡ map line_answer_of asked

pub reported : {chain : ChainHash} {known : Option (List ℕ)} {workers : ℕ} {asked : List Command}
    {parsed : Gathered}
    {batches : List (List Item)} {lists : List (List RouteRequest)} {all : List LineAnswer} {report : LiveReport}
    → 0 < workers → IsParsed workers asked parsed → batches ≡ parsed.batches → lists ≡ parsed.lists
    → all ≡ parsed.line_answers → IsReport chain known batches lists report
    → IsReported chain known workers asked all report
reported {chain} {known} {workers} {asked} {lists = lists} {report = report} some is batches_are lists_are
    slots_are report_is =
    record {
      some = some;
      is_report =
          subst (λ ls. IsReport chain known (batches_of asked) ls report) (lists_are ∙ is.lists)
          (subst (λ bs. IsReport chain known bs lists report) (batches_are ∙ is.batches) report_is);
      line_answers = slots_are ∙ is.line_answers;
    }

module _ {chain : ChainHash} {known : Option (List ℕ)} {workers : ℕ} {asked : List Command} {all : List LineAnswer}
    {report : LiveReport} (is : IsReported chain known workers asked all report) where
  same_answers : AreSame workers known report (payments_of asked)
  same_answers = are_same chain known workers asked report is.some is.is_report

  pub there : AreThere workers report all
  there =
      all_there workers known report asked all (is_full chain known workers asked report is.is_report)
      same_answers is.line_answers

  -- each payment is answered on a map with the batches above it
  are_fresh : AreFreshThere workers report all (length all) → AreFresh workers report asked
  are_fresh fresh = all_fresh workers report asked all is.line_answers fresh

  -- the text of all line answers is the text of the script
  as_text : (Told : Option (List ℕ) → List ℕ → Type 0) (old mid : Option (List ℕ)) → mid ≡ old
      → Told mid (slots_before workers report all (length all))
      → Told old (live_text workers known report asked)
  as_text Told old mid same told =
      subst (λ o. Told o (live_text workers known report asked)) same
      (subst (Told mid) (sym (text_is workers known report asked all same_answers is.line_answers)) told)

  pub whole : (script old mid new : Option (List ℕ)) → IfSome script (IsAsked asked) → mid ≡ old
      → AreFreshThere workers report all (length all)
      → Appends mid new (slots_before workers report all (length all))
      → IfSome script (IsToldWhole chain known workers (Appends old new) report)
  whole None old mid new read same fresh told = tt
  whole (Some script) old mid new read same fresh told = record {
    limits = read.limits;
    is_report = subst (λ rs. IsReportOn chain known workers rs report) read.all is.is_report;
    text =
        subst (λ rs. Appends old new (live_text workers known report rs)) read.all
        (as_text (λ o. Appends o new) old mid same told);
    same = subst (λ rs. AreSame workers known report (payments_of rs)) read.all same_answers;
    fresh = subst (AreFresh workers report) read.all (are_fresh fresh);
  }

  pub in_part : (script old mid new : Option (List ℕ)) → IfSome script (IsAsked asked) → mid ≡ old
      → AreFreshThere workers report all (length all)
      → AppendsSome mid new (slots_before workers report all (length all))
      → IfSome script (IsToldInPart chain known workers (AppendsSome old new))
  in_part None old mid new read same fresh told = tt
  in_part (Some script) old mid new read same fresh told = record {
    limits = read.limits;
    report = report;
    is_report = subst (λ rs. IsReportOn chain known workers rs report) read.all is.is_report;
    fresh = subst (AreFresh workers report) read.all (are_fresh fresh);
    text =
        subst (λ rs. AppendsSome old new (live_text workers known report rs)) read.all
        (as_text (λ o. AppendsSome o new) old mid same told);
  }
