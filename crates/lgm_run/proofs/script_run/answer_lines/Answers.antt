use Rattle.std.proofs.Common.{◌-◌, refl, ap, arith, rules}
use Rattle.std.proofs.lemmas.Result.{err_from_is_err_and}
use Rattle.lgm_script.specs.Output.{told_by}
use Rattle.lgm_answers.specs.declared.run_fault.TheConstants.{MAX_LINES}
use Rattle.lgm_answers.proofs.LineFaults.{failed}
use Rattle.lgm_run.proofs.CommandStepLaws.{accepted_from-le}
use Rattle.lgm_run.proofs.Reached.{up_to_first, read_on, answered_on}
use Rattle.lgm_run.proofs.AnsweredLinesLaws.{line_failed, all_answered, more_lines, answer_failed}
use Rattle.lgm_run.proofs.script_run.answer_lines.Goals as goal

pub loop-number-init : goal.loop-number-init
loop-number-init g c = rw (c.requires.engine, c.requires.lines) (record {
  few = omega arith;
  up_to =
      up_to_first c.args.context.now.chain c.args.engine.now.known (g.R.Source.seen c.args.source.now)
      (told_by g.W.Sink.seen c.args.output.now);
})

pub returns-in_err-count : goal.returns-in_err-count
returns-in_err-count g c =
    let p = err_from_is_err_and c.from_residual.result c.from_residual.ensures.1 in
    let line = c.in_err-count.ensures in
    rw (p.1, p.2) (line_failed c.loop-number.invariant.up_to c.next_line.new.lines (g.R.Source.seen c.next_line.new.source)
    (told_by g.W.Sink.seen c.next_line.new.output) c.in_err-count.field-0.0 line.kept line.written line.write line.read
    (λ is. (c.loop-number-test.true, line.too_long (ap failed is))))

pub returns-in_default : goal.returns-in_default
returns-in_default g c =
    let line = c.in_ok-count.ensures in
    let up_to =
    read_on c.loop-number.invariant.up_to c.next_line.new.lines (g.R.Source.seen c.next_line.new.source) (told_by g.W.Sink.seen c.next_line.new.output)
    line.kept (line.well (λ e. absurd cc)) (line.written (λ e. absurd cc)) in
    all_answered up_to c.loop-number.number c.accepted.result refl c.accepted.ensures
    (line.end (search rules))

pub returns-in_err-some : goal.returns-in_err-some
returns-in_err-some g c =
    let p = err_from_is_err_and c.from_residual-in_err-some.result c.from_residual-in_err-some.ensures.1 in
    let line = c.in_ok-count.ensures in
    let first = rw c.in-Some.is at line.line in
    let up_to =
    read_on c.loop-number.invariant.up_to c.next_line.new.lines (g.R.Source.seen c.next_line.new.source) (told_by g.W.Sink.seen c.next_line.new.output)
    line.kept (line.well (λ e. absurd cc)) (line.written (λ e. absurd cc)) in
    rw (p.1, p.2) (answer_failed up_to c.in-Some.count (MAX_LINES - c.loop-number.number)
    (told_by g.W.Sink.seen c.answer_next.new.output)
    c.in_err-some.field-0.0 first (omega arith) c.in_err-some.ensures.fault)

pub loop-number-preserved : goal.loop-number-preserved
loop-number-preserved g c =
    let inv = c.loop-number.invariant in
    let line = c.in_ok-count.ensures in
    let first = rw c.in-Some.is at line.line in
    let up_to =
    read_on inv.up_to c.next_line.new.lines (g.R.Source.seen c.next_line.new.source) (told_by g.W.Sink.seen c.next_line.new.output)
    line.kept (line.well (λ e. absurd cc)) (line.written (λ e. absurd cc)) in
    let answers = c.in_ok-some.ensures.answered in
    let count_is = ap (λ s. s.accepted) answers.state_is in
    record {
      few =
          omega (
            arith,
            count_is,
            accepted_from-le c.args.context.now.chain c.loop-number.engine answers.asked,
            answers.count_is,
            inv.few,
          );
      up_to =
          rw c.drop_front.ensures (answered_on up_to first answers (omega (arith, c.in_ok-some.ensures.few)));
    }

pub returns-in_err-more_begins : goal.returns-in_err-more_begins
returns-in_err-more_begins g c =
    let p = err_from_is_err_and c.from_residual-in_err-more_begins.result c.from_residual-in_err-more_begins.ensures.1 in
    let more = c.in_err-more_begins.ensures in
    rw (p.1, p.2) (line_failed c.loop-number.invariant.up_to c.more_begins.new.lines (g.R.Source.seen c.more_begins.new.source)
    (told_by g.W.Sink.seen c.more_begins.new.output) c.in_err-more_begins.field-0.0 more.kept more.written more.write more.read
    (λ is. absurd (more.short (ap failed is))))

pub returns-then-branch : goal.returns-then-branch
returns-then-branch g c =
    let more = c.in_ok-more_begins.ensures in
    let up_to =
    read_on c.loop-number.invariant.up_to c.more_begins.new.lines (g.R.Source.seen c.more_begins.new.source)
    (told_by g.W.Sink.seen c.more_begins.new.output) more.kept (more.well (λ e. absurd cc)) (more.written (λ e. absurd cc)) in
    more_lines up_to (omega arith) (more.more (search rules))

pub returns : goal.returns
returns g c =
    let more = c.in_ok-more_begins.ensures in
    let up_to =
    read_on c.loop-number.invariant.up_to c.more_begins.new.lines (g.R.Source.seen c.more_begins.new.source)
    (told_by g.W.Sink.seen c.more_begins.new.output) more.kept (more.well (λ e. absurd cc)) (more.written (λ e. absurd cc)) in
    all_answered up_to MAX_LINES c.accepted-2.result (omega arith) c.accepted-2.ensures
    (more.end (search rules))
