use Rattle.std.proofs.Common.{[], ◌∷◌, ◌++◌, length, take, refl, sym, ap, ◌∙◌, length-append, arith, rules}
use Rattle.std.proofs.lemmas.Result.{err_from_is_err_and}
use Rattle.lgm_script.specs.Output.{told_by}
use Rattle.lgm_script.specs.Command.{command_of}
use Rattle.lgm_answers.proofs.LineFaults.{failed}
use Rattle.lgm_live.specs.inner.Gathered.{with_line}
use Rattle.lgm_live.proofs.RequestedLinesLaws.{with_lines-push, workers_are, payments_few}
use Rattle.lgm_live.proofs.WholeLines.{starts}
use Rattle.lgm_live.proofs.Readings.{line_failed, read_on, line_read, all_read, more_lines, no_memory}
use Rattle.lgm_live.proofs.read_script.read_lines.Goals as goal

pub loop-number-init : goal.loop-number-init
loop-number-init g c = rw c.requires.lines (record {
  asked = [];
  within = omega arith;
  count = refl;
  added = refl;
  read_to = record {
    read_same = refl;
    write_same = refl;
    taken_same = refl;
    writer = refl;
    clear = c.requires.buffered;
    so_far = starts (g.R.Source.seen c.args.source.now).left;
  };
})

pub returns-in_err-count : goal.returns-in_err-count
returns-in_err-count g c =
    let p = err_from_is_err_and c.from_residual.result c.from_residual.ensures.1 in
    let inv = c.loop-number.invariant in
    let line = c.in_err-count.ensures in
    rw (p.1, p.2) (line_failed inv.read_to c.next_line.new.lines (g.R.Source.seen c.next_line.new.source)
    (told_by g.W.Sink.seen c.next_line.new.output)
    c.in_err-count.field-0.0 line.kept line.written line.write line.read
    (λ is. (omega (arith, inv.count, c.loop-number-test.true), line.too_long (ap failed is))))

pub returns-in_default : goal.returns-in_default
returns-in_default g c =
    let inv = c.loop-number.invariant in
    let line = c.in_ok-count.ensures in
    let read_to =
    read_on inv.read_to c.next_line.new.lines (g.R.Source.seen c.next_line.new.source)
    (told_by g.W.Sink.seen c.next_line.new.output) line.kept
    (line.well (λ e. absurd cc)) (line.written (λ e. absurd cc)) in
    all_read read_to c.args.parsed.now c.loop-number.parsed inv.added (omega (arith, inv.count, inv.within))
    (line.end (search rules))

pub returns-in_err-add_first_line : goal.returns-in_err-add_first_line
returns-in_err-add_first_line g c =
    let p = err_from_is_err_and c.from_residual-in_err-add_first_line.result c.from_residual-in_err-add_first_line.ensures.1 in
    let line = c.in_ok-count.ensures in
    let read_to =
    read_on c.loop-number.invariant.read_to c.next_line.new.lines (g.R.Source.seen c.next_line.new.source)
    (told_by g.W.Sink.seen c.next_line.new.output)
    line.kept (line.well (λ e. absurd cc)) (line.written (λ e. absurd cc)) in
    rw (p.1, p.2) (no_memory read_to)

pub add_first_line-requires-clause-some : goal.add_first_line-requires-clause-some
add_first_line-requires-clause-some g c =
    let inv = c.loop-number.invariant in
    omega (arith, c.requires.some, workers_are c.args.parsed.now inv.asked, ap (λ parsed. length parsed.lists) inv.added)

pub add_first_line-requires-clause-few : goal.add_first_line-requires-clause-few
add_first_line-requires-clause-few g c =
    let inv = c.loop-number.invariant in
    omega (
      arith,
      c.requires.none,
      payments_few c.args.parsed.now inv.asked,
      ap (λ parsed. parsed.payments) inv.added,
      inv.count,
      c.loop-number-test.true,
    )

pub loop-number-preserved : goal.loop-number-preserved
loop-number-preserved g c =
    let inv = c.loop-number.invariant in
    let line = c.in_ok-count.ensures in
    let request = command_of (take c.in-Some.count c.next_line.new.lines) in
    let first = rw c.in-Some.is at line.line in
    let small = rw c.in-Some.is at line.short in
    let read_to =
    read_on inv.read_to c.next_line.new.lines (g.R.Source.seen c.next_line.new.source)
    (told_by g.W.Sink.seen c.next_line.new.output) line.kept
    (line.well (λ e. absurd cc)) (line.written (λ e. absurd cc)) in
    record {
      asked = inv.asked ++ request ∷ [];
      within = omega (arith, c.loop-number-test.true);
      count = omega (arith, inv.count, length-append inv.asked (request ∷ []));
      added =
          c.in_ok-add_first_line.ensures.parsed ∙ ap (λ parsed. with_line parsed request) inv.added
          ∙ sym (with_lines-push c.args.parsed.now inv.asked request);
      read_to = rw c.in_ok-add_first_line.ensures.lines (line_read read_to c.in-Some.count first small);
    }

pub returns-in_err-more_begins : goal.returns-in_err-more_begins
returns-in_err-more_begins g c =
    let p = err_from_is_err_and c.from_residual-in_err-more_begins.result c.from_residual-in_err-more_begins.ensures.1 in
    let more = c.in_err-more_begins.ensures in
    rw (p.1, p.2) (line_failed c.loop-number.invariant.read_to c.more_begins.new.lines
    (g.R.Source.seen c.more_begins.new.source)
    (told_by g.W.Sink.seen c.more_begins.new.output) c.in_err-more_begins.field-0.0 more.kept more.written more.write more.read
    (λ is. absurd (more.short (ap failed is))))

pub returns-then-branch : goal.returns-then-branch
returns-then-branch g c =
    let inv = c.loop-number.invariant in
    let more = c.in_ok-more_begins.ensures in
    let read_to =
    read_on inv.read_to c.more_begins.new.lines (g.R.Source.seen c.more_begins.new.source) (told_by g.W.Sink.seen c.more_begins.new.output) more.kept
    (more.well (λ e. absurd cc)) (more.written (λ e. absurd cc)) in
    more_lines read_to (omega (arith, inv.count, inv.within, c.loop-number-test.false))
    (more.more (search rules))

pub returns : goal.returns
returns g c =
    let inv = c.loop-number.invariant in
    let more = c.in_ok-more_begins.ensures in
    let read_to =
    read_on inv.read_to c.more_begins.new.lines (g.R.Source.seen c.more_begins.new.source) (told_by g.W.Sink.seen c.more_begins.new.output) more.kept
    (more.well (λ e. absurd cc)) (more.written (λ e. absurd cc)) in
    all_read read_to c.args.parsed.now c.loop-number.parsed inv.added (omega (arith, inv.count, inv.within))
    (more.end (search rules))
