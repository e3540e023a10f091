use Rattle.std.proofs.Common.{length, ap, ◌∙◌, arith, rules}
use Rattle.std.specs.Prelude.{IsTrue}
use Rattle.std.proofs.lemmas.List.{length-map}
use Rattle.std.proofs.lemmas.List.FromFn.{length-map-range_with_len}
use Rattle.std.proofs.lemmas.Result.{err_from_is_err_and}
use Rattle.lgm_script.specs.Output.{told_by}
use Rattle.lgm_live.specs.ParsedScript.{payments_of, list_for}
use Rattle.lgm_live.specs.Batches.{items_of}
use Rattle.lgm_live.specs.inner.Gathered.{line_answer_of}
use Rattle.lgm_live.proofs.Ends.{no_memory, not_answered, not_written, not_read}
use Rattle.lgm_live.proofs.Runs.{reported, there, whole, in_part}
use Rattle.lgm_live.proofs.Scripts.{items_few}
use Rattle.lgm_live.proofs.live_script.run_all.Goals as goal

pub returns-in_err-parsed : goal.returns-in_err-parsed
returns-in_err-parsed g c =
    let p = err_from_is_err_and c.from_residual.result c.from_residual.ensures.1 in
    let read = c.in_err-parsed.ensures in
    rw (p.1, p.2) (record {
      writer = read.writer;
      runs = not_read c.args.chain.now c.args.known.now c.args.pool.now.workers (g.R.Source.seen c.args.source.now)
          (g.R.Source.seen c.read_script.new.source) (told_by g.W.Sink.seen c.args.output.now)
          (told_by g.W.Sink.seen c.read_script.new.output) c.in_err-parsed.field-0.0 read;
    })

pub returns-in_err-paced : goal.returns-in_err-paced
returns-in_err-paced g c =
    let p = err_from_is_err_and c.from_residual-in_err-paced.result c.from_residual-in_err-paced.ensures.1 in
    let read = c.in_ok-parsed.ensures in
    rw (p.1, p.2) (record {
      writer = read.writer;
      runs = no_memory c.args.chain.now c.args.known.now c.args.pool.now.workers (g.R.Source.seen c.args.source.now)
          (g.R.Source.seen c.read_script.new.source) (g.W.Sink.seen c.args.output.now.writer.now)
          (g.W.Sink.seen c.read_script.new.output.writer.now) read.silent;
    })

pub live-requires-clause-items : goal.live-requires-clause-items
live-requires-clause-items g c =
    let read = c.in_ok-parsed.ensures.ok in
    omega (arith, items_few read.asked, read.few, ap (λ batches. length (items_of batches)) (c.batches.ensures ∙ read.is_parsed.batches))

pub live-requires-clause-workers : goal.live-requires-clause-workers
live-requires-clause-workers g c _ _ =
    let read = c.in_ok-parsed.ensures.ok in
    let workers = c.args.pool.now.workers in
    let many = length-map-range_with_len (list_for workers (payments_of read.asked)) 0 workers in
    let lists = ap length (c.lists.ensures ∙ read.is_parsed.lists) in
    (omega (arith, c.args.pool.now.some, many, lists), omega (arith, c.args.pool.now.few, many, lists))

pub returns-in_err-report : goal.returns-in_err-report
returns-in_err-report g c =
    let p = err_from_is_err_and c.from_residual-in_err-report.result c.from_residual-in_err-report.ensures.1 in
    let read = c.in_ok-parsed.ensures in
    rw (p.1, p.2) (record {
      writer = read.writer;
      runs = not_answered c.args.chain.now c.args.known.now c.args.pool.now.workers
          (g.R.Source.seen c.args.source.now) (g.R.Source.seen c.read_script.new.source)
          (g.W.Sink.seen c.args.output.now.writer.now) (g.W.Sink.seen c.read_script.new.output.writer.now)
          c.in_err-report.field-0.0 read.silent;
    })

pub write_answers-requires-clause-line_answers : goal.write_answers-requires-clause-line_answers
write_answers-requires-clause-line_answers g c =
    let read = c.in_ok-parsed.ensures.ok in
    let is =
    reported c.args.pool.now.some read.is_parsed c.batches.ensures c.lists.ensures c.line_answers-line_answers.ensures
    c.in_ok-report.ensures.report in
    (omega (arith, read.few, ap length is.line_answers, length-map read.asked line_answer_of), there is)

pub returns-in_err-write_answers : goal.returns-in_err-write_answers
returns-in_err-write_answers g c =
    let p = err_from_is_err_and c.from_residual-in_err-write_answers.result c.from_residual-in_err-write_answers.ensures.1 in
    let reads = c.in_ok-parsed.ensures in
    let is =
    reported c.args.pool.now.some reads.ok.is_parsed c.batches.ensures c.lists.ensures c.line_answers-line_answers.ensures
    c.in_ok-report.ensures.report in
    let fresh : IsTrue c.are_fresh.result = search rules in
    let part =
    in_part is (g.R.Source.seen c.args.source.now).left (g.W.Sink.seen c.args.output.now.writer.now).taken
    (g.W.Sink.seen c.read_script.new.output.writer.now).taken (g.W.Sink.seen c.write_answers.new.output.writer.now).taken
    reads.ok.whole reads.silent (c.are_fresh.ensures fresh) c.in_err-write_answers.ensures.part in
    rw (p.1, p.2) (record {
      writer = c.in_err-write_answers.ensures.writer ∙ reads.writer;
      runs = not_written c.args.chain.now c.args.known.now c.args.pool.now.workers
          (g.R.Source.seen c.args.source.now) (g.R.Source.seen c.read_script.new.source)
          (g.W.Sink.seen c.args.output.now.writer.now) (g.W.Sink.seen c.write_answers.new.output.writer.now)
          c.in_err-write_answers.field-0.0 part
          (λ is. omega (arith, c.in_err-write_answers.ensures.write is, reads.well (λ e. absurd cc)));
    })

pub returns-clause-writer : goal.returns-clause-writer
returns-clause-writer g c = let reads = c.in_ok-parsed.ensures in c.in_ok-write_answers.ensures.writer ∙ reads.writer

pub returns-clause-runs : goal.returns-clause-runs
returns-clause-runs g c =
    let reads = c.in_ok-parsed.ensures in
    let is =
    reported c.args.pool.now.some reads.ok.is_parsed c.batches.ensures c.lists.ensures c.line_answers-line_answers.ensures
    c.in_ok-report.ensures.report in
    let fresh : IsTrue c.are_fresh.result = search rules in
    record {
      ok =
          whole is (g.R.Source.seen c.args.source.now).left (g.W.Sink.seen c.args.output.now.writer.now).taken
          (g.W.Sink.seen c.read_script.new.output.writer.now).taken (g.W.Sink.seen c.write_answers.new.output.writer.now).taken
          reads.ok.whole reads.silent (c.are_fresh.ensures fresh) c.in_ok-write_answers.ensures.told;
      too_many = λ is. absurd cc;
      too_long = λ is. absurd cc;
      silent = tt;
      fault = tt;
      read = λ is. absurd cc;
      write = λ is. absurd cc;
    }
