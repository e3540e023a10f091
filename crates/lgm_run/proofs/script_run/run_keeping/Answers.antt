use Rattle.std.proofs.lemmas.Result.{err_from_is_err_and}
use Rattle.lgm_run.proofs.RunEndLaws.{nothing_ran}
use Rattle.lgm_run.proofs.script_run.run_keeping.Goals as goal

pub returns-in_err-block : goal.returns-in_err-block
returns-in_err-block g c =
    let p = err_from_is_err_and c.from_residual.result c.from_residual.ensures.1 in
    record {
      runs = rw (p.1, p.2) (nothing_ran c.args.context.now.chain c.args.known.now
          (g.R.Source.seen c.args.reader.now) (g.W.Sink.seen c.args.writer.now));
    }
