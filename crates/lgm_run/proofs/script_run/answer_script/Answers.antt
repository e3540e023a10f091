use Rattle.std.proofs.Common.{◌≡◌, ◌∙◌, ap, subst, rules}
use Rattle.std.proofs.lemmas.Result.{err_from_is_err_and}
use Rattle.std.specs.Prelude.{IfOk, IfSome, Err}
use Rattle.lgm_script.specs.Output.{told_by, Tells, TellsSome}
use Rattle.lgm_run.specs.Running.{IsAnswered, IsTooMany, IsTooLong, IsCutShort}
use Rattle.lgm_answers.specs.declared.run_fault.RunFault.TheVariants.{TooManyLines, LineTooLong}
use Rattle.lgm_run.proofs.RunEndLaws.{ok_written, many_written, long_written, fault_written, own_ended, writer_ended, nothing_ran}
use Rattle.lgm_run.proofs.script_run.answer_script.Goals as goal

pub returns-in_err-made-clause-runs : goal.returns-in_err-made-clause-runs
returns-in_err-made-clause-runs g c =
    let p = err_from_is_err_and c.from_residual-in_err-made.result c.from_residual-in_err-made.ensures.1 in
    rw (p.1, p.2) (nothing_ran c.args.context.now.chain c.args.known.now (g.R.Source.seen c.args.source.now)
    (g.W.Sink.seen c.args.output.now.writer.now))

-- it is the sink that the lines were answered to
pub returns-clause-writer : goal.returns-clause-writer
returns-clause-writer g c =
    let told = c.answer_lines-answered.ensures in
    writer_ended c.args.context.now.chain c.args.known.now (g.R.Source.seen c.args.source.now).left
    (told_by g.W.Sink.seen c.args.output.now) (told_by g.W.Sink.seen c.answer_lines-answered.new.output)
    (told_by g.W.Sink.seen c.flush_answers.new.output) c.answer_lines-answered.result c.flush_answers.result
    c.requires c.flush_answers.ensures told.writer

pub returns-clause-runs : goal.returns-clause-runs
returns-clause-runs g c =
    let chain = c.args.context.now.chain in
    let bits = c.args.known.now in
    let script = (g.R.Source.seen c.args.source.now).left in
    let left = (g.R.Source.seen c.answer_lines-answered.new.source).left in
    let old = told_by g.W.Sink.seen c.args.output.now in
    let mid = told_by g.W.Sink.seen c.answer_lines-answered.new.output in
    let new = told_by g.W.Sink.seen c.flush_answers.new.output in
    let answered = c.answer_lines-answered.result in
    let result = c.flush_answers.result in
    let told = c.answer_lines-answered.ensures in
    let ended = c.flush_answers.ensures in
    let known = ap (λ state. state.known) (c.deref_mut.ensures.value ∙ ap (λ boxed. boxed.value) c.insert-engine.ensures.value ∙ c.in_ok-made.ensures) in
    record {
      ok = ok_written chain bits script old mid new answered result c.requires ended
          (subst (λ k. IfOk answered (λ counts. IfSome script (IsAnswered chain k (Tells old mid) counts))) known told.ok);
      too_many = many_written chain bits script old mid new answered result c.requires ended
          (subst (λ k. answered ≡ Err TooManyLines → IfSome script (IsTooMany chain k (Tells old mid))) known told.too_many);
      too_long = long_written chain bits script old mid new answered result c.requires ended
          (subst (λ k. answered ≡ Err LineTooLong → IfSome script (IsTooLong chain k (Tells old mid))) known told.too_long);
      fault = fault_written chain bits script old mid new answered result c.requires ended left
          (subst (λ k. IfSome script (IsCutShort chain k (TellsSome old mid) left)) known told.some);
      read = search rules;
      write = search rules;
      own = own_ended chain bits script old mid new answered result c.requires ended told.own;
    }
