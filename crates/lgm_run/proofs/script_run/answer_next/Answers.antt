use Rattle.std.proofs.Common.{[], ◌∷◌, ◌+◌, length, take, min, arith}
use Rattle.std.proofs.lemmas.Result.{err_from_is_err_and}
use Rattle.lgm_script.specs.Command.{command_of}
use Rattle.lgm_script.proofs.WrittenTextLaws.{tells_none}
use Rattle.lgm_script.proofs.FirstLines.{first_asks}
use Rattle.lgm_run.proofs.script_run.answer_next.Goals as goal

pub returns-clause-answered : goal.returns-clause-answered
returns-clause-answered g c =
    record {
      asked = c.in_ok-group.group.lines.items;
      next = rw c.buffered.ensures at c.in_ok-group.ensures.lines;
      count_is = omega (arith, c.len.ensures, c.in_ok-group.group.lines.ok.0);
      state_is = c.in_ok-answer_group.ensures.state;
      text = c.in_ok-answer_group.ensures.written;
    }

pub returns-in_err-group-clause-fault : goal.returns-in_err-group-clause-fault
returns-in_err-group-clause-fault g c =
    let p = err_from_is_err_and c.from_residual.result c.from_residual.ensures.1 in
    let buffered = c.args.lines.now in
    rw (p.1, p.2) (record {
      asked = command_of (take c.args.first buffered) ∷ [];
      len = min (length buffered) (c.args.first + 1);
      next = first_asks buffered c.args.first c.requires.line.0 c.requires.line.1;
      limit = c.requires.most.0;
      text = tells_none _ _;
    })

pub returns-in_err-answer_group-clause-fault : goal.returns-in_err-answer_group-clause-fault
returns-in_err-answer_group-clause-fault g c =
    let p = err_from_is_err_and c.from_residual-in_err-answer_group.result c.from_residual-in_err-answer_group.ensures.1 in
    rw (p.1, p.2) (record {
      asked = c.in_ok-group.group.lines.items;
      len = c.in_ok-group.group.len;
      next = rw c.buffered.ensures at c.in_ok-group.ensures.lines;
      limit = c.in_ok-group.ensures.few;
      text = c.in_err-answer_group.ensures.written;
    })
