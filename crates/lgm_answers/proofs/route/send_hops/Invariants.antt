use Rattle.lgm_script.specs.Output.{told_by}
use Rattle.lgm_script.proofs.WrittenTextLaws.{Onward}
use Rattle.lgm_answers.specs.Answer.{hops_text}
use Rattle.lgm_answers.proofs.Hops.{hops_from}
use Rattle.lgm_answers.proofs.route.send_hops.Given as goal

-- the first hops were told
abbrev pub invariant-loop-place : goal.invariant-loop-place
invariant-loop-place g l =
    Onward (told_by g.W.Sink.seen l.fn.output) (told_by g.W.Sink.seen l.output)
    (hops_text l.number l.route l.fn.payloads) (hops_from l.number l.route l.fn.payloads l.place)
