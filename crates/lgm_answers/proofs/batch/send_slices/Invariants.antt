use Rattle.std.proofs.Common.{map, drop}
use Rattle.std.specs.List.{flat_map}
use Rattle.lgm_script.specs.Output.{told_by}
use Rattle.lgm_script.specs.Text.{message_behind}
use Rattle.lgm_script.proofs.WrittenTextLaws.{Onward}
use Rattle.lgm_answers.proofs.batch.send_slices.Given as goal

-- the lines of the first messages were told
abbrev pub invariant-loop-message : goal.invariant-loop-message
invariant-loop-message g l =
    Onward (told_by g.W.Sink.seen l.fn.output) (told_by g.W.Sink.seen l.output)
    (flat_map (message_behind l.lead) (map (λ message. message.now) l.messages))
    (flat_map (message_behind l.lead) (map (λ message. message.now) (drop l.message-index l.messages)))
