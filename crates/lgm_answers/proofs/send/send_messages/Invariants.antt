use Rattle.std.proofs.Common.{ℕ, List, ◌++◌}
use Rattle.std.specs.List.{flat_map}
use Rattle.lgm_script.specs.Output.{told_by}
use Rattle.lgm_script.specs.Text.{message_line}
use Rattle.lgm_script.proofs.WrittenTextLaws.{Onward}
use Rattle.lgm_answers.proofs.Messages.{Gives}
use Rattle.lgm_answers.proofs.send.send_messages.Given as goal

-- the lines of the first messages were told, but for those that wait
abbrev pub invariant-loop-message : goal.invariant-loop-message
invariant-loop-message g l =
    (all : List (List ℕ)) → Gives g.I.Iterator.next_gives l.fn.messages all
    → (rest : List (List ℕ)) × Gives g.I.Iterator.next_gives l.message-iterator rest
    × Onward (told_by g.W.Sink.seen l.fn.output) (told_by g.W.Sink.seen l.output)
    (flat_map (message_line l.fn.number l.fn.peer) all)
    (flat_map (message_line l.fn.number l.fn.peer) l.batch ++ flat_map (message_line l.fn.number l.fn.peer) rest)
