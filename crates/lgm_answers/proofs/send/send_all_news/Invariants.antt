use Rattle.std.specs.List.{flat_map}
use Rattle.std.specs.Map.{values_of}
use Rattle.lgm_script.specs.Output.{told_by}
use Rattle.lgm_script.proofs.WrittenTextLaws.{Onward}
use Rattle.lgm_answers.specs.Answer.{news_text}
use Rattle.lgm_answers.proofs.send.send_all_news.Given as goal

-- the first peers were told their news
abbrev pub invariant-loop-own : goal.invariant-loop-own
invariant-loop-own g l =
    Onward (told_by g.W.Sink.seen l.fn.output) (told_by g.W.Sink.seen l.output)
    (flat_map (news_text l.number l.map_diff.before l.map_diff.after) l.filters)
    (flat_map (news_text l.number l.map_diff.before l.map_diff.after) (values_of l.own-iterator))
