use Rattle.std.proofs.Common.{◌≡◌, rules, sym, ap}
use Rattle.std.specs.List.{flat_map}
use Rattle.std.specs.Map.{values_of}
use Rattle.std.proofs.lemmas.Result.{err_from_is_err_and}
use Rattle.lgm_script.proofs.WrittenTextLaws.{onward_first, onward_more, onward_stops, onward_ends}
use Rattle.lgm_answers.specs.Answer.{news_text}
use Rattle.lgm_answers.proofs.Messages.{gives_as}
use Rattle.lgm_answers.proofs.send.send_all_news.Goals as goal

pub loop-own-init : goal.loop-own-init
loop-own-init g c =
    let same : values_of c.into_iter-own-iterator.result ≡ c.args.filters.now = search rules in
    onward_first _ _ _ (ap (flat_map (news_text c.args.number c.args.map_diff.now.before
    c.args.map_diff.now.after)) (sym same))

pub loop-own-preserved : goal.loop-own-preserved
loop-own-preserved g c =
    onward_more _ _ _ _ _ _ _ c.loop-own.invariant
    (ap (λ rest. flat_map (news_text c.args.number c.args.map_diff.now.before
    c.args.map_diff.now.after) (values_of rest)) c.in-Some.ensures.steps)
    (c.in_ok-send_messages.ensures _ (gives_as c.news-messages.ensures))

pub returns-in_err-send_messages : goal.returns-in_err-send_messages
returns-in_err-send_messages g c =
    let p = err_from_is_err_and c.from_residual.result c.from_residual.ensures.1 in
    rw (p.1, p.2) (onward_stops _ _ _ _ _ _ _ _ c.loop-own.invariant
    (ap (λ rest. flat_map (news_text c.args.number c.args.map_diff.now.before c.args.map_diff.now.after)
    (values_of rest)) c.in-Some.ensures.steps)
    (c.in_err-send_messages.ensures _ (gives_as c.news-messages.ensures)))

pub returns : goal.returns
returns g c =
    onward_ends _ _ _ _ c.loop-own.invariant (ap (λ rest. flat_map
    (news_text c.args.number c.args.map_diff.now.before c.args.map_diff.now.after) (values_of rest))
    c.in-None.ensures.steps.0)
