use Rattle.std.proofs.Common.{◌≡◌, ◌+◌, ◌<◌, ◌≤◌, ◌++◌, List, ℕ, Bor, length, map, get_or, drop, refl, ap}
use Rattle.std.specs.List.{flat_map}
use Rattle.std.proofs.lemmas.List.{drop_more, drop_all}
use Rattle.std.proofs.lemmas.Result.{err_from_is_err_and}
use Rattle.lgm_script.specs.Text.{message_behind}
use Rattle.lgm_script.proofs.WrittenTextLaws.{onward_first, onward_more, onward_stops, onward_ends}
use Rattle.lgm_answers.proofs.batch.send_slices.Goals as goal

abbrev lines : List ℕ → List (Bor (List ℕ)) → List ℕ
lines front messages = flat_map (message_behind front) (map (λ message. message.now) messages)

-- the message at a place, and those behind it
message_there : (front : List ℕ) (place : ℕ) (messages : List (Bor (List ℕ))) (other : Bor (List ℕ)) → place < length messages
    → lines front (drop place messages)
    ≡ message_behind front (get_or messages place other).now ++ lines front (drop (place + 1) messages)
message_there front place messages other within = ap (lines front) (drop_more messages place other within)

pub loop-message-init : goal.loop-message-init
loop-message-init g c = onward_first _ _ _ refl

pub loop-message-preserved : goal.loop-message-preserved
loop-message-preserved g c =
    onward_more _ _ _ _ _ _ _ c.loop-message.invariant
    (message_there c.args.lead.now c.loop-message.message-index c.args.messages.now _ c.loop-message-test.true)
    c.in_ok-send_message.ensures

pub returns-in_err-send_message : goal.returns-in_err-send_message
returns-in_err-send_message g c =
    let p = err_from_is_err_and c.from_residual.result c.from_residual.ensures.1 in
    rw (p.1, p.2) (onward_stops _ _ _ _ _ _ _ _ c.loop-message.invariant
    (message_there c.args.lead.now c.loop-message.message-index c.args.messages.now _ c.loop-message-test.true)
    c.in_err-send_message.ensures)

pub returns : goal.returns
returns g c =
    let past : length c.args.messages.now ≤ c.loop-message.message-index = c.loop-message-test.false in
    onward_ends _ _ _ _ c.loop-message.invariant (ap (lines c.args.lead.now)
    (drop_all c.loop-message.message-index c.args.messages.now past))
