use Rattle.lgm_timeline.specs.declared.past.Past.{Past}
use Rattle.lgm_timeline.proofs.Pasts.{past_trim, reached_lasts, stays_then}
use Rattle.lgm_timeline.proofs.past.Past.catch_up_and_trim.Goals as goal

pub catch_up_older-requires : goal.catch_up_older-requires
catch_up_older-requires c =
    let network = c.requires.network in
    record { network = network; is = (c.in_ok-reach_mark.ensures.stays network c.requires.is).past }

pub returns-clause-stays : goal.returns-clause-stays
returns-clause-stays c = λ network past.
    let reached = c.in_ok-reach_mark.ensures.stays network past in
    let turned = c.catch_up_older.new.self in
    let turns = c.catch_up_older.ensures.stays network reached.past in
    let cut : Past = record turned { log = c.trim.new.self } in
    let last = c.trim-2.new.self in
    let trimmed = past_trim network turned c.trim.new.self c.trim.ensures.trimmed
    (reached_lasts turned.log c.trim.new.self turned.marked turned.mark
    (rw (c.catch_up_older.ensures.mark, c.catch_up_older.ensures.marked) c.in_ok-reach_mark.ensures.reached)) turns.past in
    stays_then network c.args.self.now c.reach_mark.new.self last reached
    (stays_then network c.reach_mark.new.self turned last turns
    (stays_then network turned cut last trimmed (c.trim-2.ensures.stays network trimmed.past)))
