use Rattle.std.proofs.Common.{sym, ap, ◌∙◌}
use Rattle.lgm_script.specs.Item.{bytes_of}
use Rattle.lgm_script.proofs.Items.{message, no_message, cut_twice}
use Rattle.lgm_script.proofs.grammar.item.message.Goals as goal

pub returns-in_default-evidence : goal.returns-in_default-evidence
returns-in_default-evidence c =
    let digits = c.in-Some-cut_last.digits.now in
    let whole =
    cut_twice c.args.text.now c.in-Some.front.now digits c.in-Some-cut_last.signer.now c.in-Some.output.now
    c.in-Some.ensures.some c.in-Some-cut_last.ensures.some in
    whole ∙ ap (message (bytes_of digits)) (sym c.in_default-evidence.ensures) ∙ no_message (bytes_of digits)

pub returns : goal.returns
returns c =
    let digits = c.in-Some-cut_last.digits.now in
    let whole =
    cut_twice c.args.text.now c.in-Some.front.now digits c.in-Some-cut_last.signer.now c.in-Some.output.now
    c.in-Some.ensures.some c.in-Some-cut_last.ensures.some in
    whole ∙ ap (message (bytes_of digits)) (sym c.in-Some-evidence.ensures)
