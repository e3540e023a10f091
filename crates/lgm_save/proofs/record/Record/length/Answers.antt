use Rattle.std.proofs.Common.{arith, ap, ◌∙◌, ◌≡◌, ◌+◌, length}
use Rattle.lgm_save.specs.Records.{framed}
use Rattle.lgm_save.proofs.RecordLaws.{ban_length, channel_length, update_length, sums}
use Rattle.lgm_save.proofs.record.Record.length.Goals as goal

pub returns-in-Ban : goal.returns-in-Ban
returns-in-Ban c = ban_length c.args.self.now c.in-Ban.field-0 c.in-Ban.is c.requires

pub returns-in_ok-framed_length-in-Channel : goal.returns-in_ok-framed_length-in-Channel
returns-in_ok-framed_length-in-Channel c =
    let whole = channel_length c.args.self.now c.in-Channel.field-0 c.in-Channel.message c.in-Channel.is in
    let part : c.in_ok-framed_length-in-Channel.field-0 ≡ length (framed c.in-Channel.message) =
    c.in_ok-framed_length-in-Channel.ensures ∙ ap (λ m. length (framed m)) c.as_slice.ensures in
    sums _ c.checked_add.result (c.in_ok-framed_length-in-Channel.field-0 + 9) _ c.checked_add.ensures (omega arith)

pub returns-in_ok-framed_length-in-Update : goal.returns-in_ok-framed_length-in-Update
returns-in_ok-framed_length-in-Update c =
    let whole = update_length c.args.self.now c.in-Update.message c.in-Update.is in
    let part : c.in_ok-framed_length-in-Update.field-0 ≡ length (framed c.in-Update.message) =
    c.in_ok-framed_length-in-Update.ensures ∙ ap (λ m. length (framed m)) c.as_slice-in-Update.ensures in
    sums _ c.checked_add-in-Update.result (c.in_ok-framed_length-in-Update.field-0 + 1) _ c.checked_add-in-Update.ensures (omega arith)
