use Rattle.std.proofs.Common.{slice_index, ap, ◌∙◌, arith}
use Rattle.std.proofs.lemmas.Nat.{and_mask}
use Rattle.hex.specs.Hex.{lower_digits}
use Rattle.lgm_hex.proofs.Encoded.{byte_appended, none_left}
use Rattle.lgm_hex.proofs.encode.push_each.Goals as goal

pub loop-i-preserved : goal.loop-i-preserved
loop-i-preserved c =
    let byte = slice_index c.args.bytes.now c.loop-i.i in
    let low = c.digit-in-loop-i.ensures ∙ ap (slice_index lower_digits) (and_mask byte 4) in (
      byte_appended c.args.bytes.now c.args.text.now.items c.loop-i.text.items _ _ c.loop-i.i _ _ (omega arith)
          c.digit.ensures low c.push_reserved.ensures.items c.push_reserved-in-loop-i.ensures.items c.loop-i.invariant.0,
      omega arith,
    )

pub returns : goal.returns
returns c = none_left c.args.bytes.now c.args.text.now.items c.loop-i.text.items c.loop-i.i (omega arith) c.loop-i.invariant.0
