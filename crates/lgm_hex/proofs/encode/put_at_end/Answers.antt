use Rattle.std.proofs.Common.{◌+◌, sym, ◌∙◌, arith}
use Rattle.std.proofs.lemmas.List.{take_all}
use Rattle.std.proofs.lemmas.Simd.{length-put_chunk, take_more_put_chunk}
use lib.Lanes.{put_chunk}
use Rattle.lgm_hex.proofs.encode.put_at_end.Goals as goal

pub returns : goal.returns
returns c =
    let at = c.args.at in
    let out = c.args.out.now in
    let digits = c.args.digits in
    let long = c.fits-digits.0 in
    let same = length-put_chunk at out digits in
    sym (take_all (at + 64) (put_chunk at out digits) (omega (arith, same)))
    ∙ take_more_put_chunk at out digits (at + 64) (omega (arith, long)) (omega arith)
