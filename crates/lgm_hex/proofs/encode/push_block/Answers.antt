use Rattle.std.proofs.Common.{◌++◌, length, take, ap, ◌∙◌, arith}
use Rattle.std.proofs.lemmas.List.{take_at}
use Rattle.lgm_hex.proofs.Encoded.{block_encoded}
use Rattle.lgm_hex.proofs.encode.push_block.Goals as goal

pub returns-clause-items : goal.returns-clause-items
returns-clause-items c =
    let before = c.args.text.now.items in
    let longer = c.lengthen.new.text in
    let digits = c.pairs_of-digits.result in
    let start = c.len-start.ensures ∙ c.args.text.now.ok.0 in
    let value = c.as_mut_slice.ensures.value in
    let len = c.as_mut_slice.ensures.len in
    let same = c.put_at_end.auto.out in
    let encoded =
    block_encoded c.args.bytes.now digits c.args.at c.requires.within c.pairs_of-digits.ensures.len c.pairs_of-digits.ensures.lanes in
    take_at c.put_at_end.new.out _ longer.len (omega (arith, len, same))
    ∙ c.put_at_end.ensures
    ∙ ap (λ n. take n c.as_mut_slice.result.now ++ digits) start
    ∙ ap (λ text. take (length before) text ++ digits) value
    ∙ ap (λ text. text ++ digits) c.lengthen.ensures.front
    ∙ ap (λ text. before ++ text) encoded
