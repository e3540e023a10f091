use Rattle.std.proofs.Common.{◌≡◌, ◌++◌, ◌+◌, ◌-◌, ◌*◌, take, length, sym, ap, ◌∙◌, arith}
use Rattle.std.proofs.lemmas.List.{append-nil, take_all}
use Rattle.hex.specs.Hex.{encode_with, encode_lower}
use Rattle.lgm_hex.proofs.Encoded.{block_appended, text_cut}
use Rattle.lgm_hex.proofs.encode.push_blocks.Goals as goal

pub loop-i-init : goal.loop-i-init
unfolding encode_with
loop-i-init c = (sym (append-nil c.args.text.now.items), omega arith, omega arith)

pub loop-i-preserved : goal.loop-i-preserved
loop-i-preserved c =
    let next : 32 * c.loop-i.i + 32 ≡ 32 * (c.loop-i.i + 1) = omega arith in (
      block_appended c.args.text.now.items c.loop-i.text.items _ c.args.bytes.now (32 * c.loop-i.i) c.loop-i.invariant.0
          c.push_block.ensures.items
          ∙ ap (λ n. c.args.text.now.items ++ encode_lower (take n c.args.bytes.now)) next,
      omega arith,
      omega arith,
    )

pub returns : goal.returns
returns c =
    let before = c.args.text.now.items in
    let bytes = c.args.bytes.now in
    let last = length bytes - 32 in
    let start : c.len-start.result ≡ length before = c.len-start.ensures ∙ c.args.text.now.ok.0 in
    let cut = c.truncate.ensures.items ∙ ap (λ n. take (n + 2 * last) c.loop-i.text.items) start
    ∙ text_cut before c.loop-i.text.items bytes (32 * c.loop-i.i) last (omega arith) c.loop-i.invariant.0 in
    block_appended before c.truncate.new.self.items _ bytes last cut c.push_block-2.ensures.items
    ∙ ap (λ front. before ++ encode_lower front) (take_all (last + 32) bytes (omega arith))
