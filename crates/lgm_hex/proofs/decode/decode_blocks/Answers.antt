use Rattle.std.proofs.Common.{◌*◌, arith, inl, inr}
use Rattle.std.proofs.lemmas.Bool.{cases_lt}
use Rattle.lgm_hex.proofs.Decoded.{all_small, both_valid, all_decoded}
use Rattle.lgm_hex.proofs.decode.decode_blocks.Goals as goal

pub loop-i-init : goal.loop-i-init
loop-i-init c valid k (inl below) within = absurd (omega (arith, below))
loop-i-init c valid k (inr last) within = c.decode_block-seen.ensures.bytes valid k (inl (omega (arith, last, within), omega (arith, last, within)))

pub loop-i-preserved : goal.loop-i-preserved
loop-i-preserved c valid k h within =
    let both = both_valid c.loop-i.seen c.decode_block-seen-in-loop-i.result c.loop-i.auto.seen.0 c.decode_block-seen-in-loop-i.ensures.len valid in
    elim (cases_lt k (32 * c.loop-i.i)) [
      | inl before ↦ c.decode_block-seen-in-loop-i.ensures.bytes both.1 k (inr (c.loop-i.invariant both.0 k (inl before) (omega arith)))
      | inr after ↦ elim h [
        | inl below ↦ c.decode_block-seen-in-loop-i.ensures.bytes both.1 k (inl (after, omega (arith, below)))
        | inr last ↦ c.decode_block-seen-in-loop-i.ensures.bytes both.1 k (inr (c.loop-i.invariant both.0 k (inr (omega (arith, last))) (omega arith)))
      ]
    ]

pub returns : goal.returns
returns c good =
    let valid = all_small c.loop-i.seen c.loop-i.auto.seen.0 good in
    all_decoded c.args.digits.now c.loop-i.out (omega arith) (λ k within. elim (cases_lt k (32 * c.loop-i.i)) [
      | inl below ↦ c.loop-i.invariant valid k (inl below) within
      | inr above ↦ c.loop-i.invariant valid k (inr (omega (arith, above, within))) within
    ])
