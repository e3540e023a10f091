use Rattle.std.proofs.Common.{◌≡◌, ℕ, ◌*◌, take, drop, length, ap, ◌∙◌, arith}
use Rattle.std.specs.Prelude.{min}
use Rattle.std.proofs.lemmas.List.{take_min}
use Rattle.lgm_query.proofs.range_reply.piece_at.Goals as goal

pub returns : goal.returns
returns g c =
    let count : c.min.result ≡ min 4000 (length c.split_at.result.1.now) = omega (arith, c.min.ensures) in
    let start : c.args.place * 4000 ≡ 4000 * c.args.place = omega arith in
    ap (λ (n : ℕ). take n c.split_at.result.1.now) count ∙ take_min 4000 c.split_at.result.1.now
    ∙ ap (take 4000) (c.split_at.ensures.back ∙ ap (λ (n : ℕ). drop n c.args.items.now) start)
