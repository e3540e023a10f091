use Rattle.std.proofs.Common.{arith, ◌≡◌, ◌<◌, take, length, ◌++◌, ◌∷◌, [], ◌+◌}
use Rattle.std.specs.Fn.{FnReturnsAt}
use Rattle.std.proofs.lemmas.List.{take_more}
use Rattle.std.proofs.lemmas.Slice.Zip.{all_zipped_more}
use Rattle.lgm_par.proofs.pieces.map_piece.Goals as goal

pub answer_at-requires : goal.answer_at-requires
answer_at-requires g c = λ p e. let is = c.item-item.is in c.requires c.loop-item.item-index p (omega arith) (cc)

pub loop-item-preserved : goal.loop-item-preserved
loop-item-preserved g c =
    let xs = c.args.items.now in
    let i = c.loop-item.item-index in
    let x = c.item-item.result in
    let lt : i < length xs = omega arith in
    let is = c.item-item.is in
    let front : take (i + 1) xs ≡ take i xs ++ x ∷ [] = let e = take_more xs i x lt in cc in
    rw (front, c.in_ok-push.ensures.items) (all_zipped_more (FnReturnsAt g.F.Fn c.args.f.now) (take i xs)
    c.loop-item.answers.items x c.answer_at.result c.loop-item.invariant c.answer_at.ensures)
