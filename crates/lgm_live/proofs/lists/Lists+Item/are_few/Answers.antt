use Rattle.std.proofs.Common.{◌≡◌, ◌+◌, ◌≤◌, List, length, take, ap, subst, sym, ◌∙◌, arith}
use Rattle.std.proofs.lemmas.List.Folds.{length-flat_map-take}
use Rattle.lgm_board.specs.declared.snapshot.TheConstants.{MAX_OPERATIONS}
use Rattle.lgm_script.specs.declared.grammar.item.Item.{Item}
use Rattle.lgm_live.specs.Batches.{items_of}
use Rattle.lgm_live.proofs.lists.Lists+Item.are_few.Goals as goal

pub returns-then-room-items : goal.returns-then-room-items
returns-then-room-items c =
    let batches = c.as_slice-batch-items.result.now in
    let same = c.as_slice-batch-items.ensures in
    let i = c.loop-batch.batch-index in
    let before =
    subst (λ (bs : List (List Item)). length (items_of (take i bs)) + c.loop-batch.room ≡ MAX_OPERATIONS)
    (sym same) c.loop-batch.invariant in
    let within = length-flat_map-take (λ (batch : List Item). batch) batches i c.batch-item.result c.loop-batch-test.true in (
      λ no. absurd cc,
      λ few. absurd (omega (
        arith,
        subst (λ (bs : List (List Item)). length (items_of bs) ≤ MAX_OPERATIONS) (sym same) few,
        before,
        within,
        ap length (c.as_slice.ensures ∙ c.batch-item.is),
        c.if-room-items.true,
      )),
    )
