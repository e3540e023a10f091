use Rattle.std.proofs.Common.{refl, ℕ, ◌<◌, ◌≤◌, List, [], ◌∷◌, ◌++◌, length, length-append, take, subst, sym, ap, ◌∙◌, arith}
use Rattle.std.specs.Prelude.{All}
use Rattle.std.proofs.lemmas.List.Elements.{All-push, All-weaker}
use Rattle.std.proofs.lemmas.List.Folds.{length-flat_map-take}
use Rattle.lgm_store.specs.History.{fold}
use Rattle.lgm_script.specs.declared.grammar.item.Item.{Item}
use Rattle.lgm_live.specs.Batches.{items_of, ends_of}
use Rattle.lgm_live.specs.inner.WriterResult.{IsWritten}
use Rattle.lgm_live.proofs.Items.{items_more, ends_more}
use Rattle.lgm_live.proofs.writer.publish_batches.Goals as goal

pub loop-batch-init : goal.loop-batch-init
loop-batch-init g c =
    let made = c.new-written.ensures in
    record {
      written = made.written c.args.chain.now;
      map = c.in_ok-map.ensures ∙ ap fold (sym made.none);
      ends = made.ends;
      within = subst (All (λ end. end ≤ length c.new-written.result.ops.items)) (sym made.ends) (λ k d below. absurd (omega (arith, below)));
      few = omega (arith, ap length made.none);
      board = refl;
      published = c.requires.pen.0 ∙ sym made.none;
      pending = c.requires.pen.1;
    }

pub publish_batch-requires-clause-few : goal.publish_batch-requires-clause-few
publish_batch-requires-clause-few g c κs within =
    let batches = c.args.batches.now in
    let i = c.loop-batch.batch-index in
    let below : i < length batches = c.loop-batch-test.true in
    omega (
      arith,
      c.requires.few,
      c.loop-batch.invariant.few,
      length-flat_map-take (λ (b : List Item). b) batches i c.batch-item.result below,
      ap length (c.as_slice.ensures ∙ c.batch-item.is),
    )

pub loop-batch-preserved : goal.loop-batch-preserved
loop-batch-preserved g c =
    let batches = c.args.batches.now in
    let chain = c.args.chain.now in
    let i = c.loop-batch.batch-index in
    let before = c.loop-batch.invariant in
    let after = c.in_ok-publish_batch.ensures in
    let written = c.publish_batch.new.self in
    let below : i < length batches = c.loop-batch-test.true in
    let more =
    ap (λ (b : List Item). items_of (take i batches) ++ b) c.as_slice.ensures
    ∙ sym (items_more batches i c.batch-item.result below c.batch-item.is) in
    let done = subst (λ (items : List Item). IsWritten chain items written) more (after.written (items_of (take i batches)) before.written) in
    record {
      written = done;
      map = after.map;
      ends = after.ends ∙ ap (λ (ends : List ℕ). ends ++ length written.ops.items ∷ []) before.ends
          ∙ ap (λ n. ends_of chain (take i batches) ++ n ∷ []) (ap length done.ops)
          ∙ sym (ends_more chain batches i c.batch-item.result below c.batch-item.is);
      within = subst (All (λ end. end ≤ length written.ops.items)) (sym after.ends)
          (All-push (λ end. end ≤ length written.ops.items) c.loop-batch.written.ends.items (length written.ops.items)
          (All-weaker (λ end. end ≤ length c.loop-batch.written.ops.items)
          (λ end. end ≤ length written.ops.items) (λ end le. omega (arith, le, after.grows.0))
          c.loop-batch.written.ends.items before.within)
          (omega arith));
      few = omega (arith, after.grows.1, before.few, ap length more, length-append (items_of (take i batches)) c.as_slice.result.now);
      board = after.board ∙ before.board;
      published = after.published.0;
      pending = after.published.1;
    }
