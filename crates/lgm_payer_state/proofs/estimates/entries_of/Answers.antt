use Rattle.std.proofs.Common.{◌<◌, ◌∙◌, sym, ap, [], ◌∷◌, ◌++◌, length, take, arith}
use Rattle.std.proofs.lemmas.List.{take_more}
use Rattle.std.proofs.lemmas.Option.{get_or_from_slice_get}
use Rattle.lgm_graph.specs.declared.estimate.EdgeKey.{EdgeKey}
use Rattle.lgm_graph.specs.declared.estimate.Estimate.{Estimate}
use Rattle.lgm_graph.specs.Estimates.{Entries}
use Rattle.lgm_payer_state.proofs.estimates.entries_of.Goals as goal

pub loop-place-preserved : goal.loop-place-preserved
loop-place-preserved c =
    let xs = c.args.learnt.now in
    let i = c.loop-place.place in
    let x = c.in-Some.entry in
    let there = sym c.at.ensures ∙ c.in-Some.is in
    let lt : i < length xs = omega arith in
    let added = c.in_ok-push.ensures in
    added ∙ ap (λ (s : Entries). s ++ x ∷ []) c.loop-place.invariant
    ∙ ap (λ (y : EdgeKey × Estimate). take i xs ++ y ∷ []) (sym (get_or_from_slice_get xs i x x there)) ∙ sym (take_more xs i x lt)
