use Rattle.std.proofs.Common.{◌≡◌, ◌∙◌, ◌++◌, ◌∷◌, [], ◌+◌, Option, Some, None, List, take, option_to_list, refl, sym, ap, append_assoc}
use Rattle.std.specs.List.{filter_map}
use Rattle.std.proofs.lemmas.List.{take_more}
use Rattle.std.proofs.lemmas.List.Elements.{filter_map-append}
use Rattle.lgm_graph.specs.declared.edge.Edge.{Edge}
use Rattle.lgm_graph.specs.inner.Overlaying.{overlaid_by}
use Rattle.lgm_graph.proofs.overlay_view.lists.overlaid.Goals as goal

one_more : (h : Edge → Option Edge) (edge : Edge) → filter_map h (edge ∷ []) ≡ option_to_list (h edge)
one_more h edge = by (h edge) refl
  where
    by : (o : Option Edge) → h edge ≡ o → filter_map h (edge ∷ []) ≡ option_to_list (h edge)
    by None is = rw is refl
    by (Some e) is = rw is refl

pub loop-edge-2-preserved : goal.loop-edge-2-preserved
loop-edge-2-preserved c =
    let overlaid = overlaid_by c.args.touched.now in
    let list = c.args.list.now in
    let extra = c.args.extra.now in
    let i = c.loop-edge-2.edge-index in
    let edge = c.edge-item-in-loop-edge-2.result in
    let next : filter_map overlaid (take i list) ++ option_to_list (overlaid edge) ≡ filter_map overlaid (take (i + 1) list) =
    ap (λ (l : List Edge). filter_map overlaid (take i list) ++ l) (sym (one_more overlaid edge)) ∙ sym (filter_map-append overlaid (take i list) (edge ∷ []))
    ∙ ap (filter_map overlaid) (sym (take_more list i edge c.loop-edge-2-test.true ∙ ap (λ (e : Edge). take i list ++ e ∷ []) (sym c.edge-item-in-loop-edge-2.is))) in
    c.in_ok-push-2.ensures ∙ rw (c.loop-edge-2.invariant, c.overlaid.ensures) refl
    ∙ append_assoc extra (filter_map overlaid (take i list)) (option_to_list (overlaid edge)) ∙ ap (λ (l : List Edge). extra ++ l) next
