use Rattle.std.proofs.Common.{◌≡◌, ◌∙◌, ◌++◌, ◌∷◌, [], ℕ, true, false, List, sym, ap, subst}
use Rattle.lgm_graph.specs.declared.edge.Edge.{Edge}
use Rattle.lgm_graph.specs.Edges.{PointEdge}
use Rattle.lgm_graph.specs.Graph.{number_of, numbered_as, numbered_in}
use Rattle.lgm_graph.specs.Overlay.{extra_edge, is_named, limited}
use Rattle.lgm_graph.specs.inner.Overlaying.{Overrides, AreApplied, overrides_of, overrides_at, is_extra_in, most_in}
use Rattle.lgm_graph.proofs.OverrideLaws.{slice_number, leaving_more, entering_more, named_applied, extra_there, extra_new}
use Rattle.lgm_graph.proofs.overlay_view.touched_nodes.TouchedNodes.apply_extra.Goals as goal

abbrev with_max : Edge → ℕ → Edge
with_max edge max = record edge { max = max }

pub returns-then-names-clause-applied : goal.returns-then-names-clause-applied
returns-then-names-clause-applied c = λ overlay all.
    let edge = extra_edge c.args.extra.now in
    let named : is_named overlay.extra edge ≡ true =
    sym (named_applied overlay edge c.args.points.now c.args.self.now all c.requires.joined.0)
    ∙ ap (λ n. is_extra_in (overrides_at c.args.self.now n).terms edge.scid) (sym c.number_of-from.ensures.number) ∙ sym c.names.ensures ∙ c.if-names.true in
    subst (λ (extra : List PointEdge).
    AreApplied (record { silent = overlay.silent; limits = overlay.limits; leaving = extra; entering = extra }) c.args.points.now c.args.self.now)
    (sym (extra_there overlay edge named)) all

pub returns-clause-applied : goal.returns-clause-applied
returns-clause-applied c = λ overlay all.
    let points = c.args.points.now in
    let edge = extra_edge c.args.extra.now in
    let from = c.number_of-from.ensures.number in
    let new : is_named overlay.extra edge ≡ false =
    sym (named_applied overlay edge points c.args.self.now all c.requires.joined.0)
    ∙ ap (λ n. is_extra_in (overrides_at c.args.self.now n).terms edge.scid) (sym from) ∙ sym c.names.ensures ∙ c.if-names.false in
    let own = limited overlay.limits edge in
    let local = overrides_of overlay in
    let numbered : c.numbered-edge.result ≡ numbered_in points edge =
    c.numbered-edge.ensures ∙ ap (λ n. numbered_as edge n c.number_of-to.result) from
    ∙ ap (numbered_as edge (number_of points edge.from)) c.number_of-to.ensures.number in
    let most : c.most.result ≡ own.max =
    c.most.ensures ∙ ap (λ (e : Edge). most_in (overrides_at c.args.self.now e.from).terms e.scid e.max) numbered
    ∙ (all (number_of points edge.from) edge.from (slice_number points edge.from c.requires.joined.0)).limits edge.scid edge.max in
    let pushed = with_max c.numbered-edge.result c.most.result in
    let pushed_is : pushed ≡ numbered_in points own = ap (λ e. with_max e c.most.result) numbered ∙ ap (with_max (numbered_in points edge)) most in
    let left : Overrides = record local { leaving = local.leaving ++ own ∷ [] } in
    let one : AreApplied left points c.apply_at.new.self =
    leaving_more points local c.args.self.now c.apply_at.new.self all own pushed pushed_is
    c.in_ok-apply_at.ensures.applied in
    let two : AreApplied (record left { entering = local.entering ++ own ∷ [] }) points c.apply_at-2.new.self =
    entering_more points left c.apply_at.new.self c.apply_at-2.new.self one own pushed pushed_is
    c.in_ok-apply_at-2.ensures.applied in
    subst (λ (extra : List PointEdge).
    AreApplied (record { silent = overlay.silent; limits = overlay.limits; leaving = extra; entering = extra }) points c.apply_at-2.new.self)
    (sym (extra_new overlay edge new)) two
