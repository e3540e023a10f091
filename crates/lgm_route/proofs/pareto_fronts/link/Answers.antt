use Rattle.std.proofs.Common.{◌≡◌, ◌<◌, ◌-◌, ◌^◌, ◌∙◌, ◌∷◌, ◌++◌, [], length, get_or, set, ap, sym, subst, arith, length-set}
use Rattle.std.proofs.lemmas.List.{get_or_default}
use Rattle.lgm_route.specs.inner.Searching.{label_at}
use Rattle.lgm_route.specs.inner.Fronts.{next_in, IsLinked}
use Rattle.lgm_route.proofs.NewFrontLaws.{new_at, next-set_same, linked_first, linked_over}
use Rattle.lgm_route.proofs.Labels.{label_left}
use Rattle.lgm_route.proofs.pareto_fronts.link.Goals as goal
use Rattle.lgm_route.proofs.pareto_fronts.link.Goals.{then-dominates, else-dominates}

pub loop-step-init : goal.loop-step-init
loop-step-init g c =
    let labels = c.args.labels.now in
    record {
      linked = linked_first (g.V.RoutingGraph.graph c.args.view.now) labels c.args.new.now c.args.start c.args.following.now c.requires.room;
      within = omega arith;
      at = ap (λ l. l.node) (new_at (g.V.RoutingGraph.graph c.args.view.now) labels c.args.new.now c.args.start);
      next = next-set_same c.args.following.now (length labels) c.args.start c.requires.room;
    }

pub loop-step-preserved : goal.loop-step-preserved
loop-step-preserved g c =
    let graph = g.V.RoutingGraph.graph c.args.view.now in
    let labels = c.args.labels.now in
    let new = c.args.new.now in
    let start = c.args.start in
    let initial = c.args.following.now in
    let before = c.loop-step.following in
    let last = c.loop-step.last in
    let place = c.loop-step.place in
    let is = c.loop-step.invariant in
    let within : place < length labels = c.if-labels-here.false in
    let long : length before ≡ length initial = c.loop-step.auto.following ∙ length-set initial (length labels) start in
    let room : last < length before = omega (arith, is.within, c.requires.room, long) in
    let behind : next_in before place ≡ get_or before place 0 =
    get_or_default before place (2 ^ 32 - 1) 0 (omega (arith, within, c.requires.room, long)) in
    let more = labels ++ new ∷ [] in
    elim c.if-dominates.branch [
      | then-dominates w ↦ record {
        linked = subst (λ f. IsLinked graph labels new start initial f) (sym w.following-is)
            (subst (λ v. IsLinked graph labels new start initial (set before last v)) behind
            (linked_over graph labels new start initial before last place is.linked room is.at is.next within
            (c.requires.spelled place within) (c.dominates.ensures.does w.if-dominates.true)));
        within = omega (arith, w.last-is, is.within);
        at = subst (λ n. (label_at more n).node ≡ new.node) (sym w.last-is) is.at;
        next = ap (λ f. next_in f c.if-dominates.last) w.following-is ∙ ap (next_in (set before last (get_or before place 0))) w.last-is
            ∙ next-set_same before last (get_or before place 0) room;
      }
      | else-dominates w ↦ record {
        linked = subst (λ f. IsLinked graph labels new start initial f) (sym w.following-is) is.linked;
        within = omega (arith, w.last-is, within);
        at = subst (λ n. (label_at more n).node ≡ new.node) (sym w.last-is)
            (ap (λ l. l.node) (label_left labels (new ∷ []) place within) ∙ c.if-labels-here-2.false);
        next = ap (λ f. next_in f c.if-dominates.last) w.following-is ∙ ap (next_in before) w.last-is ∙ behind;
      }
    ]
