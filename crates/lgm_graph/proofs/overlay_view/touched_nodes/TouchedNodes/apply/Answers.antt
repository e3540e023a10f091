use Rattle.std.proofs.Common.{◌≡◌, ◌∙◌, ◌<◌, suc, length, sym, ap, subst}
use Rattle.lgm_graph.specs.inner.Overlaying.{NodeOverrides, Touched, applied, overrides_at}
use Rattle.lgm_graph.specs.Places.{place_of}
use Rattle.lgm_graph.proofs.TouchedNodeLaws.{changed_placed, changed_own, was_own, changed_other}
use Rattle.lgm_graph.proofs.overlay_view.touched_nodes.TouchedNodes.apply.Goals as goal

pub invariant_of-self : goal.invariant_of-self
invariant_of-self c =
    let now : Touched = record { places = c.self.inside.places.items; nodes = c.self.inside.nodes.items } in
    let within = subst (λ (t : Touched). c.in_ok-index.index < length t.nodes) (sym c.self.view_is) c.in_ok-index.ensures.within in
    changed_placed now c.self.invariant c.in_ok-index.index c.index_mut.result.now c.apply.new.self within c.index_mut.ensures.value c.apply.ensures.node

pub invariant_of-self-2 : goal.invariant_of-self-2
invariant_of-self-2 c =
    let now : Touched = record { places = c.self.inside.places.items; nodes = c.self.inside.nodes.items } in
    let within = subst (λ (t : Touched). c.in_ok-index.index < length t.nodes) (sym c.self.view_is) c.in_ok-index.ensures.within in
    changed_placed now c.self.invariant c.in_ok-index.index c.index_mut.result.now c.apply.new.self within c.index_mut.ensures.value c.apply.ensures.node

pub returns-clause-own : goal.returns-clause-own
returns-clause-own c =
    let now : Touched = record { places = c.self.inside.places.items; nodes = c.self.inside.nodes.items } in
    let within = subst (λ (t : Touched). c.in_ok-index.index < length t.nodes) (sym c.self.view_is) c.in_ok-index.ensures.within in
    let there : place_of now c.args.number ≡ suc c.in_ok-index.index = ap (λ (t : Touched). place_of t c.args.number) c.self.view_is ∙ c.in_ok-index.ensures.there in
    let was = was_own now c.self.invariant c.in_ok-index.index c.index_mut.result.now c.apply.new.self within c.index_mut.ensures.value c.apply.ensures.node c.args.number there in
    let before = sym was ∙ ap (λ (t : Touched). overrides_at t c.args.number) c.self.view_is ∙ c.in_ok-index.ensures.more.same c.args.number in
    changed_own now c.self.invariant c.in_ok-index.index c.index_mut.result.now c.apply.new.self within c.index_mut.ensures.value c.apply.ensures.node c.args.number there
    ∙ c.in_ok-apply.ensures.applied ∙ ap (λ (s : NodeOverrides). applied s c.args.change) before

pub returns-clause-others : goal.returns-clause-others
returns-clause-others c = λ other apart.
    let now : Touched = record { places = c.self.inside.places.items; nodes = c.self.inside.nodes.items } in
    let within = subst (λ (t : Touched). c.in_ok-index.index < length t.nodes) (sym c.self.view_is) c.in_ok-index.ensures.within in
    let there : place_of now c.args.number ≡ suc c.in_ok-index.index = ap (λ (t : Touched). place_of t c.args.number) c.self.view_is ∙ c.in_ok-index.ensures.there in
    changed_other now c.self.invariant c.in_ok-index.index c.index_mut.result.now c.apply.new.self within c.index_mut.ensures.value c.apply.ensures.node c.args.number there other apart
    ∙ ap (λ (t : Touched). overrides_at t other) c.self.view_is ∙ c.in_ok-index.ensures.more.same other
