use Rattle.std.proofs.Common.{rules, ◌≡◌, ◌+◌, ◌-◌, ◌^◌, ◌∙◌, min, false, refl, sym, ap, subst, arith}
use Rattle.lgm_route.specs.inner.Searching.{cost, number_at}
use Rattle.lgm_route.specs.inner.SearchState.{SearchState, Adds, Extends, IsStopped, IsHalted}
use Rattle.lgm_route.specs.inner.Spending.{is_marked}
use Rattle.lgm_route.proofs.Searches.{extends-trans, settled_vain, settled_by}
use Rattle.lgm_route.proofs.SpentSearches.{adds-refl, adds-trans, adds_spent, extends_spent, paid-more, settled-stops, settled-pays, settled-halts}
use Rattle.lgm_route.proofs.SpentDives.{adds_marked, map_halt, settle-spends}
use Rattle.lgm_route.proofs.label_search.LabelSearch.settle.Goals as goal

pub mark-requires-clause-settled : goal.mark-requires-clause-settled
mark-requires-clause-settled g c =
    let s = c.args.self.now in
    let least = c.cost_lower_bound.ensures ∙ ap (λ l. cost (l.amount + l.penalty + number_at s.ground.low.fees l.node) l.hops) c.label-label.ensures.label in
    settled_vain s c.args.i c.label-label.ensures.search c.requires (omega (arith, least, c.bound.ensures.exact, c.if-bound-cost_lower_bound.true))

pub mark-requires-2-clause-settled : goal.mark-requires-2-clause-settled
mark-requires-2-clause-settled g c =
    settled_by c.args.self.now c.close.new.self c.args.i c.dominator-place.result.0 c.label-label.ensures.search
    c.is_done-2.ensures.search (extends-trans c.args.self.now c.spend.new.self c.close.new.self
    (subst (λ (t : SearchState). Extends c.args.self.now t) (sym c.spend.ensures.counted)
    (extends_spent c.args.self.now (min (c.args.self.now.spent + c.dominator-place.result.1) (2 ^ 64 - 1)) c.args.self.now.dived))
    c.in_ok-close.ensures.extends) c.requires
    c.dominator-place.ensures.dominates c.in_ok-close.ensures.here

pub returns-clause-extends : goal.returns-clause-extends
returns-clause-extends g c =
    extends-trans c.args.self.now c.close.new.self c.mark-2.new.self
    (extends-trans c.args.self.now c.spend.new.self c.close.new.self
    (subst (λ (t : SearchState). Extends c.args.self.now t) (sym c.spend.ensures.counted)
    (extends_spent c.args.self.now (min (c.args.self.now.spent + c.dominator-place.result.1) (2 ^ 64 - 1)) c.args.self.now.dived))
    c.in_ok-close.ensures.extends) c.in_ok-mark-2.ensures.extends

pub returns-in_err-close-clause-pruned : goal.returns-in_err-close-clause-pruned
returns-in_err-close-clause-pruned g c pruned =
    let s = c.args.self.now in
    let least = c.cost_lower_bound.ensures ∙ ap (λ l. cost (l.amount + l.penalty + number_at s.ground.low.fees l.node) l.hops) c.label-label.ensures.label in
    absurd (omega (arith, least, c.bound.ensures.exact, c.if-bound-cost_lower_bound.false, pruned))

pub returns-then-is_done-2-clause-pruned : goal.returns-then-is_done-2-clause-pruned
returns-then-is_done-2-clause-pruned g c pruned =
    let s = c.args.self.now in
    let least = c.cost_lower_bound.ensures ∙ ap (λ l. cost (l.amount + l.penalty + number_at s.ground.low.fees l.node) l.hops) c.label-label.ensures.label in
    absurd (omega (arith, least, c.bound.ensures.exact, c.if-bound-cost_lower_bound.false, pruned))

pub returns-in_err-mark-2-clause-pruned : goal.returns-in_err-mark-2-clause-pruned
returns-in_err-mark-2-clause-pruned g c pruned =
    let s = c.args.self.now in
    let least = c.cost_lower_bound.ensures ∙ ap (λ l. cost (l.amount + l.penalty + number_at s.ground.low.fees l.node) l.hops) c.label-label.ensures.label in
    absurd (omega (arith, least, c.bound.ensures.exact, c.if-bound-cost_lower_bound.false, pruned))

pub returns-clause-pruned : goal.returns-clause-pruned
returns-clause-pruned g c pruned =
    let s = c.args.self.now in
    let least = c.cost_lower_bound.ensures ∙ ap (λ l. cost (l.amount + l.penalty + number_at s.ground.low.fees l.node) l.hops) c.label-label.ensures.label in
    absurd (omega (arith, least, c.bound.ensures.exact, c.if-bound-cost_lower_bound.false, pruned))

pub returns-then-bound-cost_lower_bound-clause-pays : goal.returns-then-bound-cost_lower_bound-clause-pays
returns-then-bound-cost_lower_bound-clause-pays g c = λ paid.
    let marked = c.mark.new.self in
    let adds = adds_marked c.args.self.now marked c.mark.ensures.ground c.mark.ensures.labels c.mark.ensures.still c.mark.ensures.dived in
    paid-more c.args.self.now marked c.mark.ensures.ground adds.more c.mark.ensures.still (omega (arith, c.mark.ensures.dived))
    (omega (arith, c.mark.ensures.spent)) paid

pub returns-in_err-spend-clause-halted : goal.returns-in_err-spend-clause-halted
returns-in_err-spend-clause-halted g c =
    let s = c.args.self.now in
    let spent = c.spend.new.self in
    let place = c.dominator-place.result.0 in
    let compared = c.dominator-place.result.1 in
    let unmarked : is_marked s.done c.args.i ≡ false = sym c.is_done.ensures.done ∙ c.if-is_done.false in
    let adds = subst (λ (t : SearchState). Adds s t) (sym c.spend.ensures.counted) (adds_spent s (min (s.spent + compared) (2 ^ 64 - 1))) in
    map_halt c.from_residual-in_err-spend.result (IsStopped s spent) (IsHalted s spent) (search rules)
    (λ halt stopped. settled-halts s spent halt stopped.ground stopped.reached
    (λ paid. settled-stops s spent c.args.i place paid c.requires c.dominator-place.ensures.dominates.within unmarked adds
    (settle-spends s spent spent c.args.i place compared c.spend.ensures.counted c.dominator-place.ensures.compared adds.more (λ low. omega arith))))

pub returns-in_err-close-clause-halted : goal.returns-in_err-close-clause-halted
returns-in_err-close-clause-halted g c =
    let s = c.args.self.now in
    let spent = c.spend.new.self in
    let closed = c.close.new.self in
    let place = c.dominator-place.result.0 in
    let compared = c.dominator-place.result.1 in
    let unmarked : is_marked s.done c.args.i ≡ false = sym c.is_done.ensures.done ∙ c.if-is_done.false in
    let before = subst (λ (t : SearchState). Adds s t) (sym c.spend.ensures.counted) (adds_spent s (min (s.spent + compared) (2 ^ 64 - 1))) in
    let adds = adds-trans s spent closed before c.close.ensures.adds in
    map_halt c.from_residual-in_err-close.result (IsStopped spent closed) (IsHalted s closed) (search rules)
    (λ halt stopped. settled-halts s closed halt adds.ground stopped.reached
    (λ paid. settled-stops s closed c.args.i place paid c.requires c.dominator-place.ensures.dominates.within unmarked adds
    (settle-spends s spent closed c.args.i place compared c.spend.ensures.counted c.dominator-place.ensures.compared adds.more c.close.ensures.spends)))

pub returns-then-is_done-2-clause-pays : goal.returns-then-is_done-2-clause-pays
returns-then-is_done-2-clause-pays g c =
    let s = c.args.self.now in
    let spent = c.spend.new.self in
    let closed = c.close.new.self in
    let place = c.dominator-place.result.0 in
    let compared = c.dominator-place.result.1 in
    let unmarked : is_marked s.done c.args.i ≡ false = sym c.is_done.ensures.done ∙ c.if-is_done.false in
    let before = subst (λ (t : SearchState). Adds s t) (sym c.spend.ensures.counted) (adds_spent s (min (s.spent + compared) (2 ^ 64 - 1))) in
    let adds = adds-trans s spent closed before c.close.ensures.adds in
    settled-pays s closed closed c.args.i place c.requires c.dominator-place.ensures.dominates.within unmarked adds
    (settle-spends s spent closed c.args.i place compared c.spend.ensures.counted c.dominator-place.ensures.compared adds.more c.close.ensures.spends)
    (adds-refl closed) refl refl (sym c.is_done-2.ensures.done ∙ c.if-is_done-2.true) c.in_ok-close.ensures.here

pub returns-clause-pays : goal.returns-clause-pays
returns-clause-pays g c =
    let s = c.args.self.now in
    let spent = c.spend.new.self in
    let closed = c.close.new.self in
    let marked = c.mark-2.new.self in
    let place = c.dominator-place.result.0 in
    let compared = c.dominator-place.result.1 in
    let unmarked : is_marked s.done c.args.i ≡ false = sym c.is_done.ensures.done ∙ c.if-is_done.false in
    let before = subst (λ (t : SearchState). Adds s t) (sym c.spend.ensures.counted) (adds_spent s (min (s.spent + compared) (2 ^ 64 - 1))) in
    let adds = adds-trans s spent closed before c.close.ensures.adds in
    settled-pays s closed marked c.args.i place c.requires c.dominator-place.ensures.dominates.within unmarked adds
    (settle-spends s spent closed c.args.i place compared c.spend.ensures.counted c.dominator-place.ensures.compared adds.more c.close.ensures.spends)
    (adds_marked closed marked c.mark-2.ensures.ground c.mark-2.ensures.labels c.mark-2.ensures.still c.mark-2.ensures.dived)
    c.mark-2.ensures.labels c.mark-2.ensures.spent c.in_ok-mark-2.ensures.here (c.mark-2.ensures.still place c.in_ok-close.ensures.here)
