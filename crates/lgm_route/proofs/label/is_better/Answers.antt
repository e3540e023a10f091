use Rattle.std.proofs.Common.{◌≡◌, ◌<◌, ◌≤◌, ℕ, nat_lt, true, false, Some, None, Option, sym, subst, inl, inr, arith}
use Rattle.std.specs.Prelude.{if◌then◌else◌}
use Rattle.std.proofs.lemmas.Bool.Decides.{nat_tests}
use Rattle.lgm_route.specs.declared.label.Label.{Label}
use Rattle.lgm_route.specs.inner.Numbered.{asked}
use Rattle.lgm_route.specs.inner.Searching.{IsBetter}
use Rattle.lgm_route.proofs.Steps.{better_first, better_none, better_choice, better_by}
use Rattle.lgm_route.proofs.label.is_better.Goals as goal

tested : (a b : ℕ) → nat_lt a b ≡ true → a < b
tested a b e = grind (arith, nat_tests)

failed : (a b : ℕ) → nat_lt a b ≡ false → b ≤ a
failed a b e = grind (arith, nat_tests)

pub returns-in-None : goal.returns-in-None
returns-in-None g c =
    let graph = g.V.RoutingGraph.graph c.args.view.now in
    let request = asked (g.P.Penalties.terms c.args.request.now.penalties) c.args.request.now in
    let labels = c.args.labels.now in
    let upper_bound = c.args.upper_bound in
    let new = c.args.new.now in
    let cost = c.cost.ensures.exact in
    subst (λ (o : Option Label). IsBetter graph request labels upper_bound o new (if nat_lt c.cost.result upper_bound then Some new else o)) (sym c.in-None.is)
    (better_choice graph request labels upper_bound c.requires.few None new (nat_lt c.cost.result upper_bound)
    (λ e. better_first graph request labels upper_bound c.requires.few new c.requires.new (omega (arith, cost, tested c.cost.result upper_bound e)))
    (λ e. better_none graph request labels upper_bound c.requires.few new (omega (arith, cost, failed c.cost.result upper_bound e))))

pub returns-then-cost-least : goal.returns-then-cost-least
returns-then-cost-least g c =
    let cost = c.cost-cost.ensures.exact in
    let least = c.cost-least.ensures.exact in
    better_by (g.V.RoutingGraph.graph c.args.view.now) (asked (g.P.Penalties.terms c.args.request.now.penalties) c.args.request.now)
    c.args.labels.now c.args.upper_bound c.requires.few c.args.best.now c.in-Some.best
    c.args.new.now (nat_lt c.cost-cost.result c.cost-least.result) c.in-Some.is c.requires.found c.requires.new
    (λ e. inl (omega (arith, cost, least, tested c.cost-cost.result c.cost-least.result e)))
    (λ e. inl (omega (arith, cost, least, c.if-cost-least.true, failed c.cost-cost.result c.cost-least.result e)))

pub returns-then-new-best : goal.returns-then-new-best
returns-then-new-best g c =
    let cost = c.cost-cost.ensures.exact in
    let least = c.cost-least.ensures.exact in
    let new = c.args.new.now in
    let best = c.in-Some.best in
    better_by (g.V.RoutingGraph.graph c.args.view.now) (asked (g.P.Penalties.terms c.args.request.now.penalties) c.args.request.now)
    c.args.labels.now c.args.upper_bound c.requires.few c.args.best.now c.in-Some.best
    c.args.new.now (nat_lt new.hops best.hops) c.in-Some.is c.requires.found c.requires.new
    (λ e. inr (inl (omega (arith, cost, least, c.if-cost-least.false), tested new.hops best.hops e)))
    (λ e. inr (inl (omega (arith, cost, least, c.if-cost-least.false), omega (arith, c.if-new-best.true, failed new.hops best.hops e))))

pub returns-else-new-best : goal.returns-else-new-best
returns-else-new-best g c =
    let cost = c.cost-cost.ensures.exact in
    let least = c.cost-least.ensures.exact in
    better_by (g.V.RoutingGraph.graph c.args.view.now) (asked (g.P.Penalties.terms c.args.request.now.penalties) c.args.request.now)
    c.args.labels.now c.args.upper_bound c.requires.few c.args.best.now c.in-Some.best
    c.args.new.now c.ids_first.result c.in-Some.is c.requires.found c.requires.new
    (λ e. inr (inr (omega (arith, cost, least, c.if-cost-least.false), c.if-new-best.false, c.ids_first.ensures.first e)))
    (λ e. inr (inr (omega (arith, cost, least, c.if-cost-least.false), sym c.if-new-best.false, c.ids_first.ensures.after e)))
