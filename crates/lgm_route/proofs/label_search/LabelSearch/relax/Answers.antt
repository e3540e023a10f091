use Rattle.std.proofs.Common.{◌≡◌, ◌+◌, ◌-◌, ◌^◌, ◌<◌, ◌≤◌, ◌∙◌, ℕ, length, min, sym, ap, subst, arith}
use Rattle.std.proofs.Math.Nat.{min-le_left}
use Rattle.std.proofs.lemmas.List.{get_or_default}
use Rattle.lgm_graph.specs.Graph.{edges_into}
use Rattle.lgm_route.specs.inner.Searching.{label_at, edge_at, no_edge}
use Rattle.lgm_route.specs.inner.Spending.{looks_from}
use Rattle.lgm_route.specs.inner.SearchState.{SearchState, Adds, Extends, IsRelaxedOn}
use Rattle.lgm_route.proofs.Searches.{extends-trans, bound_falls, passed_more, left_all}
use Rattle.lgm_route.proofs.SpendingLaws.{has_more-refl, longer}
use Rattle.lgm_route.proofs.SpentSearches.{adds-trans, adds_spent, extends_spent, looked_next, relaxed_spends}
use Rattle.lgm_route.proofs.label_search.LabelSearch.relax.Goals as goal

pub returns-in_err-spend-clause-spends : goal.returns-in_err-spend-clause-spends
returns-in_err-spend-clause-spends g c =
    let first = c.args.self.now in
    let run = c.edges_into-edges.result.now in
    let same : run ≡ edges_into first.ground.graph (label_at first.labels c.args.i).node =
    c.edges_into-edges.ensures ∙ ap (λ l. edges_into first.ground.graph l.node) c.label-label.ensures.label in
    subst (λ (t : SearchState). length t.labels < 2 ^ 32 → t.spent ≤ first.spent + looks_from first.ground.graph t.labels c.args.i) (sym c.spend.ensures.counted)
    (λ low. relaxed_spends first.ground.graph first.labels first.labels c.args.i 0 first.spent (min (first.spent + length run) (2 ^ 64 - 1)) run
    (has_more-refl first.labels) c.requires same (omega arith) (omega (arith, min-le_left (first.spent + length run) (2 ^ 64 - 1))))

pub loop-at-init : goal.loop-at-init
loop-at-init g c =
    let first = c.args.self.now in
    let run = c.edges_into-edges.result.now in
    let spent = min (first.spent + length run) (2 ^ 64 - 1) in
    let counted = c.spend.ensures.counted in
    record {
      extends = subst (λ (t : SearchState). Extends first t) (sym counted) (extends_spent first spent first.dived);
      passed = λ j to. absurd (omega arith);
      adds = subst (λ (t : SearchState). Adds first t) (sym counted) (adds_spent first spent);
      spends = λ low. omega (arith, ap (λ (t : SearchState). t.spent) counted, min-le_left (first.spent + length run) (2 ^ 64 - 1));
      counted = omega (arith, ap (λ (t : SearchState). t.spent) counted);
    }

pub loop-at-preserved : goal.loop-at-preserved
loop-at-preserved g c =
    let first = c.args.self.now in
    let before = c.loop-at.self in
    let after = c.relax_edge.new.self in
    let run = c.edges_into-edges.result.now in
    let same : c.index-edges-at.result ≡ edge_at run c.loop-at.at =
    c.index-edges-at.is
    ∙ get_or_default run c.loop-at.at c.index-edges-at.result no_edge c.loop-at-test.true in
    let adds = c.relax_edge.ensures.adds in
    record {
      extends = extends-trans first before after c.loop-at.invariant.extends c.in_ok-relax_edge.ensures.extends;
      passed =
          passed_more first before after (edge_at run) c.args.i c.loop-at.at c.requires
          c.loop-at.invariant.extends c.in_ok-relax_edge.ensures.extends c.loop-at.invariant.passed
          (subst (λ edge. IsRelaxedOn before c.args.i edge after) same c.in_ok-relax_edge.ensures.passed);
      adds = adds-trans first before after c.loop-at.invariant.adds adds;
      spends = λ low. looked_next before.labels after.labels run c.loop-at.at (first.spent + length run) before.spent after.spent c.index-edges-at.result
          adds.more same (c.loop-at.invariant.spends (omega (arith, low, longer before.labels after.labels adds.more))) (c.relax_edge.ensures.spends low);
      counted = omega (arith, c.loop-at.invariant.counted, c.relax_edge.ensures.grows);
    }

pub returns-in_err-relax_edge-clause-adds : goal.returns-in_err-relax_edge-clause-adds
returns-in_err-relax_edge-clause-adds g c =
    adds-trans c.args.self.now c.loop-at.self c.relax_edge.new.self c.loop-at.invariant.adds c.relax_edge.ensures.adds

pub returns-in_err-relax_edge-clause-spends : goal.returns-in_err-relax_edge-clause-spends
returns-in_err-relax_edge-clause-spends g c = λ low.
    let first = c.args.self.now in
    let before = c.loop-at.self in
    let after = c.relax_edge.new.self in
    let run = c.edges_into-edges.result.now in
    let is : run ≡ edges_into first.ground.graph (label_at first.labels c.args.i).node =
    c.edges_into-edges.ensures ∙ ap (λ l. edges_into first.ground.graph l.node) c.label-label.ensures.label in
    let same : c.index-edges-at.result ≡ edge_at run c.loop-at.at =
    c.index-edges-at.is
    ∙ get_or_default run c.loop-at.at c.index-edges-at.result no_edge c.loop-at-test.true in
    let adds = c.relax_edge.ensures.adds in
    relaxed_spends first.ground.graph first.labels after.labels c.args.i (c.loop-at.at + 1) first.spent after.spent run
    (adds-trans first before after c.loop-at.invariant.adds adds).more c.requires is (omega (arith, c.loop-at-test.true))
    (looked_next before.labels after.labels run c.loop-at.at (first.spent + length run) before.spent after.spent c.index-edges-at.result
    adds.more same (c.loop-at.invariant.spends (omega (arith, low, longer before.labels after.labels adds.more))) (c.relax_edge.ensures.spends low))

pub returns-clause-adds : goal.returns-clause-adds
returns-clause-adds g c = c.loop-at.invariant.adds

pub returns-clause-spends : goal.returns-clause-spends
returns-clause-spends g c = λ low.
    let first = c.args.self.now in
    let last = c.loop-at.self in
    let run = c.edges_into-edges.result.now in
    let is : run ≡ edges_into first.ground.graph (label_at first.labels c.args.i).node =
    c.edges_into-edges.ensures ∙ ap (λ l. edges_into first.ground.graph l.node) c.label-label.ensures.label in
    relaxed_spends first.ground.graph first.labels last.labels c.args.i c.loop-at.at first.spent last.spent run c.loop-at.invariant.adds.more c.requires is
    c.loop-at.auto.at-end (c.loop-at.invariant.spends low)

pub returns-clause-counted : goal.returns-clause-counted
returns-clause-counted g c =
    let first = c.args.self.now in
    let run = c.edges_into-edges.result.now in
    let is : run ≡ edges_into first.ground.graph (label_at first.labels c.args.i).node =
    c.edges_into-edges.ensures ∙ ap (λ l. edges_into first.ground.graph l.node) c.label-label.ensures.label in
    subst (λ r. min (first.spent + length r) (2 ^ 64 - 1) ≤ c.loop-at.self.spent) is c.loop-at.invariant.counted

pub returns-clause-left : goal.returns-clause-left
returns-clause-left g c =
    let first = c.args.self.now in
    let last = c.loop-at.self in
    let run = c.edges_into-edges.result.now in
    let same : run ≡ edges_into first.ground.graph (label_at first.labels c.args.i).node =
    c.edges_into-edges.ensures ∙ ap (λ l. edges_into first.ground.graph l.node) c.label-label.ensures.label in
    left_all first last c.args.i c.label-label.ensures.search.ground
    (subst (λ r. (j : ℕ) → j < length r → IsRelaxedOn first c.args.i (edge_at r j) last) same
    (λ j to. c.loop-at.invariant.passed j (omega (arith, to, c.loop-at-test.false))))

pub relax_edge-requires-clause-bound : goal.relax_edge-requires-clause-bound
relax_edge-requires-clause-bound g c =
    omega (arith, bound_falls c.args.self.now c.loop-at.self c.loop-at.invariant.extends, c.bound-bound.ensures.exact)
