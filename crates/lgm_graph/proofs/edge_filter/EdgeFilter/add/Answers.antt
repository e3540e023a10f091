use Rattle.std.proofs.Common.{◌≡◌, ◌/◌, ◌<◌, ◌∙◌, List, ℕ, length, rules, sym, ap, arith}
use Rattle.lgm_graph.specs.inner.Filtering.{class_of, bit_of}
use Rattle.lgm_graph.proofs.FilterLaws.{marked, marked_here, marked_kept}
use Rattle.lgm_graph.proofs.edge_filter.EdgeFilter.add.Goals as goal

pub returns-clause-here : goal.returns-clause-here
returns-clause-here c =
    let words = c.self.inside.words.items in
    let class = c.class_of-class.result in
    let within : class / 64 < length words = search rules in
    ap (bit_of (marked words class c.index_mut.result.now)) (sym c.class_of-class.ensures.class)
    ∙ marked_here words class c.index_mut.result.now within c.index_mut.ensures.value

pub returns-clause-kept : goal.returns-clause-kept
returns-clause-kept c = λ other old.
    let words = c.self.inside.words.items in
    let class = c.class_of-class.result in
    let within : class / 64 < length words = search rules in
    let grown : bit_of words other ≡ 1 = ap (λ (w : List ℕ). bit_of w other) c.self.view_is ∙ c.in_ok-grow.ensures.kept other old in
    marked_kept words class c.index_mut.result.now within c.index_mut.ensures.value other grown
