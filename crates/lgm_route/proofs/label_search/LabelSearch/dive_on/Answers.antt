use Rattle.std.proofs.Common.{◌≡◌, ◌<◌, ◌∙◌, IfSome, length, ap, subst}
use Rattle.std.proofs.lemmas.List.{get_or_default}
use Rattle.lgm_graph.specs.Graph.{edges_into}
use Rattle.lgm_route.specs.inner.Searching.{label_at, edge_at, no_edge}
use Rattle.lgm_route.proofs.SpentDives.{dive_spends, dive_spends-none}
use Rattle.lgm_route.proofs.label_search.LabelSearch.dive_on.Goals as goal

pub returns-in_err-spend-clause-spends : goal.returns-in_err-spend-clause-spends
returns-in_err-spend-clause-spends g c = λ low.
    let first = c.args.self.now in
    let run = c.edges_into-edges.result.now in
    let is : run ≡ edges_into first.ground.graph (label_at first.labels c.args.here).node =
    c.edges_into-edges.ensures ∙ ap (λ l. edges_into first.ground.graph l.node) c.label-label.ensures.label in
    dive_spends-none first c.spend.new.self c.args.here c.next_edge-place.result.looked run c.spend.ensures.counted is c.next_edge-place.ensures.few

pub returns-in_default-clause-spends : goal.returns-in_default-clause-spends
returns-in_default-clause-spends g c = λ low.
    let first = c.args.self.now in
    let run = c.edges_into-edges.result.now in
    let is : run ≡ edges_into first.ground.graph (label_at first.labels c.args.here).node =
    c.edges_into-edges.ensures ∙ ap (λ l. edges_into first.ground.graph l.node) c.label-label.ensures.label in
    dive_spends-none first c.spend.new.self c.args.here c.next_edge-place.result.looked run c.spend.ensures.counted is c.next_edge-place.ensures.few

pub returns-in_err-relax_edge-clause-spends : goal.returns-in_err-relax_edge-clause-spends
returns-in_err-relax_edge-clause-spends g c = λ low.
    let first = c.args.self.now in
    let run = c.edges_into-edges.result.now in
    let is : run ≡ edges_into first.ground.graph (label_at first.labels c.args.here).node =
    c.edges_into-edges.ensures ∙ ap (λ l. edges_into first.ground.graph l.node) c.label-label.ensures.label in
    let within : c.in-Some.at < length run =
    subst (λ o. IfSome o (λ at. at < length run)) c.in-Some.is c.next_edge-place.ensures.within in
    let same : c.index-edges-at.result ≡ edge_at run c.in-Some.at =
    c.index-edges-at.is ∙ get_or_default run c.in-Some.at c.index-edges-at.result no_edge within in
    dive_spends first c.spend.new.self c.relax_edge.new.self c.args.here c.next_edge-place.result.looked c.in-Some.at run c.index-edges-at.result
    c.spend.ensures.counted is c.next_edge-place.ensures.few within same c.requires c.relax_edge.ensures.adds.more c.relax_edge.ensures.spends low

pub returns-clause-spends : goal.returns-clause-spends
returns-clause-spends g c = λ low.
    let first = c.args.self.now in
    let run = c.edges_into-edges.result.now in
    let is : run ≡ edges_into first.ground.graph (label_at first.labels c.args.here).node =
    c.edges_into-edges.ensures ∙ ap (λ l. edges_into first.ground.graph l.node) c.label-label.ensures.label in
    let within : c.in-Some.at < length run =
    subst (λ o. IfSome o (λ at. at < length run)) c.in-Some.is c.next_edge-place.ensures.within in
    let same : c.index-edges-at.result ≡ edge_at run c.in-Some.at =
    c.index-edges-at.is ∙ get_or_default run c.in-Some.at c.index-edges-at.result no_edge within in
    dive_spends first c.spend.new.self c.relax_edge.new.self c.args.here c.next_edge-place.result.looked c.in-Some.at run c.index-edges-at.result
    c.spend.ensures.counted is c.next_edge-place.ensures.few within same c.requires c.relax_edge.ensures.adds.more c.relax_edge.ensures.spends low
