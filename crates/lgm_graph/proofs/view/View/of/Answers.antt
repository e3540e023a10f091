use Rattle.std.proofs.Common.{[], ◌∙◌, arith, length, length-append, ap, sym, subst}
use Rattle.lgm_graph.specs.Edges.{carrying, takes_payments}
use Rattle.lgm_graph.specs.Graph.{IsGraphOf}
use Rattle.lgm_graph.specs.inner.Sound.{graph_in, IsSound}
use Rattle.lgm_graph.specs.inner.Walk.{AreEdgesOf, HasWalked}
use Rattle.lgm_graph.proofs.PushedEdgeLaws.{nodes_long}
use Rattle.lgm_graph.proofs.Walked.{walked_own, walked_more, walked_all}
use Rattle.lgm_graph.proofs.view.View.of.Goals as goal

pub add_channel-requires-clause-own : goal.add_channel-requires-clause-own
add_channel-requires-clause-own c =
    walked_own c.args.map.now c.in-Some.stored.now c.next.new.self c.loop-stored.edges.items (graph_in c.args.known.now c.loop-stored.nodes)
    (subst (λ left. HasWalked c.args.map.now left c.loop-stored.edges.items
    (graph_in c.args.known.now c.loop-stored.nodes)) c.in-Some.ensures.steps c.loop-stored.invariant)

pub loop-stored-preserved : goal.loop-stored-preserved
loop-stored-preserved c =
    walked_more c.args.known.now c.args.map.now c.in-Some.stored.now c.next.new.self c.loop-stored.nodes
    c.add_channel.new.nodes c.loop-stored.edges.items c.add_channel.new.edges.items
    c.in_ok-add_channel.ensures.few c.in_ok-add_channel.ensures.kept c.in_ok-add_channel.ensures.first
    c.in_ok-add_channel.ensures.second c.in_ok-add_channel.ensures.bare
    c.in_ok-add_channel.ensures.edges
    (subst (λ left. HasWalked c.args.map.now left c.loop-stored.edges.items
    (graph_in c.args.known.now c.loop-stored.nodes)) c.in-Some.ensures.steps c.loop-stored.invariant)

pub put_edges-requires-clause-long : goal.put_edges-requires-clause-long
put_edges-requires-clause-long c =
    nodes_long (takes_payments c.args.known.now c.args.map.now.nodes) [] c.loop-stored.nodes c.loop-stored.invariant.bare

pub invariant_of-result : goal.invariant_of-result
invariant_of-result c =
    let copied = ap (λ parts. parts.known) (c.deref_mut.ensures.value ∙ c.in_ok-parts.ensures.ok) ∙ c.in_ok-copy.ensures in
    let walked = c.loop-stored.invariant in
    let all = ap length walked.parts ∙ length-append walked.done walked.rest in
    let points = c.in_ok-put_edges.ensures.points in
    let beside =
    walked_all c.args.known.now c.args.map.now c.loop-stored.edges.items c.loop-stored.nodes c.put_edges.new.nodes c.rows_are_lawful.ensures.ascend
    (subst (λ left. HasWalked c.args.map.now left c.loop-stored.edges.items (graph_in c.args.known.now
    c.loop-stored.nodes)) c.in-None.ensures.steps.0 c.loop-stored.invariant) c.in_ok-put_edges.ensures.points
    (λ accepts bare edges are. c.in_ok-put_edges.ensures.shows accepts bare edges
    (subst (AreEdgesOf edges c.loop-stored.nodes.points.keys) (sym c.deref.ensures.value) are)) in
    subst (λ known. IsSound (graph_in known c.put_edges.new.nodes)) (sym copied) (record {
      few = omega (arith, c.requires, walked.few, all, ap length points);
      accepts = takes_payments c.args.known.now c.args.map.now.nodes;
      edges = carrying c.args.map.now;
      shows = beside.shows;
    })

pub returns-clause-beside : goal.returns-clause-beside
returns-clause-beside c =
    let copied = ap (λ parts. parts.known) (c.deref_mut.ensures.value ∙ c.in_ok-parts.ensures.ok) ∙ c.in_ok-copy.ensures in
    subst (λ known. IsGraphOf c.args.map.now (graph_in known c.put_edges.new.nodes)) (sym copied)
    (walked_all c.args.known.now c.args.map.now c.loop-stored.edges.items c.loop-stored.nodes c.put_edges.new.nodes c.rows_are_lawful.ensures.ascend
    (subst (λ left. HasWalked c.args.map.now left c.loop-stored.edges.items (graph_in c.args.known.now
    c.loop-stored.nodes)) c.in-None.ensures.steps.0 c.loop-stored.invariant) c.in_ok-put_edges.ensures.points
    (λ accepts bare edges are. c.in_ok-put_edges.ensures.shows accepts bare edges
    (subst (AreEdgesOf edges c.loop-stored.nodes.points.keys) (sym c.deref.ensures.value) are)))
