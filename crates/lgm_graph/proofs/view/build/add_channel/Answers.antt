use Rattle.std.proofs.Common.{◌∙◌, ap, sym}
use Rattle.lgm_graph.specs.Graph.{IsNumbered, number_of}
use Rattle.lgm_graph.specs.inner.Walk.{KeepsNumbers}
use Rattle.lgm_graph.proofs.WrittenEdgeLaws.{edges_of_more, channel_written}
use Rattle.lgm_graph.proofs.view.build.add_channel.Goals as goal

pub returns-clause-edges : goal.returns-clause-edges
returns-clause-edges c = λ point_edges are.
    let channel = c.args.stored.now.channel in
    let mid = c.number_end.new.nodes.points.keys in
    let points = c.number_end-2.new.nodes.points.keys in
    let keeps : KeepsNumbers c.args.nodes.now.points.keys points =
    λ p there. let a = c.in_ok-first.ensures.numbered.kept p there in let b = c.in_ok-second.ensures.numbered.kept p a.1 in (b.0 ∙ a.0, b.1) in
    let first : IsNumbered mid channel.message.node_id_1 = rw (← c.node.ensures) c.in_ok-first.ensures.numbered.numbered in
    let stays = c.in_ok-second.ensures.numbered.kept channel.message.node_id_1 first in
    let second : IsNumbered points channel.message.node_id_2 = rw (← c.node-2.ensures) c.in_ok-second.ensures.numbered.numbered in
    channel_written c.args.map.now c.args.stored.now points c.requires.own stays.1 second c.in_ok-first.first c.in_ok-second.second point_edges
    c.args.edges.now.items c.add_direction.new.edges.items c.add_direction-2.new.edges.items
    (c.in_ok-first.ensures.number ∙ ap (number_of mid) c.node.ensures ∙ sym stays.0)
    (c.in_ok-second.ensures.number ∙ ap (number_of points) c.node-2.ensures)
    c.in_ok-add_direction.ensures c.in_ok-add_direction-2.ensures
    (edges_of_more c.args.nodes.now.points.keys points point_edges c.args.edges.now.items keeps are)
