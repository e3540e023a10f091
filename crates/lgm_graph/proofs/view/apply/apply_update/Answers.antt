use Rattle.std.proofs.Common.{rules, refl, ◌∙◌, sym, ap, arith, not, length}
use Rattle.std.specs.Option.{option_map}
use Rattle.lgm_store.specs.Rows.{channel_of}
use Rattle.lgm_store.specs.History.{absorbed}
use Rattle.lgm_graph.specs.Edges.{end_of, carrying, edge_on, takes_payments}
use Rattle.lgm_graph.specs.Graph.{number_of, numbered_as}
use Rattle.lgm_graph.proofs.Numbers.{ends_numbered, in_both}
use Rattle.lgm_graph.proofs.PushedEdgeLaws.{nodes_long, same_points, same_nodes}
use Rattle.lgm_graph.proofs.UpdateLaws.{node_updated, into_cut, out_cut}
use Rattle.lgm_graph.proofs.view.apply.apply_update.Goals as goal

pub number_of-from-requires : goal.number_of-from-requires
number_of-from-requires c =
    rw c.node-from.ensures
    (ends_numbered c.args.nodes.now.points.keys c.args.map.now.channels c.scid-scid.result
    c.in-Some.channel c.is_second-second.result c.requires.beside.ends (sym c.in-Some.ensures))

pub number_of-to-requires : goal.number_of-to-requires
number_of-to-requires c =
    rw c.node-to.ensures
    (ends_numbered c.args.nodes.now.points.keys c.args.map.now.channels c.scid-scid.result
    c.in-Some.channel (not c.is_second-second.result) c.requires.beside.ends (sym c.in-Some.ensures))

pub edge_on-edge-requires-clause-from : goal.edge_on-edge-requires-clause-from
edge_on-edge-requires-clause-from c =
    omega (arith, c.number_of-from.ensures.less, c.requires.few)

pub edge_on-edge-requires-clause-to : goal.edge_on-edge-requires-clause-to
edge_on-edge-requires-clause-to c =
    omega (arith, c.number_of-to.ensures.less, c.requires.few)

pub reserve_edges-requires-clause-from : goal.reserve_edges-requires-clause-from
reserve_edges-requires-clause-from c =
    let long = nodes_long (takes_payments c.args.known.now c.args.map.now.nodes) (carrying c.args.map.now) c.args.nodes.now c.requires.beside.shows in
    omega (arith, c.number_of-from.ensures.less, long)

pub reserve_edges-requires-clause-to : goal.reserve_edges-requires-clause-to
reserve_edges-requires-clause-to c =
    let long = nodes_long (takes_payments c.args.known.now c.args.map.now.nodes) (carrying c.args.map.now) c.args.nodes.now c.requires.beside.shows in
    omega (arith, c.number_of-to.ensures.less, long)

pub put_edge-requires-clause-from : goal.put_edge-requires-clause-from
put_edge-requires-clause-from c =
    let long = nodes_long (takes_payments c.args.known.now c.args.map.now.nodes) (carrying c.args.map.now) c.args.nodes.now c.requires.beside.shows in
    omega (arith, c.number_of-from.ensures.less, long, c.reserve_edges.ensures.long)

pub put_edge-requires-clause-to : goal.put_edge-requires-clause-to
put_edge-requires-clause-to c =
    let long = nodes_long (takes_payments c.args.known.now c.args.map.now.nodes) (carrying c.args.map.now) c.args.nodes.now c.requires.beside.shows in
    omega (arith, c.number_of-to.ensures.less, long, c.reserve_edges.ensures.long)

pub put_edge-requires-clause-cut_into : goal.put_edge-requires-clause-cut_into
put_edge-requires-clause-cut_into c =
    let stored = ap (channel_of c.args.map.now.channels) (sym c.scid-scid.ensures) ∙ sym c.in-Some.ensures in
    let place =
    c.number_of-to.ensures.number ∙ ap (number_of c.args.nodes.now.points.keys) (c.node-to.ensures
    ∙ ap (λ b. end_of c.in-Some.channel (not b)) c.is_second-second.ensures) in
    rw (same_nodes c.args.nodes.now c.reserve_edges.new.self c.reserve_edges.ensures.same, place, c.scid-scid.ensures, c.is_second-second.ensures)
    (into_cut c.args.known.now c.args.map.now c.args.row.now c.in-Some.channel stored c.rows_are_lawful.ensures.ascend _ _ c.requires.beside)

pub put_edge-requires-clause-cut_out : goal.put_edge-requires-clause-cut_out
put_edge-requires-clause-cut_out c =
    let stored = ap (channel_of c.args.map.now.channels) (sym c.scid-scid.ensures) ∙ sym c.in-Some.ensures in
    let place =
    c.number_of-from.ensures.number ∙ ap (number_of c.args.nodes.now.points.keys) (c.node-from.ensures
    ∙ ap (end_of c.in-Some.channel) c.is_second-second.ensures) in
    rw (same_nodes c.args.nodes.now c.reserve_edges.new.self c.reserve_edges.ensures.same, place, c.scid-scid.ensures, c.is_second-second.ensures)
    (out_cut c.args.known.now c.args.map.now c.args.row.now c.in-Some.channel stored c.rows_are_lawful.ensures.ascend _ _ c.requires.beside)

pub returns-in_default : goal.returns-in_default
returns-in_default c =
    in_both c.absorb.result c.absorb.ensures.ok c.absorb.ensures.err
    (λ map. record { map = map; beside = search rules; few = omega arith }) (λ map. record { map = map; graph = λ known. refl })

pub returns : goal.returns
returns c = record {
  map = search rules;
  beside =
      let stored = ap (channel_of c.args.map.now.channels) (sym c.scid-scid.ensures) ∙ sym c.in-Some.ensures in
      let after = c.in_ok-absorb.ensures.ok ∙ ap (absorbed c.args.map.now) c.requires.op in
      node_updated c.args.known.now c.args.map.now c.absorb-2.new.self c.args.row.now c.in-Some.channel stored c.rows_are_lawful.ensures.ascend after
      c.args.nodes.now c.reserve_edges.new.self c.put_edge.new.self c.len.ensures.unique c.requires.beside c.reserve_edges.ensures.same
      c.scid-scid.result c.number_of-from.result c.number_of-to.result c.is_second-second.result
      c.edge_on-edge.result c.scid-scid.ensures c.is_second-second.ensures
      (c.number_of-from.ensures.number ∙ ap (number_of c.args.nodes.now.points.keys) c.node-from.ensures)
      (c.number_of-to.ensures.number ∙ ap (number_of c.args.nodes.now.points.keys) c.node-to.ensures)
      (c.edge_on-edge.ensures ∙ ap (λ row. option_map (λ e. numbered_as e c.number_of-from.result c.number_of-to.result)
      (edge_on c.in-Some.channel row)) c.row.ensures)
      c.put_edge.ensures.points c.put_edge.ensures.nodes;
  few =
      let points =
      ap length (c.put_edge.ensures.points
      ∙ same_points c.args.nodes.now c.reserve_edges.new.self c.reserve_edges.ensures.same) in
      omega (arith, points);
}
