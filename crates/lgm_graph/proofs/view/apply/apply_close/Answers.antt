use Rattle.std.proofs.Common.{rules, arith, refl, ◌∙◌, ap, sym, false, true}
use Rattle.lgm_store.specs.History.{absorbed}
use Rattle.lgm_graph.proofs.Numbers.{ends_numbered, in_both}
use Rattle.lgm_graph.specs.Edges.{takes_payments, carrying}
use Rattle.lgm_graph.proofs.PushedEdgeLaws.{nodes_long}
use Rattle.lgm_graph.proofs.CloseLaws.{node_closed}
use Rattle.lgm_graph.proofs.view.apply.apply_close.Goals as goal

pub close_at-requires-clause-numbered : goal.close_at-requires-clause-numbered
close_at-requires-clause-numbered c =
    rw c.node-first.ensures (ends_numbered c.args.nodes.now.points.keys c.args.map.now.channels c.args.scid
    c.in-Some.channel false c.requires.beside.ends (sym c.in-Some.ensures))

pub close_at-requires-2-clause-numbered : goal.close_at-requires-2-clause-numbered
close_at-requires-2-clause-numbered c =
    rw (c.close_at.ensures.points, c.node-second.ensures)
    (ends_numbered c.args.nodes.now.points.keys c.args.map.now.channels c.args.scid c.in-Some.channel true
    c.requires.beside.ends (sym c.in-Some.ensures))

pub close_at-requires-clause-long : goal.close_at-requires-clause-long
close_at-requires-clause-long c = nodes_long (takes_payments c.args.known.now c.args.map.now.nodes) (carrying c.args.map.now) c.args.nodes.now c.requires.beside.shows

pub returns-in_default : goal.returns-in_default
returns-in_default c =
    in_both c.absorb.result c.absorb.ensures.ok c.absorb.ensures.err
    (λ map. record { map = map; beside = search rules; few = omega arith }) (λ map. record { map = map; graph = λ known. refl })

pub returns : goal.returns
returns c = record {
  map = search rules;
  beside =
      let after = c.in_ok-absorb.ensures.ok ∙ ap (absorbed c.args.map.now) c.requires.op in
      node_closed c.args.known.now c.args.map.now c.args.scid c.in-Some.channel (sym c.in-Some.ensures)
      c.rows_are_lawful.ensures c.absorb-2.new.self after
      c.args.nodes.now c.close_at-2.new.self c.node-first.result c.node-second.result c.node-first.ensures c.node-second.ensures c.requires.beside
      (c.close_at-2.ensures.points ∙ c.close_at.ensures.points)
      (c.close_at-2.ensures.nodes _ (c.close_at.ensures.nodes _ c.requires.beside.shows.nodes_are));
  few = search rules;
}
