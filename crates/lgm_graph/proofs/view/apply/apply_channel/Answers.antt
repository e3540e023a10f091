use Rattle.std.proofs.Common.{rules, ◌≡◌, ◌∙◌, ap, subst, arith, length}
use Rattle.lgm_store.specs.History.{absorbed}
use Rattle.lgm_graph.specs.Edges.{carrying, takes_payments}
use Rattle.lgm_graph.specs.Graph.{IsNumbered}
use Rattle.lgm_graph.specs.inner.Sound.{ShowsIn}
use Rattle.lgm_graph.specs.inner.Walk.{KeepsNumbers}
use Rattle.lgm_store.specs.Rows.{Rows}
use Rattle.lgm_graph.proofs.PushedEdgeLaws.{same_points, same_shows}
use Rattle.lgm_graph.proofs.NewChannelLaws.{node_added, nodes_added}
use Rattle.lgm_graph.proofs.view.apply.apply_channel.Goals as goal

pub number-requires-2 : goal.number-requires-2
number-requires-2 c = c.number.ensures.places 1 c.in_ok-reserve.ensures.places

pub returns : goal.returns
returns c = record {
  map = search rules;
  beside =
      let after = c.in_ok-absorb.ensures.ok ∙ ap (absorbed c.args.map.now) c.requires.op in
      let same = c.reserve.ensures.same in
      let row = c.args.row.now in
      let lawful = c.rows_are_lawful.ensures in
      let edges = carrying c.args.map.now in
      let one : KeepsNumbers c.args.nodes.now.points.keys c.number.new.self.points.keys =
      subst (λ ps. KeepsNumbers ps c.number.new.self.points.keys) (same_points c.args.nodes.now c.reserve.new.self same) c.number.ensures.numbered.kept in
      let keeps : KeepsNumbers c.args.nodes.now.points.keys c.number-2.new.self.points.keys =
      λ p there. let a = one p there in let b = c.number-2.ensures.numbered.kept p a.1 in (b.0 ∙ a.0, b.1) in
      let first : IsNumbered c.number.new.self.points.keys row.message.node_id_1 = rw (← c.node.ensures) c.number.ensures.numbered.numbered in
      let second : IsNumbered c.number-2.new.self.points.keys row.message.node_id_2 = rw (← c.node-2.ensures) c.number-2.ensures.numbered.numbered in
      let nodes : c.absorb.new.self.nodes ≡ c.args.map.now.nodes =
      ap (λ (r : Rows). r.nodes) after ∙ nodes_added c.args.known.now c.args.map.now row lawful in
      let shown : ShowsIn (takes_payments c.args.known.now c.absorb.new.self.nodes) edges c.number-2.new.self =
      c.number-2.ensures.numbered.shows edges (c.number.ensures.numbered.shows edges
      (rw nodes (same_shows c.args.nodes.now c.reserve.new.self same (takes_payments c.args.known.now c.args.map.now.nodes) edges c.requires.beside.shows))) in
      node_added c.args.known.now c.args.map.now row lawful c.absorb.new.self after c.args.nodes.now c.number-2.new.self c.requires.beside keeps
      (c.number-2.ensures.numbered.kept row.message.node_id_1 first).1 second (rw nodes at shown);
  few =
      let points = ap length (same_points c.args.nodes.now c.reserve.new.self c.reserve.ensures.same) in
      omega (arith, points, c.number.ensures.numbered.few, c.number-2.ensures.numbered.few);
}
