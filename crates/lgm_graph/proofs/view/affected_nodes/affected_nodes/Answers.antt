use Rattle.lgm_graph.proofs.BanLaws.{parts_all}
use Rattle.lgm_graph.proofs.view.affected_nodes.affected_nodes.Goals as goal

pub returns : goal.returns
returns c =
    parts_all c.args.map.now c.args.ban.now c.add_ends.new.ends.keys c.add_ends-2.new.ends.keys
    c.add_ends-3.new.ends.keys c.add_ends-4.new.ends.keys c.rows_are_lawful.ensures
    c.in_ok-add_ends.ensures.ends c.in_ok-add_ends-2.ensures.ends c.in_ok-add_ends-3.ensures.ends c.in_ok-add_ends-4.ensures.ends
    c.in_ok-add_ends-2.ensures.kept c.in_ok-add_ends-3.ensures.kept c.in_ok-add_ends-4.ensures.kept
