use Rattle.std.proofs.Common.{◌∙◌, sym, ap}
use Rattle.std.specs.List.{list_any}
use Rattle.lgm_store.specs.Rows.{is_point}
use Rattle.lgm_graph.proofs.PushedEdgeLaws.{same_points}
use Rattle.lgm_graph.proofs.NewNumberLaws.{position_none, further_number, has_numbered}
use Rattle.lgm_graph.proofs.view.build.number.Goals as goal

pub add-requires-clause-other : goal.add-requires-clause-other
add-requires-clause-other c = ap (list_any (is_point c.args.point)) (same_points c.args.nodes.now c.reserve.new.self c.reserve.ensures.same)
    ∙ position_none c.args.nodes.now.points.keys c.args.point (sym c.get_index_of.ensures.index ∙ c.in_default.is)

pub returns-clause-number : goal.returns-clause-number
returns-clause-number c =
    let other = position_none c.args.nodes.now.points.keys c.args.point (sym c.get_index_of.ensures.index ∙ c.in_default.is) in
    c.len-number.ensures.len ∙ sym (further_number c.args.nodes.now c.reserve.new.self c.add.new.self
    c.args.point c.takes_payments-accepts_payments.result other c.reserve.ensures.same c.add.ensures.points c.add.ensures.nodes).0

pub returns-clause-numbered : goal.returns-clause-numbered
returns-clause-numbered c =
    let other = position_none c.args.nodes.now.points.keys c.args.point (sym c.get_index_of.ensures.index ∙ c.in_default.is) in
    has_numbered c.args.nodes.now c.reserve.new.self c.add.new.self c.args.point
    c.takes_payments-accepts_payments.result other c.reserve.ensures.same c.add.ensures.points c.add.ensures.nodes
    c.args.known.now c.args.map.now.nodes c.takes_payments-accepts_payments.ensures
