use Rattle.std.proofs.Common.{◌∙◌, sym}
use Rattle.lgm_graph.proofs.LentLists.{own_list, lent_list}
use Rattle.lgm_graph.proofs.overlay_view.lists.list_or.Goals as goal

pub returns-in-Some : goal.returns-in-Some
returns-in-Some c =
    c.as_slice.ensures.value ∙ sym (own_list c.args.own.now c.args.place c.args.lent.now c.in-Some.list.now c.if-place-eq0.false
    c.in-Some.ensures.lookup.0 c.in-Some.ensures.lookup.1)

pub returns-in-None : goal.returns-in-None
returns-in-None c = sym (lent_list c.args.own.now c.args.place c.args.lent.now c.in-None.ensures.lookup.0)
