use Rattle.std.proofs.Common.{sym}
use Rattle.lgm_store.proofs.NodeIdListLaws.{place-of, place-found}
use Rattle.lgm_store.proofs.channels_by_node.place_of.Goals as goal

pub returns-in-Some-get_index-clause-some : goal.returns-in-Some-get_index-clause-some
returns-in-Some-get_index-clause-some c =
    let own = c.in-Some-get_index in
    place-of c.args.lists.now.entries c.args.point.now own.own.now c.in-Some.place own.field-0-1.now
    (sym own.ensures.entry) own.ensures.value (sym c.if-eq.ensures)

pub returns-clause-some : goal.returns-clause-some
returns-clause-some c =
    let own = c.in_ok-place in
    place-found c.args.lists.now.entries c.args.point.now own.field-0-1.now own.place own.field-0-2.now
    own.ensures.entry own.ensures.key own.ensures.value
