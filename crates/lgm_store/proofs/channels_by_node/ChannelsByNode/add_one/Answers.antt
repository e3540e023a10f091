use Rattle.std.proofs.Common.{◌≡◌, [], Some, unwrap_or, ap, sym, ◌∙◌}
use Rattle.std.proofs.lemmas.Result.{on_ok_weaker, on_err_weaker}
use Rattle.lgm_store.specs.inner.ChannelsByNode.{with_id, list_at}
use Rattle.lgm_store.proofs.NodeIdListLaws.{Sets-put, IsSame-put, kept-with, entry-lent, list-lent, entries-lent}
use Rattle.lgm_store.proofs.channels_by_node.ChannelsByNode.add_one.Goals as goal

pub returns-in-Some-clause-ok : goal.returns-in-Some-clause-ok
returns-in-Some-clause-ok c =
    let lists = c.self.inside.lists in
    let own = c.pair_mut-list.result.0.now in
    let list = c.pair_mut-list.result.1.now in
    let at = c.pair_mut-list.ensures.value in
    let is = list-lent lists c.args.point own c.in-Some.place list at c.in-Some.ensures.some ∙ ap (λ es. list_at es c.args.point) c.self.view_is in
    on_ok_weaker c.insert.result
    (λ put_is. Sets-put c.args.self.now lists.entries _ c.args.point c.insert.new.self
    (with_id (list_at c.args.self.now c.args.point) c.args.scid) c.self.view_is
    (put_is ∙ ap (λ l. with_id l c.args.scid) is) (rw put_is (kept-with list c.args.scid))
    (entries-lent lists c.args.point own c.in-Some.place list at c.in-Some.ensures.some c.insert.new.self
    c.pair_mut-list.ensures.unique))
    c.insert.ensures.ok

pub returns-in-Some-clause-err : goal.returns-in-Some-clause-err
returns-in-Some-clause-err c =
    let lists = c.self.inside.lists in
    let own = c.pair_mut-list.result.0.now in
    let list = c.pair_mut-list.result.1.now in
    let at = c.pair_mut-list.ensures.value in
    on_err_weaker c.insert.result
    (λ same. IsSame-put c.args.self.now lists.entries _ c.args.point c.insert.new.self c.self.view_is
    (ap Some same ∙ sym (entry-lent lists c.args.point own c.in-Some.place list at c.in-Some.ensures.some))
    (entries-lent lists c.args.point own c.in-Some.place list at c.in-Some.ensures.some c.insert.new.self
    c.pair_mut-list.ensures.unique))
    c.insert.ensures.err

pub returns-clause-ok : goal.returns-clause-ok
returns-clause-ok c =
    let none : list_at c.args.self.now c.args.point ≡ [] =
    ap (λ es. list_at es c.args.point) (sym c.self.view_is)
    ∙ ap (λ o. unwrap_or o []) c.in_default.ensures.none in
    let one : c.of.result ≡ with_id [] c.args.scid = c.of.ensures in
    Sets-put c.args.self.now c.self.inside.lists.entries c.insert_full.new.self.entries c.args.point
    c.of.result (with_id (list_at c.args.self.now c.args.point) c.args.scid)
    c.self.view_is (one ∙ ap (λ l. with_id l c.args.scid) (sym none)) (rw one (kept-with [] c.args.scid))
    c.in_ok-place.ensures.updates.0
