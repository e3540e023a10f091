use Rattle.std.proofs.Common.{◌≡◌, Some, sym, ap, ◌∙◌, length, arith}
use Rattle.std.proofs.lemmas.List.{take_all}
use Rattle.std.specs.List.{filter}
use Rattle.indexmap.specs.IndexSet.{insert_key}
use Rattle.lgm_store.specs.Rows.{is_point, ends_at, channel_of}
use Rattle.lgm_graph.proofs.BanLaws.{with_ends, kept_more, ends_next, ends_all, ids_stored, long_ids}
use Rattle.lgm_graph.proofs.view.affected_nodes.add_ends.Goals as goal
use Rattle.lgm_graph.proofs.view.affected_nodes.add_ends.Goals.{in-Some+in_ok-insert+in_ok-insert-2, in_default}

pub loop-scid-preserved : goal.loop-scid-preserved
loop-scid-preserved c = elim c.match-channel_info.branch [
  | in-Some+in_ok-insert+in_ok-insert-2 w ↦
      let rows = c.args.map.now.channels in
      let channel = w.in-Some.stored.now.channel in
      let old = c.loop-scid.ends.keys in
      let new : w.insert-in-Some.new.self.keys ≡ with_ends old channel =
      w.in_ok-insert-2.ensures.keys ∙ ap (λ ks. insert_key is_point ks w.node-in-Some.result.now) w.in_ok-insert.ensures.keys
      ∙ ap (λ p. insert_key is_point (insert_key is_point old p) w.node-in-Some.result.now) w.node.ensures
      ∙ ap (λ p. insert_key is_point (insert_key is_point old channel.message.node_id_1) p) w.node-in-Some.ensures in
      let stored : channel_of rows c.scid-item.result ≡ Some channel = sym w.in-Some.ensures.channel in
      let ids = c.as_slice-scid-items.ensures ∙ c.in_ok-scids.ensures in
      rw w.ends-is (record {
        kept = λ q among. rw new (kept_more old channel q (c.loop-scid.invariant.kept q among));
        done =
            ends_next rows c.args.node.now c.as_slice-scid-items.result.now c.loop-scid.scid-index
            c.scid-item.result channel old w.insert-in-Some.new.self.keys
            c.rows_are_lawful.ensures.ascend.channels ids c.loop-scid-test.true c.scid-item.is stored new c.loop-scid.invariant.done;
      })
  | in_default w ↦ absurd (ids_stored c.args.map.now.channels c.args.node.now c.as_slice-scid-items.result.now c.loop-scid.scid-index c.scid-item.result
      c.rows_are_lawful.ensures.ascend.channels (c.as_slice-scid-items.ensures ∙ c.in_ok-scids.ensures)
      c.loop-scid-test.true c.scid-item.is (sym w.in_default.ensures.channel))
]

pub returns-clause-ends : goal.returns-clause-ends
returns-clause-ends c =
    let there = filter (ends_at c.args.node.now) c.args.map.now.channels in
    let long = ap length (c.as_slice-scid-items.ensures ∙ c.in_ok-scids.ensures) ∙ long_ids there in
    ends_all c.args.map.now.channels c.args.node.now c.loop-scid.ends.keys
    (rw (take_all c.loop-scid.scid-index there (omega (arith, long, c.loop-scid-test.false))) at c.loop-scid.invariant.done)
