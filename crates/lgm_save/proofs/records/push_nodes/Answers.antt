use Rattle.std.proofs.Common.{rules, ◌≡◌, ◌∷◌, ◌++◌, ap, subst, sym, ◌∙◌, List, map}
use Rattle.std.specs.List.{AllByRecursion}
use Rattle.lgm_gossip.specs.Layout.{IsNodeAnnounce}
use Rattle.lgm_check.specs.declared.row.NodeRow.{NodeRow}
use Rattle.lgm_save.specs.Records.{node_record}
use Rattle.lgm_save.proofs.PushLaws.{nodes_encode, pushed, one_of}
use Rattle.lgm_save.proofs.records.push_nodes.Goals as goal

pub loop-stored-init : goal.loop-stored-init
loop-stored-init c =
    let walk : c.into_iter-stored-iterator.result ≡ c.nodes-stored-items.result = search rules in
    let is = walk ∙ c.nodes-stored-items.ensures in
    record {
      items = ap (λ (rows : List NodeRow). c.args.records.now.items ++ map node_record rows) is;
      lawful = λ all. all;
      spelled =
          subst (λ (rows : List NodeRow). AllByRecursion (λ row. IsNodeAnnounce row.raw) rows) (sym is)
          (nodes_encode c.args.map.now.nodes c.bytes_encode_rows.ensures.nodes);
    }

pub loop-stored-preserved : goal.loop-stored-preserved
loop-stored-preserved c =
    let left : c.loop-stored.stored-iterator ≡ c.in-Some.stored.now ∷ c.next.new.self = search rules in
    let spelled = rw left at c.loop-stored.invariant.spelled in
    let one = pushed c.loop-stored.records.items c.push.new.self.items (node_record c.in-Some.stored.now) (search rules) spelled.0 in
    record {
      items = one_of c.loop-stored.records.items c.push.new.self.items c.args.records.now.items _ (node_record c.in-Some.stored.now) _ one.items (rw left at c.loop-stored.invariant.items);
      lawful = λ all. one.lawful (c.loop-stored.invariant.lawful all);
      spelled = spelled.1;
    }
