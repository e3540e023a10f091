use Rattle.std.proofs.Common.{rules, ◌≡◌, ◌++◌, ap, subst, sym, refl, ◌∙◌, List, map}
use Rattle.std.specs.List.{AllByRecursion, flat_map}
use Rattle.lgm_check.specs.declared.row.UpdateRow.{UpdateRow}
use Rattle.lgm_store.specs.declared.channel_info.ChannelInfo.{ChannelInfo}
use Rattle.lgm_save.specs.Records.{update_record}
use Rattle.lgm_save.specs.inner.Pushing.{OnUpdate, updates_in}
use Rattle.lgm_save.proofs.PushLaws.{updates_encode}
use Rattle.lgm_save.proofs.UpdateLaws.{updates_all, update_records_all}
use Rattle.lgm_save.proofs.records.push_updates.Goals as goal

pub loop-stored-init : goal.loop-stored-init
loop-stored-init c =
    let rows = c.args.map.now in
    let walk : c.into_iter-stored-iterator.result ≡ c.channels-stored-items.result = search rules in
    let is = walk ∙ c.channels-stored-items.ensures in
    let lawful = c.rows_are_lawful.ensures in
    record {
      items =
          ap (λ (hs : List ChannelInfo). c.args.records.now.items ++ flat_map updates_in hs) is
          ∙ ap (λ rs. c.args.records.now.items ++ rs) (update_records_all rows rows.channels rows.updates refl
          ∙ ap (λ (us : List UpdateRow). map update_record us) (updates_all rows.channels rows.updates lawful.ascend.channels lawful.ascend.updates lawful.stored));
      lawful = λ all. all;
      spelled =
          subst (λ (hs : List ChannelInfo). AllByRecursion (λ stored. OnUpdate stored.first × OnUpdate stored.second) hs) (sym is)
          (updates_encode rows rows.channels c.bytes_encode_rows.ensures.updates);
    }
