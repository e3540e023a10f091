use Rattle.std.proofs.Common.{rules, ◌<◌, ◌^◌, ◌≡◌, ◌∷◌, ◌++◌, ap, subst, sym, ◌∙◌, List, map}
use Rattle.std.specs.List.{AllByRecursion}
use Rattle.lgm_gossip.specs.Layout.{IsAnnounce}
use Rattle.lgm_store.specs.declared.channel_info.ChannelInfo.{ChannelInfo}
use Rattle.lgm_check.specs.declared.row.ChannelRow.{ChannelRow}
use Rattle.lgm_save.specs.Records.{channel_record}
use Rattle.lgm_save.proofs.PushLaws.{channels_all, channels_encode, pushed, one_of}
use Rattle.lgm_save.proofs.records.push_channels.Goals as goal

pub loop-stored-init : goal.loop-stored-init
loop-stored-init c =
    let walk : c.into_iter-stored-iterator.result ≡ c.channels-stored-items.result = search rules in
    let is = walk ∙ c.channels-stored-items.ensures in
    record {
      items =
          ap (λ (hs : List ChannelInfo). c.args.records.now.items ++ map (λ stored. channel_record stored.channel) hs) is
          ∙ ap (λ rs. c.args.records.now.items ++ rs) (channels_all c.args.map.now c.args.map.now.channels);
      lawful = λ all. all;
      spelled =
          subst (λ (hs : List ChannelInfo). AllByRecursion (λ stored. IsAnnounce stored.channel.raw) hs) (sym is)
          (channels_encode c.args.map.now c.args.map.now.channels c.bytes_encode_rows.ensures.channels);
    }

pub loop-stored-preserved : goal.loop-stored-preserved
loop-stored-preserved c =
    let left : c.loop-stored.stored-iterator ≡ c.in-Some.stored.now ∷ c.next.new.self = search rules in
    let spelled = rw left at c.loop-stored.invariant.spelled in
    let small : c.row-row.result.sat < 2 ^ 64 = search rules in
    let one = pushed c.loop-stored.records.items c.push.new.self.items (channel_record c.in-Some.stored.now.channel) (search rules)
    (subst (λ (row : ChannelRow). row.sat < 2 ^ 64) c.row-row.ensures small, spelled.0) in
    record {
      items = one_of c.loop-stored.records.items c.push.new.self.items c.args.records.now.items _ (channel_record c.in-Some.stored.now.channel) _ one.items (rw left at c.loop-stored.invariant.items);
      lawful = λ all. one.lawful (c.loop-stored.invariant.lawful all);
      spelled = spelled.1;
    }
