-- The bytes of rows still encode them after each operation.
use Rattle.std.proofs.Common.{◌≡◌, Bool, List}
use Rattle.std.specs.List.{filter}
use Rattle.lgm_gossip.specs.Message.{Wire}
use Rattle.lgm_gossip.specs.declared.message.Message.TheVariants as wired
use Rattle.lgm_check.specs.declared.row.ChannelRow.{ChannelRow}
use Rattle.lgm_check.specs.declared.row.UpdateRow.{UpdateRow}
use Rattle.lgm_check.specs.declared.row.NodeRow.{NodeRow}
use Rattle.lgm_store.specs.Rows.{put, by_id, by_direction, by_node}
use Rattle.lgm_store.specs.Spelled.{AllSpelled}
use Rattle.lgm_store.proofs.ListLaws.{All-filter, All-put}

pub AllSpelled-channel : (channels new : List ChannelRow) (updates same : List UpdateRow) (nodes : List NodeRow) (row : ChannelRow)
    → Wire (wired.Announce row.message) row.raw → new ≡ put by_id channels row → same ≡ updates
    → AllSpelled channels updates nodes → AllSpelled new same nodes
AllSpelled-channel channels new updates same nodes row own is stay old = rw (is, stay) (record {
  channels = All-put _ by_id channels row own old.channels;
  updates = old.updates;
  nodes = old.nodes;
})

pub AllSpelled-update : (channels same : List ChannelRow) (updates new : List UpdateRow) (nodes : List NodeRow) (row : UpdateRow)
    → Wire (wired.ChannelUpdate row.message) row.raw → new ≡ put by_direction updates row → same ≡ channels
    → AllSpelled channels updates nodes → AllSpelled same new nodes
AllSpelled-update channels same updates new nodes row own is stay old = rw (is, stay) (record {
  channels = old.channels;
  updates = All-put _ by_direction updates row own old.updates;
  nodes = old.nodes;
})

pub AllSpelled-node : (channels : List ChannelRow) (updates : List UpdateRow) (nodes new : List NodeRow) (row : NodeRow)
    → Wire (wired.NodeAnnounce row.message) row.raw → new ≡ put by_node nodes row
    → AllSpelled channels updates nodes → AllSpelled channels updates new
AllSpelled-node channels updates nodes new row own is old = rw is (record {
  channels = old.channels;
  updates = old.updates;
  nodes = All-put _ by_node nodes row own old.nodes;
})

-- and so do the remaining ones
pub AllSpelled-left : (channels channels' : List ChannelRow) (updates updates' : List UpdateRow) (nodes nodes' : List NodeRow)
    → (p : ChannelRow → Bool) (q : UpdateRow → Bool) (r : NodeRow → Bool)
    → channels' ≡ filter p channels → updates' ≡ filter q updates → nodes' ≡ filter r nodes
    → AllSpelled channels updates nodes → AllSpelled channels' updates' nodes'
AllSpelled-left channels channels' updates updates' nodes nodes' p q r c u n old = rw (c, u, n) (record {
  channels = All-filter _ p channels old.channels;
  updates = All-filter _ q updates old.updates;
  nodes = All-filter _ r nodes old.nodes;
})
