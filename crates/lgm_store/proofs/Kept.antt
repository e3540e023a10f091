-- The rows of the ordered maps of a map are lawful.
use Rattle.std.proofs.Common.{◌≡◌, ℕ, List, refl, subst}
use Rattle.std.specs.Map.{values_of}
use Rattle.lgm_wire.specs.declared.point.Point.{Point}
use Rattle.lgm_check.specs.declared.row.NodeRow.{NodeRow}
use Rattle.lgm_store.specs.declared.channel_info.ChannelInfo.{ChannelInfo}
use Rattle.lgm_store.specs.inner.ChannelEntries.{channel_entries, update_entries}
use Rattle.lgm_store.specs.Rows.{Rows}
use Rattle.lgm_store.specs.Laws.{IsLawful}
use Rattle.lgm_store.specs.inner.Sound.{IsKept}
use Rattle.lgm_store.proofs.AscendingRowLaws.{IsAscending-sound}
use Rattle.lgm_store.proofs.ChannelWithUpdates.{updates_are_stored}

-- the rows of such maps
abbrev pub rows_of : List (ℕ × ChannelInfo) → List (Point × NodeRow) → List Point → Rows
rows_of stored nodes banned = record {
  channels = values_of (channel_entries stored);
  updates = values_of (update_entries stored);
  nodes = values_of nodes;
  banned = banned;
}

pub kept-lawful : (stored : List (ℕ × ChannelInfo)) (nodes : List (Point × NodeRow)) (ends : List (Point × List ℕ)) (banned : List Point) (rows : Rows)
    → rows_of stored nodes banned ≡ rows → IsKept (channel_entries stored) (update_entries stored) nodes ends banned → IsLawful rows
kept-lawful stored nodes ends banned rows is kept = subst IsLawful is (record {
  ascend =
      IsAscending-sound (channel_entries stored) (update_entries stored) nodes ends (rows_of stored nodes banned)
      kept.rows kept.banned_ascend refl refl refl;
  stored = updates_are_stored stored kept.rows.channels_keyed kept.rows.updates_keyed;
  ended = kept.rows.nodes_ended;
  allowed = kept.allowed;
})
