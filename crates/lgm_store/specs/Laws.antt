-- Laws of the rows of a map.
use Rattle.std.specs.Prelude.{◌≡◌, true, false, is_some}
use Rattle.std.specs.List.{AllByRecursion}
use Rattle.lgm_store.specs.Rows.{Rows, IsAscending, channel_of, ends_channel, ends_banned}

-- each update's channel is there
abbrev pub AreStored : Rows → Type 0
AreStored rows =
    AllByRecursion
    (λ row. is_some (channel_of rows.channels row.message.short_channel_id) ≡ true) rows.updates

-- each node has a channel
abbrev pub AreEnded : Rows → Type 0
AreEnded rows = AllByRecursion (λ row. ends_channel rows.channels row.message.node_id ≡ true) rows.nodes

-- no channel has a banned node
abbrev pub AreAllowed : Rows → Type 0
AreAllowed rows = AllByRecursion (λ row. ends_banned rows.banned row ≡ false) rows.channels

-- the lists ascend without duplicate keys, each update's channel is there, each node has a channel, and no channel has
-- a banned node
pub record IsLawful (rows : Rows) : Type 0 where
  pub ascend : IsAscending rows
  pub stored : AreStored rows
  pub ended : AreEnded rows
  pub allowed : AreAllowed rows
