-- What a map lacks of the channels in a peer's reply.
use Rattle.std.specs.Prelude.{ℕ, ◌+◌, ◌==◌, Bool, true, false, nat_lt, if◌then◌else◌, List, [], ◌∷◌, ◌++◌, Option, Some, None, unwrap_or}
use Rattle.lgm_gossip.specs.declared.timestamps.Timestamps.{Timestamps}
use Rattle.lgm_gossip.specs.RangeReply.{ReplyFields}
use Rattle.lgm_check.specs.declared.row.ChannelRow.{ChannelRow}
use Rattle.lgm_store.specs.ChannelWithUpdates.{timestamp_of}
use Rattle.lgm_store.specs.Rows.{Rows, channel_of, update_of}
use Rattle.lgm_sync.specs.declared.lacking.Lacking.{Lacking}

-- a flag, if a peer's update has a greater timestamp than one's own
abbrev pub if_newer : ℕ → ℕ → ℕ → ℕ
if_newer own peers flag = if nat_lt own peers then flag else 0

-- which messages are lacking, as the flags of a query: all five of a channel that isn't in the map, else the updates that are
-- newer
abbrev pub flags_beside : Option ChannelRow → Rows → ℕ → Timestamps → ℕ
flags_beside None rows id times = 31
flags_beside (Some row) rows id times =
    if_newer (timestamp_of (update_of rows.updates id false)) times.node_1 2
    + if_newer (timestamp_of (update_of rows.updates id true)) times.node_2 4

abbrev pub flags_lacking : Rows → ℕ → Timestamps → ℕ
flags_lacking rows id times = flags_beside (channel_of rows.channels id) rows id times

-- what is lacking of a channel, if anything is
abbrev pub entry : Rows → ℕ → Timestamps → List Lacking
entry rows id times =
    if flags_lacking rows id times == 0 then []
    else record { scid = id; flags = flags_lacking rows id times; times = times } ∷ []

-- whether an id is behind the last one, if there is one
abbrev pub is_behind : Option ℕ → ℕ → Bool
is_behind None id = true
is_behind (Some after) id = nat_lt after id

-- the first timestamps, or none, and those behind them
abbrev pub first_times : List Timestamps → Timestamps × List Timestamps
first_times [] = (record { node_1 = 0; node_2 = 0 }, [])
first_times (first ∷ rest) = (first, rest)

-- what is lacking of a channel whose id is behind the last one
abbrev pub entry_behind : Rows → Option ℕ → ℕ → Timestamps → List Lacking
entry_behind rows after id times = if is_behind after id then entry rows id times else []

-- the last id, with one more
abbrev pub latest : Option ℕ → ℕ → Option ℕ
latest after id = if is_behind after id then Some id else after

-- of ids, with the timestamps beside them: those that are behind all before them
abbrev pub lacking_in : Rows → Option ℕ → List ℕ → List Timestamps → List Lacking
lacking_in rows after [] times = []
lacking_in rows after (id ∷ ids) times =
    entry_behind rows after id (first_times times).0 ++ lacking_in rows (latest after id) ids (first_times times).1

-- the timestamps in a reply
abbrev pub times_of : ReplyFields → List Timestamps
times_of reply = unwrap_or reply.timestamps []

abbrev pub lacking_of : Rows → ReplyFields → List Lacking
lacking_of rows reply = lacking_in rows None reply.ids (times_of reply)
