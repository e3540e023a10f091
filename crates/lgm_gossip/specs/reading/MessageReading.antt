-- Reading a message, with the first fault in the order that `decode` promises.
use Rattle.std.specs.Prelude.{ℕ, ◌+◌, ◌*◌, ◌%◌, List, [], ◌∷◌, length, drop, Result}
use Rattle.std.specs.Prelude.{Ok, Err, Option, nat_lt, ◌==◌, if◌then◌else◌}
use Rattle.std.specs.Result.{result_err}
use Rattle.lgm_wire.specs.reading.Reading.{◌>>=◌}
use Rattle.lgm_gossip.specs.declared.fault.DecodeFault.{DecodeFault}
use Rattle.lgm_gossip.specs.declared.fault.DecodeFault.TheVariants.{Long, Short, UnknownEven, UnknownOdd}
use Rattle.lgm_gossip.specs.declared.message.Message.{Message}
use Rattle.lgm_gossip.specs.declared.message.Message.TheVariants as messages
use Rattle.lgm_gossip.specs.reading.AnnounceReading.{announce_at}
use Rattle.lgm_gossip.specs.reading.NodeAnnounceReading.{node_announce_at}
use Rattle.lgm_gossip.specs.reading.ChannelUpdateReading.{channel_update_at}
use Rattle.lgm_gossip.specs.reading.IdsQueryReading.{ids_query_at}
use Rattle.lgm_gossip.specs.reading.IdsEndReading.{ids_end_at}
use Rattle.lgm_gossip.specs.reading.RangeQueryReading.{range_query_at}
use Rattle.lgm_gossip.specs.reading.RangeReplyReading.{range_reply_at}
use Rattle.lgm_gossip.specs.reading.FilterMsgReading.{filter_msg_at}

-- a query or a reply, by the bytes after the type
unfoldable pub body_at : ℕ → List ℕ → Result Message DecodeFault
body_at kind body =
    if kind == 261 then (ids_query_at body >>= λ m. Ok (messages.IdsQuery m))
    else if kind == 262 then (ids_end_at body >>= λ m. Ok (messages.IdsEnd m))
    else if kind == 263 then (range_query_at body >>= λ m. Ok (messages.RangeQuery m))
    else if kind == 264 then (range_reply_at body >>= λ m. Ok (messages.RangeReply m))
    else if kind == 265 then (filter_msg_at body >>= λ m. Ok (messages.FilterMsg m))
    else if kind % 2 == 0 then Err (UnknownEven kind)
    else Err (UnknownOdd kind)

-- a message of this type: announcements and updates by all of their bytes
unfoldable pub kind_at : ℕ → List ℕ → Result Message DecodeFault
kind_at kind raw =
    if kind == 256 then (announce_at raw >>= λ m. Ok (messages.Announce m))
    else if kind == 257 then (node_announce_at raw >>= λ m. Ok (messages.NodeAnnounce m))
    else if kind == 258 then (channel_update_at raw >>= λ m. Ok (messages.ChannelUpdate m))
    else body_at kind (drop 2 raw)

-- by type
abbrev pub typed_at : List ℕ → Result Message DecodeFault
typed_at [] = Err Short
typed_at (high ∷ []) = Err Short
typed_at (high ∷ low ∷ body) = kind_at (high * 256 + low) (high ∷ low ∷ body)

unfoldable pub message_at : List ℕ → Result Message DecodeFault
message_at bytes = if nat_lt 65535 (length bytes) then Err Long else typed_at bytes

-- the first fault, or none
abbrev pub fault : List ℕ → Option DecodeFault
fault bytes = result_err (message_at bytes)
