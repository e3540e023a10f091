-- The rows of the messages that bytes encode.
use Rattle.std.specs.Prelude.{ℕ, List}
use Rattle.lgm_gossip.specs.reading.AnnounceReading.{announce_in}
use Rattle.lgm_gossip.specs.reading.ChannelUpdateReading.{update_in}
use Rattle.lgm_gossip.specs.reading.NodeAnnounceReading.{node_in}
use Rattle.lgm_check.specs.declared.row.ChannelRow.{ChannelRow}
use Rattle.lgm_check.specs.declared.row.UpdateRow.{UpdateRow}
use Rattle.lgm_check.specs.declared.row.NodeRow.{NodeRow}

-- with a capacity in satoshi
abbrev pub channel_row : ℕ → List ℕ → ChannelRow
channel_row sat raw = record { message = announce_in raw; sat = sat; raw = raw }

abbrev pub update_row : List ℕ → UpdateRow
update_row raw = record { message = update_in raw; raw = raw }

abbrev pub node_row : List ℕ → NodeRow
node_row raw = record { message = node_in raw; raw = raw }
