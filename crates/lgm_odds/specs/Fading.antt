-- How what is believed of edges fades with time.
use Rattle.std.specs.Prelude.{◌≡◌, ℕ, ◌-◌, ◌*◌, ◌/◌, ◌%◌, ◌^◌, ◌&&◌, ◌==◌, Bool, min, max, nat_le, Option, Some, None, if◌then◌else◌}
use Rattle.std.specs.Option.{option_map, option_and_then, unwrap_or}
use Rattle.lgm_wire.specs.declared.point.Point.{Point}
use Rattle.lgm_check.specs.declared.row.ChannelRow.{ChannelRow}
use Rattle.lgm_store.specs.Rows.{Rows, channel_of}
use Rattle.lgm_graph.specs.declared.estimate.Estimate.{Estimate}
use Rattle.lgm_graph.specs.declared.estimate.EdgeKey.{EdgeKey}
use Rattle.lgm_graph.specs.Estimates.{Entries, no_estimate, estimate_of, IsEstimated}
use Rattle.lgm_odds.specs.declared.fading.Elapsed.{Elapsed}
use Rattle.lgm_odds.specs.Lessons.{AreTaught}

-- ---- with time

-- in millionths what is left after some millionths of a half-life: 2 to the power of minus these, within a hundredth, by the
-- parabola that begins as steeply and ends at a half
abbrev pub share_kept : ℕ → ℕ
share_kept part = 1000000 - (693147 * part - 193147 * part * part / 1000000) / 1000000

-- what is left of an amount: half of it for each half-life, up to 64 of these
abbrev pub kept : Elapsed → ℕ → ℕ
kept time amount =
    amount * share_kept (time.elapsed % max 1 time.half_life * 1000000 / max 1 time.half_life) / 1000000
    / 2 ^ min 64 (time.elapsed / max 1 time.half_life)

-- ---- of one edge

-- the edge surely carries what is left of the least, and the most comes nearer to the capacity
abbrev pub faded : Elapsed → ℕ → Estimate → Estimate
faded time capacity estimate = record {
  least = kept time estimate.least;
  most = capacity - kept time (capacity - estimate.most);
  penalty = kept time estimate.penalty;
}

-- it says at most a sixteenth of the capacity, and nothing else
abbrev pub says_little : ℕ → Estimate → Bool
says_little capacity estimate =
    nat_le (16 * estimate.least) capacity && nat_le (16 * (capacity - estimate.most)) capacity && estimate.penalty == 0

-- what is believed then, unless that says little
abbrev pub kept_of : ℕ → Estimate → Option Estimate
kept_of capacity estimate = if says_little capacity estimate then None else Some estimate

-- the capacity of a channel in msat, of 64 bits, if the map has it
abbrev pub capacity_of : Rows → ℕ → Option ℕ
capacity_of rows scid = option_map (λ (channel : ChannelRow). min (2 ^ 64 - 1) (channel.sat * 1000)) (channel_of rows.channels scid)

-- of an edge of a channel: nothing, if the map doesn't have the channel
abbrev pub faded_in : Rows → Elapsed → ℕ → Estimate → Option Estimate
faded_in rows time scid estimate =
    option_and_then (λ capacity. kept_of capacity (faded time capacity estimate)) (capacity_of rows scid)

-- ---- of all edges

abbrev pub faded_at : Rows → Elapsed → ℕ → Point → Estimate → Estimate
faded_at rows time scid from estimate = unwrap_or (faded_in rows time scid estimate) no_estimate

-- time went by for what is believed of each edge
abbrev pub AreFaded : Rows → Elapsed → Entries → Entries → Type 0
AreFaded rows time old new = AreTaught (faded_at rows time) old new

-- what is left of one edge was added, if something is
abbrev pub IsLaid : Option Estimate → EdgeKey → Entries → Entries → Type 0
IsLaid None key old new = new ≡ old
IsLaid (Some estimate) key old new = IsEstimated old key.scid key.from estimate new

-- that of an edge of which this was learnt
abbrev pub IsFadedAt : Rows → Elapsed → Entries → EdgeKey → Entries → Entries → Type 0
IsFadedAt rows time learnt key old new = IsLaid (faded_in rows time key.scid (estimate_of learnt key.scid key.from)) key old new
