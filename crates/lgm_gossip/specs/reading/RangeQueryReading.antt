-- query_channel_range: reading its fields from left to right.
use Rattle.std.specs.Prelude.{ℕ, List, [], ◌∷◌, Result, Ok, Err}
use Rattle.std.specs.Int.{w32}
use Rattle.lgm_wire.specs.declared.fault.WireFault.{WireFault}
use Rattle.lgm_gossip.specs.declared.fault.DecodeFault.{DecodeFault}
use Rattle.lgm_gossip.specs.declared.fault.DecodeFault.TheVariants.{TlvKind}
use Rattle.lgm_gossip.specs.declared.range_query.RangeQuery.{RangeQuery}
use Rattle.lgm_gossip.specs.Streams.{bigsize_at}
use Rattle.lgm_gossip.specs.reading.FieldReading.{fixed_at, number_at, made}
use Rattle.lgm_gossip.specs.reading.InOrder.{◌>>=◌}
use Rattle.lgm_gossip.specs.reading.OptionalReading.{optional_at}

-- a number with nothing after it
abbrev pub alone : Result (ℕ × List ℕ) WireFault → Result ℕ DecodeFault
alone (Ok (v, [])) = Ok v
alone (Ok (v, b ∷ bs)) = Err (TlvKind 1)
alone (Err e) = Err (TlvKind 1)

-- the options: exactly one BigSize
abbrev pub options_at : List ℕ → Result ℕ DecodeFault
options_at bytes = alone (bigsize_at bytes)

unfoldable pub range_query_at : List ℕ → Result RangeQuery DecodeFault
range_query_at = do
  chain_hash ← fixed_at 32
  first_blocknum ← number_at w32
  number_of_blocks ← number_at w32
  options ← optional_at options_at
  made (record {
    chain_hash = record { 0 = chain_hash };
    first_blocknum = first_blocknum;
    number_of_blocks = number_of_blocks;
    options = options;
  })
