-- Going through a map, by keys.
use Rattle.std.specs.Prelude.{ℕ, Bool, if◌then◌else◌, List, Option, Some, None, Result, Ok, Err}
use Rattle.lgm_wire.specs.declared.point.Point.{Point}
use Rattle.lgm_store.specs.Rows.{Rows}
use Rattle.lgm_store.specs.Reading.{next_channel_of, next_node_of, next_point_of}
use Rattle.lgm_c.specs.declared.fault.Fault.{Fault}
use Rattle.lgm_c.specs.declared.fault.Fault.TheVariants as faults

-- the least of all is wanted, or the least above a key
abbrev pub above : {K : Type 0} → Bool → K → Option K
above is_first key = if is_first then None else Some key

-- the key of what was found
abbrev pub key_or_none : {R K : Type 0} → (R → K) → Option R → Result K Fault
key_or_none key (Some row) = Ok (key row)
key_or_none key None = Err faults.None

-- the id of a channel
abbrev pub next_channel_found : Option ℕ → Rows → Result ℕ Fault
next_channel_found after rows =
    key_or_none (λ row. row.message.short_channel_id) (next_channel_of rows.channels after)

-- the point of a node with an announcement, and of a banned one
abbrev pub next_node_found : Option Point → Rows → Result (List ℕ) Fault
next_node_found after rows = key_or_none (λ row. row.message.node_id.0) (next_node_of rows.nodes after)

abbrev pub next_banned_found : Option Point → Rows → Result (List ℕ) Fault
next_banned_found after rows = key_or_none (λ point. point.0) (next_point_of rows.banned after)
