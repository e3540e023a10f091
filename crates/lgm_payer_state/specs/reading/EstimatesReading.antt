-- Reading what was learnt of edges.
use Rattle.std.specs.Prelude.{[], ◌∷◌, ◌++◌, is_some, Result, Ok, Err, if◌then◌else◌}
use Rattle.std.specs.Int.{w64}
use Rattle.lgm_graph.specs.declared.estimate.EdgeKey.{EdgeKey}
use Rattle.lgm_graph.specs.declared.estimate.Estimate.{Estimate}
use Rattle.lgm_graph.specs.Estimates.{Entries, known_of}
use Rattle.lgm_payer_state.specs.declared.state_fault.StateFault.{StateFault}
use Rattle.lgm_payer_state.specs.declared.state_fault.StateFault.TheVariants.{Damaged}
use Rattle.lgm_payer_state.specs.reading.Reading.{Reader, number_at, list_at, made, made_of}
use Rattle.lgm_payer_state.specs.reading.InOrder.{◌>>=◌}
use Rattle.lgm_payer_state.specs.reading.EdgesReading.{point_at}

unfoldable pub entry_at : Reader (EdgeKey × Estimate)
entry_at = do
  scid ← number_at w64
  from ← point_at
  least ← number_at w64
  most ← number_at w64
  penalty ← number_at w64
  made (record { scid = scid; from = from }, record { least = least; most = most; penalty = penalty })

-- entries behind others, unless one is of the edge of an earlier one
abbrev pub estimates_behind : Entries → Entries → Result Entries StateFault
estimates_behind known [] = Ok known
estimates_behind known (entry ∷ entries) =
    if is_some (known_of known entry.0.scid entry.0.from) then Err Damaged
    else estimates_behind (known ++ entry ∷ []) entries

abbrev pub estimates_of : Entries → Result Entries StateFault
estimates_of entries = estimates_behind [] entries

-- what was learnt of edges, none of which comes twice
unfoldable pub learnt_at : Reader Entries
learnt_at = do
  entries ← list_at entry_at
  made_of (estimates_of entries)
