-- What tries teach of edges, and what is believed of them beside what is under way.
use Rattle.std.specs.Prelude.{◌≡◌, ℕ, ◌-◌, ◌^◌, ◌&&◌, ◌==◌, nat_lt, List, if◌then◌else◌}
use Rattle.lgm_wire.specs.declared.point.Point.{Point}
use Rattle.lgm_store.specs.Rows.{is_point}
use Rattle.lgm_graph.specs.declared.estimate.Estimate.{Estimate}
use Rattle.lgm_graph.specs.declared.route.Hop.{Hop}
use Rattle.lgm_graph.specs.Edges.{PointEdge}
use Rattle.lgm_graph.specs.Estimates.{Entries, estimate_of, carried, failed}
use Rattle.lgm_route.specs.declared.preferences.Preferences.{Preferences}
use Rattle.lgm_route.specs.Odds.{penalty_by}
use Rattle.lgm_odds.specs.declared.lesson.Lesson.{Lesson}
use Rattle.lgm_odds.specs.declared.lesson.Lesson.TheVariants.{Carried, Failed, Gone}
use Rattle.lgm_odds.specs.Carried.{carried_over}

-- an edge has an amount less: it surely carries less by as much, and no more than what was left of the most, if that is known
abbrev pub lowered : ℕ → Estimate → Estimate
lowered amount estimate = record estimate {
  least = estimate.least - amount;
  most = if nat_lt estimate.most (2 ^ 64 - 1) then estimate.most - amount else estimate.most;
}

-- what is believed once an edge has carried an amount, or failed to, or has it less
abbrev pub taught : Lesson → ℕ → Estimate → Estimate
taught Carried amount estimate = carried amount estimate
taught Failed amount estimate = failed amount estimate
taught Gone amount estimate = lowered amount estimate

-- by an amount over a hop's edge
abbrev pub taught_by : Lesson → Hop → ℕ → ℕ → Point → Estimate → Estimate
taught_by lesson hop amount scid from estimate =
    if hop.scid == scid && is_point hop.from from then taught lesson amount estimate else estimate

-- each estimate became what this makes of it
abbrev pub AreTaught : (ℕ → Point → Estimate → Estimate) → Entries → Entries → Type 0
AreTaught teaches old new = (scid : ℕ) (from : Point) → estimate_of new scid from ≡ teaches scid from (estimate_of old scid from)

-- ---- beside what is under way

-- by what hops carry, one after the other
abbrev pub lowered_by : ℕ → Point → Estimate → Hop → Estimate
lowered_by scid from estimate hop = taught_by Gone hop hop.amount scid from estimate

-- what is believed of an edge beside these hops: what was learnt, less what they carry over it
abbrev pub left_beside : List Hop → ℕ → Point → Estimate → Estimate
left_beside busy scid from estimate = lowered (carried_over busy scid from) estimate

-- that of an edge of which this was learnt
abbrev pub believed : Entries → List Hop → ℕ → Point → Estimate
believed learnt busy scid from = left_beside busy scid from (estimate_of learnt scid from)

-- the penalty of an edge by what its payer prefers and has learnt, beside these hops
abbrev pub penalty_beside : Preferences → Entries → List Hop → PointEdge → ℕ → ℕ
penalty_beside preferences learnt busy edge amount =
    penalty_by preferences.failure_msat preferences.hop_msat (believed learnt busy edge.scid edge.from) edge.max amount
