-- What hops carry over edges.
use Rattle.std.specs.Prelude.{ℕ, ◌&&◌, ◌==◌, List, sum_by, if◌then◌else◌}
use Rattle.lgm_wire.specs.declared.point.Point.{Point}
use Rattle.lgm_store.specs.Rows.{is_point}
use Rattle.lgm_graph.specs.declared.route.Hop.{Hop}

-- the amount of a hop, if it is over the edge with an id out of a node
abbrev pub over : ℕ → Point → Hop → ℕ
over scid from hop = if hop.scid == scid && is_point hop.from from then hop.amount else 0

-- what hops carry over an edge
abbrev pub carried_over : List Hop → ℕ → Point → ℕ
carried_over busy scid from = sum_by (over scid from) busy
