-- Reading points, edges and hops.
use Rattle.std.specs.Int.{w16, w32, w64}
use Rattle.lgm_wire.specs.declared.point.Point.{Point}
use Rattle.lgm_graph.specs.declared.overlay.ExtraEdge.{ExtraEdge}
use Rattle.lgm_graph.specs.declared.route.Hop.{Hop}
use Rattle.lgm_payer_state.specs.reading.Reading.{Reader, fixed_at, number_at, made}
use Rattle.lgm_payer_state.specs.reading.InOrder.{◌>>=◌}

unfoldable pub point_at : Reader Point
point_at = do
  point ← fixed_at 33
  made (record { 0 = point })

unfoldable pub extra_edge_at : Reader ExtraEdge
extra_edge_at = do
  scid ← number_at w64
  from ← point_at
  to ← point_at
  base ← number_at w32
  millionths ← number_at w32
  delta ← number_at w16
  min ← number_at w64
  max ← number_at w64
  made (record {
    scid = scid;
    from = from;
    to = to;
    base = base;
    millionths = millionths;
    delta = delta;
    min = min;
    max = max;
  })

unfoldable pub hop_at : Reader Hop
hop_at = do
  scid ← number_at w64
  from ← point_at
  to ← point_at
  amount ← number_at w64
  expiry ← number_at w32
  made (record { scid = scid; from = from; to = to; amount = amount; expiry = expiry })
