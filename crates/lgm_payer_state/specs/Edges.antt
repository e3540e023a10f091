-- The bytes of points, edges and hops. Numbers are big-endian, as in BOLT 1.
use Rattle.std.specs.Prelude.{ℕ, List, ◌++◌}
use Rattle.std.specs.Int.{w16, w32, w64}
use Rattle.lgm_payer_state.specs.Written.{number_bytes}
use Rattle.lgm_wire.specs.declared.point.Point.{Point}
use Rattle.lgm_graph.specs.declared.overlay.ExtraEdge.{ExtraEdge}
use Rattle.lgm_graph.specs.declared.route.Hop.{Hop}

unfoldable pub point_bytes : Point → List ℕ
point_bytes point = point.0

unfoldable pub extra_edge_bytes : ExtraEdge → List ℕ
extra_edge_bytes edge =
    number_bytes w64 edge.scid ++ point_bytes edge.from ++ point_bytes edge.to ++ number_bytes w32 edge.base
    ++ number_bytes w32 edge.millionths ++ number_bytes w16 edge.delta ++ number_bytes w64 edge.min ++ number_bytes w64 edge.max

unfoldable pub hop_bytes : Hop → List ℕ
hop_bytes hop =
    number_bytes w64 hop.scid ++ point_bytes hop.from ++ point_bytes hop.to ++ number_bytes w64 hop.amount
    ++ number_bytes w32 hop.expiry
