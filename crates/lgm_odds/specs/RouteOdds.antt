-- The odds that a route fails.
use Rattle.std.specs.Prelude.{ℕ, Bool, false, ◌&&◌, ◌==◌, min, List, [], ◌∷◌, sum_by, find, Option}
use Rattle.std.specs.Option.{option_map_or}
use Rattle.lgm_wire.specs.declared.point.Point.{Point}
use Rattle.lgm_store.specs.Rows.{Rows, is_point, channel_of, update_of}
use Rattle.lgm_graph.specs.declared.estimate.Estimate.{Estimate}
use Rattle.lgm_graph.specs.declared.overlay.ExtraEdge.{ExtraEdge}
use Rattle.lgm_graph.specs.declared.overlay.Limit.{Limit}
use Rattle.lgm_graph.specs.declared.route.Hop.{Hop}
use Rattle.lgm_graph.specs.Overlay.{most_of}
use Rattle.lgm_route.specs.Odds.{odds}

-- ---- what an edge forwards at most

-- the node is node 2 of a channel of the map
abbrev pub is_node_2 : Rows → ℕ → Point → Bool
is_node_2 rows scid from =
    option_map_or (λ channel. is_point channel.message.node_id_2 from) (channel_of rows.channels scid) false

-- by the map: the htlc_maximum_msat of the node's direction of the channel, or 0 if there is none
abbrev pub public_most : Rows → ℕ → Point → ℕ
public_most rows scid from =
    option_map_or (λ row. row.message.htlc_maximum_msat) (update_of rows.updates scid (is_node_2 rows scid from)) 0

-- the first of these edges with an id out of a node
abbrev pub named : List ExtraEdge → ℕ → Point → Option ExtraEdge
named extra scid from = find (λ edge. edge.scid == scid && is_point edge.from from) extra

-- its maximum, if there is one
abbrev pub extra_most : List ExtraEdge → ℕ → Point → ℕ → ℕ
extra_most extra scid from others = option_map_or (λ edge. edge.max) (named extra scid from) others

-- by edges beside the map, or else by the map, and by limits
abbrev pub most_over : Rows → List ExtraEdge → List Limit → ℕ → Point → ℕ
most_over rows extra limits scid from = most_of limits scid from (extra_most extra scid from (public_most rows scid from))

-- ---- odds

-- in millionths the odds of a failure against none, at most 100 to 1, of an edge of which this is believed, and that forwards
-- no more than this
abbrev pub failure_odds : Estimate → ℕ → ℕ → ℕ
failure_odds estimate most amount = odds 1000000 estimate.least (min most estimate.most) amount

-- those of a hop
abbrev pub hop_odds : Rows → List ExtraEdge → List Limit → (ℕ → Point → Estimate) → Hop → ℕ
hop_odds rows extra limits believed hop =
    failure_odds (believed hop.scid hop.from) (most_over rows extra limits hop.scid hop.from) hop.amount

-- the sum of those of a route's hops, but for the first: the payer knows what its own channel can send
abbrev pub route_odds : Rows → List ExtraEdge → List Limit → (ℕ → Point → Estimate) → List Hop → ℕ
route_odds rows extra limits believed [] = 0
route_odds rows extra limits believed (own ∷ hops) = sum_by (hop_odds rows extra limits believed) hops
