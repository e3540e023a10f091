-- The collected messages, as a prefix of the pieces that a query requests.
use Rattle.std.specs.Prelude.{◌≡◌, ℕ, Bool, false, List, ◌++◌, map}
use Rattle.std.specs.List.{list_any}
use Rattle.lgm_wire.specs.declared.point.Point.{Point}
use Rattle.lgm_store.specs.Rows.{is_point}
use Rattle.lgm_query.specs.Piece.{Piece, node, bytes_of, with_nodes_once}

-- messages, and the nodes whose announcements are among them
pub record Sent : Type 0 where
  pub messages : List (List ℕ)
  pub nodes : List Point

-- the piece is the announcement of a node
abbrev pub is_of_node : Point → Piece → Bool
is_of_node point (node row) = is_point row.message.node_id point
is_of_node point piece = false

-- these pieces were sent
pub record AreSent (pieces : List Piece) (sent : Sent) : Type 0 where
  pub messages : sent.messages ≡ map bytes_of (with_nodes_once pieces)
  pub nodes : (point : Point)
      → list_any (is_point point) sent.nodes ≡ list_any (is_of_node point) pieces

-- these pieces were sent after those before
abbrev pub Sends : List Piece → Sent → Sent → Type 0
Sends added old new = (pieces : List Piece) → AreSent pieces old → AreSent (pieces ++ added) new
