-- The messages that are sent from a map.
use Rattle.std.specs.Prelude.{ℕ, Bool, false, not, List, [], ◌∷◌, filter}
use Rattle.lgm_check.specs.declared.row.ChannelRow.{ChannelRow}
use Rattle.lgm_check.specs.declared.row.UpdateRow.{UpdateRow}
use Rattle.lgm_check.specs.declared.row.NodeRow.{NodeRow}
use Rattle.lgm_store.specs.Rows.{is_point}

-- a row whose message is sent
pub data Piece : Type 0 where
  channel : ChannelRow → Piece
  update : UpdateRow → Piece
  node : NodeRow → Piece

-- the message: its bytes as received
abbrev pub bytes_of : Piece → List ℕ
bytes_of (channel row) = row.raw
bytes_of (update row) = row.raw
bytes_of (node row) = row.raw

-- both are announcements of one node
abbrev pub are_of_one_node : Piece → Piece → Bool
are_of_one_node (node a) (node b) = is_point a.message.node_id b.message.node_id
are_of_one_node a b = false

-- without repeated node announcements
abbrev pub with_nodes_once : List Piece → List Piece
with_nodes_once [] = []
with_nodes_once (piece ∷ pieces) =
    piece ∷ filter (λ other. not (are_of_one_node piece other)) (with_nodes_once pieces)
