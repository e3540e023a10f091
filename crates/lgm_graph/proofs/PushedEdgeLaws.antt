-- Numbering nodes, and appending edges.
use Rattle.std.proofs.Common.{◌≡◌, ℕ, Bool, true, false, cond, not, List, [], ◌∷◌, ◌++◌, length}
use Rattle.std.proofs.Common.{refl, sym, ap, subst, ◌∙◌, Option, Some, None}
use Rattle.std.proofs.lemmas.List.{length-map}
use Rattle.std.specs.Bool.{beq}
use Rattle.std.specs.List.{IsDistinct, find}
use Rattle.std.proofs.lemmas.Bool.{and_parts}
use Rattle.lgm_wire.specs.declared.point.Point.{Point}
use Rattle.lgm_check.specs.declared.row.ChannelRow.{ChannelRow}
use Rattle.lgm_check.specs.declared.row.UpdateRow.{UpdateRow}
use Rattle.lgm_store.specs.Rows.{is_point, is_second, update_of}
use Rattle.lgm_graph.specs.declared.edge.Edge.{Edge}
use Rattle.lgm_graph.specs.declared.nodes.Nodes.{Nodes}
use Rattle.lgm_store.proofs.ListLaws.{All-append}
use Rattle.lgm_graph.specs.Edges.{PointEdge, edge_of, edge_on, end_of}
use Rattle.lgm_graph.specs.Graph.{Graph, Shows, node_with, number_of, IsNumbered, IsJoined, numbered_as, numbered_in}
use Rattle.lgm_graph.specs.inner.Sound.{graph_in, node_in, nodes_in, edge_changed, ShowsIn}
use Rattle.lgm_graph.proofs.CarriedEdgeLaws.{edge_on-is}
use Rattle.lgm_graph.proofs.ChangeLaws.{shows_changed}
use Rattle.lgm_graph.proofs.ListedEdgeLaws.{edges_push}

-- ---- nodes with the same graph

module _ (old new : Nodes) (same : (known : Option (List ℕ)) → graph_in known new ≡ graph_in known old) where
  pub same_points : new.points.keys ≡ old.points.keys
  same_points = ap (λ (g : Graph). g.points) (same None)

  pub same_nodes : nodes_in new ≡ nodes_in old
  same_nodes = ap (λ (g : Graph). g.nodes) (same None)

  pub same_shows : (accepts : Point → Bool) (edges : List PointEdge) → ShowsIn accepts edges old → ShowsIn accepts edges new
  same_shows accepts edges = subst (λ (g : Graph). Shows accepts edges g.points g.nodes) (sym (same None))

-- as many nodes are seen as are stored
pub seen_long : (nodes : Nodes) → length (nodes_in nodes) ≡ length nodes.nodes.items
seen_long nodes = length-map nodes.nodes.items node_in

-- there is a node for each point
pub nodes_long : (accepts : Point → Bool) (edges : List PointEdge) (nodes : Nodes) → ShowsIn accepts edges nodes
    → length nodes.nodes.items ≡ length nodes.points.keys
nodes_long accepts edges nodes shows =
    sym (seen_long nodes) ∙ ap length shows.nodes_are
    ∙ length-map nodes.points.keys (node_with accepts nodes.points.keys edges)

-- ---- the ends of a direction

pub end_numbered : (points : List Point) (channel : ChannelRow) (second : Bool)
    → IsNumbered points channel.message.node_id_1 → IsNumbered points channel.message.node_id_2
    → IsNumbered points (end_of channel second)
end_numbered points channel true first other = other
end_numbered points channel false first other = first

pub found_passes : {X : Type 0} (p : X → Bool) (xs : List X) (x : X) → find p xs ≡ Some x → p x ≡ true
found_passes p [] x is = absurd cc
found_passes p (y ∷ ys) x is = by (found_passes p ys x) (p y) refl is
  where
    by : (find p ys ≡ Some x → p x ≡ true) → (b : Bool) → p y ≡ b → cond (p y) (Some y) (find p ys) ≡ Some x → p x ≡ true
    by others true e is = let h : Some y ≡ Some x = rw e at is in let own : y ≡ x = cc in rw (← own) e
    by others false e is = others (rw e at is)

same_bool : (a b : Bool) → beq a b ≡ true → a ≡ b
same_bool true true is = refl
same_bool false false is = refl
same_bool true false is = absurd cc
same_bool false true is = absurd cc

-- an update that is found is of its direction
pub update_second : (updates : List UpdateRow) (id : ℕ) (second : Bool) (row : UpdateRow)
    → update_of updates id second ≡ Some row → is_second row ≡ second
update_second updates id second row is = same_bool (is_second row) second (and_parts _ (beq (is_second row) second) (found_passes _ updates row is)).1

pub edge_from : (channel : ChannelRow) (row : UpdateRow) (edge : PointEdge) → Some edge ≡ edge_on channel row → edge.from ≡ end_of channel (is_second row)
unfolding edge_of
edge_from channel row edge is = rw (edge_on-is channel row edge (sym is)) refl

pub edge_to : (channel : ChannelRow) (row : UpdateRow) (edge : PointEdge) → Some edge ≡ edge_on channel row
    → edge.to ≡ end_of channel (not (is_second row))
unfolding edge_of
edge_to channel row edge is = rw (edge_on-is channel row edge (sym is)) refl

-- ---- a further edge

pub pushed : (accepts : Point → Bool) (old mid new : Nodes) (edges : List PointEdge) (edge : PointEdge) (from to : ℕ) (listed : Edge)
    → IsDistinct is_point old.points.keys
    → ((known : Option (List ℕ)) → graph_in known mid ≡ graph_in known old)
    → from ≡ number_of old.points.keys edge.from → to ≡ number_of old.points.keys edge.to → listed ≡ numbered_as edge from to → IsJoined old.points.keys edge
    → new.points.keys ≡ mid.points.keys
    → nodes_in new ≡ edge_changed from to (λ edges. edges ++ listed ∷ []) (nodes_in mid)
    → ShowsIn accepts edges old → ShowsIn accepts (edges ++ edge ∷ []) new
pushed accepts old mid new edges edge from to listed distinct same from_is to_is listed_is joined points nodes shows =
    rw (points, nodes, listed_is, from_is, to_is, same_points old mid same, same_nodes old mid same)
    (shows_changed accepts old.points.keys edges (edges ++ edge ∷ []) (λ edges. edges ++ numbered_in old.points.keys edge ∷ [])
    edge.from edge.to distinct joined.0 joined.1 (edges_push (λ e. e.from) old.points.keys edges edge)
    (edges_push (λ e. e.to) old.points.keys edges edge) (nodes_in old) shows
    (All-append (IsJoined old.points.keys) edges (edge ∷ []) shows.joined (joined, tt)))
