-- How a node's announcement changes the view of a map.
use Rattle.std.proofs.Common.{◌≡◌, ℕ, Bool, true, false, List, refl, sym, ◌∙◌, Option}
use Rattle.lgm_wire.specs.declared.point.Point.{Point}
use Rattle.lgm_check.specs.declared.row.NodeRow.{NodeRow}
use Rattle.lgm_store.specs.Rows.{Rows, is_point, ends_channel}
use Rattle.lgm_store.specs.History.{with_node}
use Rattle.lgm_graph.specs.Edges.{carrying, takes_payments}
use Rattle.lgm_graph.specs.declared.nodes.Nodes.{Nodes}
use Rattle.lgm_graph.specs.Graph.{IsGraphOf, node_with}
use Rattle.lgm_graph.specs.inner.Sound.{graph_in, AreNodes, changed_at, checked_at}
use Rattle.lgm_store.proofs.FoundRowLaws.{node_of-put}
use Rattle.lgm_graph.proofs.ChangeLaws.{all_alike, node_is}

module _ (known : Option (List ℕ)) (rows : Rows) (row : NodeRow) where
  same_rest : (b : Bool) → ends_channel rows.channels row.message.node_id ≡ b
      → (carrying (with_node rows row) ≡ carrying rows) × ((with_node rows row).channels ≡ rows.channels)
  same_rest true e = (rw e refl, rw e refl)
  same_rest false e = (rw e refl, rw e refl)

  other_node : (q : Point) → is_point row.message.node_id q ≡ false
      → takes_payments known (with_node rows row).nodes q ≡ takes_payments known rows.nodes q
  other_node q apart = by (ends_channel rows.channels row.message.node_id) refl
    where
      by : (b : Bool) → ends_channel rows.channels row.message.node_id ≡ b
          → takes_payments known (with_node rows row).nodes q ≡ takes_payments known rows.nodes q
      by true e = rw (e, node_of-put q rows.nodes row apart) refl
      by false e = rw e refl

  -- checked again at the node, each node is as its announcement says
  each : (points : List Point) (q : Point)
      → changed_at row.message.node_id (checked_at known (with_node rows row).nodes) (node_with (takes_payments known rows.nodes) points (carrying rows)) q
      ≡ node_with (takes_payments known (with_node rows row).nodes) points (carrying rows) q
  each points q = by (is_point row.message.node_id q) refl
    where
      by : (b : Bool) → is_point row.message.node_id q ≡ b
          → changed_at row.message.node_id (checked_at known (with_node rows row).nodes) (node_with (takes_payments known rows.nodes) points (carrying rows)) q
          ≡ node_with (takes_payments known (with_node rows row).nodes) points (carrying rows) q
      by true e = rw e refl
      by false e = rw e (node_is _ _ (sym (other_node q e)) refl refl)

  -- the view after the node is checked again
  pub noded : (after : Rows) (node : Point) (old new : Nodes) → after ≡ with_node rows row
      → node ≡ row.message.node_id → IsGraphOf rows (graph_in known old) → new.points.keys ≡ old.points.keys
      → AreNodes (changed_at node (checked_at known after.nodes) (node_with (takes_payments known rows.nodes) old.points.keys (carrying rows))) new
      → IsGraphOf after (graph_in known new)
  noded after node old new is own graph points nodes =
      let same = same_rest (ends_channel rows.channels row.message.node_id) refl in
      record {
        ends = rw (is, points, same.1) graph.ends;
        shows = record {
          joined = rw (is, points, same.0) graph.shows.joined;
          nodes_are = nodes ∙ rw (is, own, points, same.0) (all_alike _ _ old.points.keys (each old.points.keys));
        };
      }
