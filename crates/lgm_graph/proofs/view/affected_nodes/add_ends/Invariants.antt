use Rattle.std.proofs.Common.{◌≡◌, true, take}
use Rattle.std.specs.List.{AllByRecursion, filter}
use Rattle.lgm_wire.specs.declared.point.Point.{Point}
use Rattle.lgm_store.specs.Rows.{ends_at}
use Rattle.lgm_graph.specs.inner.Sound.{is_among, HasEnds}
use Rattle.lgm_graph.proofs.view.affected_nodes.add_ends.Given as goal

-- the nodes of this many channels are there, and the points from before
abbrev pub invariant-loop-scid : goal.invariant-loop-scid
invariant-loop-scid l = record {
  kept : (q : Point) → is_among l.initial.ends.keys q ≡ true → is_among l.ends.keys q ≡ true;
  done : AllByRecursion (HasEnds l.ends.keys) (take l.scid-index (filter (ends_at l.node) l.map.channels));
}
