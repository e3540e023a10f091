-- The state of a handle, by what it holds.
use Rattle.std.specs.Prelude.{true, false}
use Rattle.std.specs.Arc.{arc_value}
use Rattle.lgm_wire.specs.declared.chain_hash.ChainHash.{ChainHash}
use Rattle.lgm_store.specs.Rows.{empty}
use Rattle.lgm_timeline.specs.History.{IsReady}
use Rattle.lgm_c.specs.declared.chain_map.MapKind.{MapKind}
use Rattle.lgm_c.specs.declared.chain_map.MapKind.TheVariants as kinds
use Rattle.lgm_c.specs.MapState.{MapState}

abbrev pub state_in : ChainHash → MapKind → MapState
state_in chain (kinds.Changing timeline) = record {
  is_published = false;
  chain = chain;
  known = timeline.network.known;
  rows = timeline.network.rows;
  version = timeline.version;
  marked = timeline.marked;
}
state_in chain (kinds.Published edition) = record {
  is_published = true;
  chain = chain;
  known = (arc_value edition).network.known;
  rows = (arc_value edition).network.rows;
  version = (arc_value edition).at;
  marked = empty;
}

-- what was published has its view, unless it has too many channels
abbrev pub IsReadyKind : MapKind → Type 0
IsReadyKind (kinds.Changing timeline) = Unit {0}
IsReadyKind (kinds.Published edition) = IsReady (arc_value edition).network
