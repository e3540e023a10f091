-- The state between two lines, by its parts.
use Rattle.std.specs.Prelude.{◌≤◌, List, length}
use Rattle.lgm_timeline.specs.Timeline.{TimelineState}
use Rattle.lgm_answers.specs.declared.filters.PeerFilter.{PeerFilter}
use Rattle.lgm_answers.specs.Script.{ScriptState}

-- the newest map has all accepted items, and its mark is at the last commit
abbrev pub state_by_parts : TimelineState → List PeerFilter → ScriptState
state_by_parts timeline filters = record {
  known = timeline.network.known;
  rows = timeline.network.rows;
  committed = timeline.marked;
  accepted = timeline.version;
  filters = filters;
}

-- no more channels are in the maps than items were accepted
pub record IsFew (timeline : TimelineState) : Type 0 where
  pub rows : length timeline.network.rows.channels ≤ timeline.version
  pub committed : length timeline.marked.channels ≤ timeline.version
