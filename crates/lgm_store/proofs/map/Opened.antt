-- The parts of a map, read through its box.
use Rattle.std.proofs.Common.{◌≡◌, ap, sym, subst, ◌∙◌}
use Rattle.lgm_store.specs.declared.map.Parts.{Parts}
use Rattle.lgm_store.specs.inner.ChannelEntries.{channel_entries, update_entries}
use Rattle.lgm_store.specs.inner.Sound.{IsKept}
use Rattle.lgm_store.specs.Rows.{Rows}
use Rattle.lgm_store.proofs.Kept.{rows_of}

-- the invariant of a map's parts
abbrev pub AreKept : Parts → Type 0
AreKept parts = IsKept (channel_entries parts.channels) (update_entries parts.channels) parts.nodes parts.ends parts.banned

-- and their rows
abbrev pub rows_in : Parts → Rows
rows_in parts = rows_of parts.channels parts.nodes parts.banned

-- what is known of parts that have been read
pub record AreOpened (parts : Parts) (rows : Rows) : Type 0 where
  pub kept : AreKept parts
  pub seen : rows_in parts ≡ rows

pub opened : {boxed parts : Parts} {rows : Rows} → parts ≡ boxed → AreKept boxed → rows_in boxed ≡ rows → AreOpened parts rows
opened is kept seen = record { kept = subst AreKept (sym is) kept; seen = ap rows_in is ∙ seen }
