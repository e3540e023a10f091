use Rattle.std.proofs.Common.{length}
use Rattle.lgm_store.proofs.banned.Banned.+insert.Given as goal

abbrev pub decreases-insert : goal.decreases-insert
decreases-insert l = length l.points.now
