use Rattle.std.proofs.Common.{subst}
use Rattle.lgm_store.specs.Spelled.{AreSpelled}
use Rattle.lgm_store.proofs.map.Map.bytes_encode_rows.Goals as goal

pub returns : goal.returns
returns c = subst AreSpelled c.self.view_is c.self.invariant.spelled
