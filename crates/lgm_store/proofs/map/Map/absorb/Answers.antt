use Rattle.lgm_store.proofs.map.Map.absorb.Goals as goal

pub returns-in-Ban-clause-ok : goal.returns-in-Ban-clause-ok
returns-in-Ban-clause-ok c = rw c.in-Ban.is (rw c.get.ensures at c.ban.ensures.ok)
