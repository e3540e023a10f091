use Rattle.lgm_route.proofs.reasons.reason_over.Goals as goal

pub returns-in-Some-clause-reason : goal.returns-in-Some-clause-reason
returns-in-Some-clause-reason g c = rw c.get.ensures.same at (c.in-Some.ensures c.args.search.now.limits)
