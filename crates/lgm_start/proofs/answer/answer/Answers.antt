use Rattle.lgm_start.proofs.answer.answer.Goals as goal

pub returns-in-Run : goal.returns-in-Run
returns-in-Run g c = rw c.in-Run.is c.run_keeping.ensures.runs

pub returns-in-Live : goal.returns-in-Live
returns-in-Live g c = rw c.in-Live.is c.run_live.ensures.runs
