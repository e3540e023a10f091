use Rattle.lgm_run.proofs.script_run.run.Goals as goal

pub returns : goal.returns
returns g c = record { runs = c.run_keeping.ensures.runs }
