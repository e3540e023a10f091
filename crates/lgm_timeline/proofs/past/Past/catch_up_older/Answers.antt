use Rattle.lgm_timeline.proofs.Pasts.{older_stays}
use Rattle.lgm_timeline.proofs.past.Past.catch_up_older.Goals as goal

pub returns-clause-stays : goal.returns-clause-stays
returns-clause-stays c = λ network past.
    older_stays network c.args.self.now c.reuse_older.new.self c.reuse_older.result (c.reuse_older.ensures.stays network past)
    (c.reuse_older.ensures.newest network past)
