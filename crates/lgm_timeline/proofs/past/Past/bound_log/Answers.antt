use Rattle.lgm_timeline.proofs.past.Past.bound_log.Goals as goal

pub catch_up_and_trim-requires : goal.catch_up_and_trim-requires
catch_up_and_trim-requires c = record { network = c.args.newest.now; is = (c.forget_editions.ensures.stays c.args.newest.now c.requires).past }
