use Rattle.lgm_timeline.proofs.past.Past.next_edition.Goals as goal

pub reuse_older-requires : goal.reuse_older-requires
reuse_older-requires c = record { network = c.args.newest.now; is = c.requires }
