use Rattle.lgm_timeline.proofs.past.Past.make_room.Goals as goal

pub can_keep-requires-clause-past : goal.can_keep-requires-clause-past
can_keep-requires-clause-past c = record { network = c.own_mark.new.newest; is = c.in_ok-bound_log.ensures.stays.past }
