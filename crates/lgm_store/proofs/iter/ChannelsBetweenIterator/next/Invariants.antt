use Rattle.std.proofs.Common.{◌≡◌, filter, length}
use Rattle.lgm_store.specs.Reading.{is_between}
use Rattle.lgm_store.specs.inner.ChannelTable.{id_in}
use Rattle.lgm_store.proofs.iter.ChannelsBetweenIterator.next.Given as goal

-- the list of those still to come is unchanged
abbrev pub invariant-loop-stored : goal.invariant-loop-stored
invariant-loop-stored l = l.fn.self ≡ filter (λ stored. is_between (id_in stored) l.self-inside.from l.self-inside.to) l.self-inside.channels

abbrev pub decreases-loop-stored : goal.decreases-loop-stored
decreases-loop-stored l = length l.self-inside.channels
