use Rattle.std.proofs.Common.{◌≡◌, ◌++◌, map}
use Rattle.lgm_store.specs.Reading.{ids_between_of}
use Rattle.lgm_store.proofs.map.Map.ids_between.Given as goal

-- the ids so far, and those of what is left
abbrev pub invariant-loop-stored : goal.invariant-loop-stored
invariant-loop-stored l =
    l.ids.items ++ map (λ stored. stored.channel.message.short_channel_id) l.stored-iterator
    ≡ ids_between_of l.self.channels l.from l.to
