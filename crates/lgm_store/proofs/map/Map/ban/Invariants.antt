use Rattle.std.proofs.Common.{◌≡◌, take}
use Rattle.lgm_store.proofs.Bans.{closed_all}
use Rattle.lgm_store.proofs.map.Map.ban.Given as goal

-- this many channels are closed
abbrev pub invariant-loop-scid : goal.invariant-loop-scid
invariant-loop-scid l = l.self ≡ closed_all l.initial.self (take l.scid-index l.scid-items)
