use Rattle.std.proofs.Common.{◌≢◌, true, Ok}
use Rattle.lgm_store.proofs.map.Map.offer_channel.Goals as goal
use Rattle.lgm_store.proofs.map.Map.offer_channel.Goals.{in-Ok+else-added, in-Err-1}

pub returns-clause-accepted : goal.returns-clause-accepted
returns-clause-accepted c =
    let other : c.add_channel-added.result ≢ Ok true = elim c.match-added.branch [
      | in-Ok+else-added w ↦ λ is. absurd cc
      | in-Err-1 w ↦ λ is. absurd cc
    ] in
    rw (c.get-2.ensures, c.add_channel-added.ensures.same other) at c.in_ok-ban-3.ensures.ok
