use Rattle.std.proofs.Common.{drop, refl, arith}
use Rattle.std.proofs.lemmas.List.{length-drop}
use Rattle.lgm_c.specs.Arrivals.{AreJoined}
use Rattle.lgm_c.proofs.Built.{one_joined}
use Rattle.lgm_c.proofs.arrival.are_joined.Goals as goal

pub returns : goal.returns
returns c =
    let hops = c.args.hops.now in
    let place = c.loop-place.place in
    let rest : AreJoined (drop place hops) = one_joined (drop place hops) (omega (arith, length-drop place hops)) in
    (λ yes. c.loop-place.invariant.1 rest, λ joined. refl)
