-- Payloads for what the payee gets, and the hops that they are for.
use Rattle.std.proofs.Common.{◌≡◌, ℕ, ◌≤◌, List, [], ◌∷◌, length, Result, Ok, Err, inl, refl, sym, ap, subst, arith}
use Rattle.lgm_graph.specs.declared.route.Hop.{Hop}
use Rattle.lgm_payload.specs.declared.arrival_fault.ArrivalFault.{ArrivalFault}
use Rattle.lgm_c.specs.declared.routes.LgmHop.{LgmHop}
use Rattle.lgm_c.specs.declared.fault.Fault.{Fault}
use Rattle.lgm_c.specs.Arrivals.{AreJoined, built_or_fault, WritesBuilt}
use Rattle.lgm_c.specs.Routing.{Buffers, AreWritten, c_hops, all_payloads, status_as}
use Rattle.lgm_c.specs.Status.{status_of}

-- a single hop follows none
pub one_joined : (hops : List LgmHop) → length hops ≤ 1 → AreJoined hops
one_joined [] one = tt
one_joined (hop ∷ []) one = tt
one_joined (hop ∷ next ∷ hops) one = absurd (omega arith)

as_status : (written : Result (Unit {0}) Fault) → status_as 0 written ≡ status_of written
as_status (Ok done) = refl
as_status (Err fault) = refl

built_is : (built : Result (List (List ℕ)) ArrivalFault) (payloads : List (List ℕ)) → built_or_fault built ≡ Ok payloads → built ≡ Ok payloads
built_is (Ok all) payloads is = let same : all ≡ payloads = cc in ap (λ (found : List (List ℕ)). Ok found) same
built_is (Err reason) payloads is = absurd cc

-- what was built is written
pub writes_built : (hops : List Hop) (built : Result (List (List ℕ)) ArrivalFault) (payloads : List (List ℕ)) (found : List LgmHop)
    (joined : List ℕ) (written : Result (Unit {0}) Fault) (old new : Buffers)
    → built_or_fault built ≡ Ok payloads → found ≡ c_hops hops payloads → joined ≡ all_payloads payloads
    → AreWritten 0 found joined (status_as 0 written) old new → WritesBuilt hops built (status_of written) old new
writes_built hops built payloads found joined written old new is hops_are joined_is wrote =
    let number = subst (λ status. AreWritten 0 found joined status old new) (as_status written) wrote in
    let made = subst (λ (l : List LgmHop). AreWritten 0 l joined (status_of written) old new) hops_are number in
    let all = subst (λ (l : List ℕ). AreWritten 0 (c_hops hops payloads) l (status_of written) old new) joined_is made in
    subst (λ answer. WritesBuilt hops answer (status_of written) old new) (sym (built_is built payloads is)) (inl all)
