use Rattle.std.proofs.Common.{List, ℕ, Bor, map, Option, subst, rules}
use Rattle.std.specs.Iterator.{AlwaysYields}
use Rattle.std.proofs.lemmas.List.{map-id}
use Rattle.std.proofs.lemmas.Iterator.{YieldsList, YieldsList-from_slice, YieldsList-from_map_by}
use Rattle.lgm_answers.proofs.send.send_replies.Goals as goal

-- each message is given as it is
as_they_are : {S A : Type 0} {steps : S → Option A → S → Type 0} {shown : A → List ℕ} {s : S} (messages : List (List ℕ))
    → YieldsList steps shown s (map (λ (m : List ℕ). m) messages) → AlwaysYields steps shown s messages
as_they_are {steps} {shown} {s} messages gives = subst (AlwaysYields steps shown s) (map-id messages) gives.runs

pub returns : goal.returns
returns g c =
    let messages = c.as_slice.result.now in
    rw (← c.as_slice.ensures) (c.send_messages.ensures messages
    (as_they_are messages (YieldsList-from_map_by {s = c.map-messages.result} _ (λ (r : Bor (List ℕ)). r.now)
    (λ (m : List ℕ). m) (YieldsList-from_slice messages cc) c.map-messages.ensures.closure (λ x r q k. search rules))))
