-- Laws of the routes that are answers for parts.
use Rattle.std.proofs.Common.{◌≡◌, ℕ, ◌+◌, ◌-◌, ◌<◌, ◌≤◌, List, [], ◌∷◌, Option, Some, None, Ok, refl, sym, ap, subst, arith, length, inl, inr}
use Rattle.std.specs.Prelude.{fold, nat_lt, Bool, true, false, if◌then◌else◌}
use Rattle.std.proofs.lemmas.Bool.Decides.{nat_tests}
use Rattle.lgm_graph.specs.Edges.{PointEdge}
use Rattle.lgm_graph.specs.Fee.{fee_of}
use Rattle.lgm_graph.specs.Route.{sent, expiry}
use Rattle.lgm_graph.specs.declared.route.Hop.{Hop}
use Rattle.lgm_route.specs.declared.request.Request.{Request}
use Rattle.lgm_route.specs.declared.limits.RouteLimits.{RouteLimits}
use Rattle.lgm_route.specs.declared.found.Found.{Found}
use Rattle.lgm_route.specs.Routes.{owed, due, hops_of}
use Rattle.lgm_route.specs.Preferred.{IsSomeRoute, delay}
use Rattle.lgm_payer.specs.declared.part.Part.{Part}
use Rattle.lgm_payer.specs.Payments.{PaymentState, fees}
use Rattle.lgm_payer.specs.Searches.{Prospect, IsAnswerWithin, IsAnswerFor, IsFoundFor, IsTooDear, request_of, route_limits, most_blocks, or_fewer, final_blocks, plain}

-- what has to reach the first node is no less than what arrives
pub owed_more : (amount : ℕ) (rest : List PointEdge) → amount ≤ owed amount rest
owed_more amount [] = omega arith
owed_more amount (edge ∷ rest) =
    let before = owed_more amount rest in
    let fee = fee_of (owed amount rest) edge.base edge.millionths in
    omega arith

-- what is due is the expiry and the blocks
due_sum : (height : ℕ) (rest : List PointEdge) → due height rest ≡ height + due 0 rest
due_sum height [] = omega arith
due_sum height (edge ∷ rest) = let before = due_sum height rest in omega arith

-- a route sends no less than the amount
walk_sends : (request : Request) (walk : List PointEdge) → 1 ≤ length walk → request.amount ≤ sent (hops_of request walk)
walk_sends request [] some = absurd (omega (arith, some))
walk_sends request (edge ∷ rest) some = owed_more request.amount rest

some_sends : (limits : RouteLimits) (edges : List PointEdge) (request : Request) (hops : List Hop)
    → IsSomeRoute limits edges request hops → request.amount ≤ sent hops
some_sends limits edges request hops route =
    subst (λ h. request.amount ≤ sent h) (sym route.3) (walk_sends request route.0 route.1.some)

-- its first HTLC expires no later than the limit has it
walk_falls : (request : Request) (walk : List PointEdge) (most : ℕ) → delay walk ≤ most
    → expiry (hops_of request walk) ≤ request.expiry + most
walk_falls request [] most in_time = omega arith
walk_falls request (edge ∷ rest) most in_time = let sum = due_sum request.expiry rest in omega arith

some_falls : (most hops_most : ℕ) (edges : List PointEdge) (request : Request) (hops : List Hop)
    → IsSomeRoute (record { most_delay = Some most; most_hops = hops_most }) edges request hops
    → expiry hops ≤ request.expiry + most
some_falls most hops_most edges request hops route =
    subst (λ h. expiry h ≤ request.expiry + most) (sym route.3) (walk_falls request route.0 most route.2.in_time)

-- ---- of parts

within_sends : (limits : Option RouteLimits) (prospect : Prospect) (request : Request) (found : Found)
    → IsAnswerWithin limits prospect request (Ok found) → request.amount ≤ sent found.route
within_sends None prospect request found none = cc
within_sends (Some limits) prospect request found answer = some_sends limits prospect.edges request found.route answer.1

pub answer_sends : (prospect : Prospect) (payment : PaymentState) (amount : ℕ) (found : Found)
    → IsAnswerFor prospect payment amount (Ok found) → amount ≤ sent found.route
answer_sends prospect payment amount found answer =
    within_sends (route_limits payment) prospect (request_of payment amount prospect.height) found answer.within

-- parts' ends leave no more blocks than there were
fewer_within : (most : ℕ) (parts : List Part) → fold or_fewer most parts ≤ most
fewer_within most [] = omega arith
fewer_within most (part ∷ parts) = let rest = fewer_within (or_fewer most part) parts in omega arith

within_falls : (far : Bool) (most last height : ℕ) (prospect : Prospect) (request : Request)
    (found : Found) → nat_lt most last ≡ far → request.expiry ≤ height + last
    → IsAnswerWithin (if far then None else Some (record { most_delay = Some (most - last); most_hops = 20 })) prospect request (Ok found)
    → expiry found.route ≤ height + most
within_falls true most last height prospect request found is soon none = cc
within_falls false most last height prospect request found is soon answer =
    let falls = some_falls (most - last) 20 prospect.edges request found.route answer.1 in
    let enough : last ≤ most = grind (arith, nat_tests) in
    omega arith

pub answer_falls : (prospect : Prospect) (payment : PaymentState) (amount : ℕ) (found : Found)
    → IsAnswerFor prospect payment amount (Ok found) → expiry found.route ≤ prospect.height + payment.bounds.most_blocks
answer_falls prospect payment amount found answer =
    let most = most_blocks payment in
    let last = final_blocks payment.invoice in
    let few = fewer_within payment.bounds.most_blocks payment.parts in
    let falls = within_falls (nat_lt most last) most last prospect.height prospect (request_of payment amount prospect.height) found refl
    (omega arith) answer.within in
    omega arith

-- a route that a part is sent over sends no less than its amount, at a fee within the bound, and expires in time
pub found_sends : (prospect : Prospect) (payment : PaymentState) (amount : ℕ) (found : Found)
    → IsFoundFor prospect payment amount found → amount ≤ sent found.route
found_sends prospect payment amount found (inl route) = answer_sends prospect payment amount found route.answer
found_sends prospect payment amount found (inr route) = answer_sends (plain prospect) payment amount found route.route.answer

pub found_fee : (prospect : Prospect) (payment : PaymentState) (amount : ℕ) (found : Found)
    → IsFoundFor prospect payment amount found → sent found.route - amount + fees payment ≤ payment.bounds.most_fee
found_fee prospect payment amount found (inl route) = route.fee
found_fee prospect payment amount found (inr route) = route.route.fee

pub found_falls : (prospect : Prospect) (payment : PaymentState) (amount : ℕ) (found : Found)
    → IsFoundFor prospect payment amount found → expiry found.route ≤ prospect.height + payment.bounds.most_blocks
found_falls prospect payment amount found (inl route) = answer_falls prospect payment amount found route.answer
found_falls prospect payment amount found (inr route) = answer_falls (plain prospect) payment amount found route.route.answer

-- ---- which answer is taken

-- what isn't within a bound is beyond it
beyond_of : (fee most : ℕ) → (fee ≤ most → ⊥) → most < fee
beyond_of fee most not_within = by (nat_lt most fee) refl
  where
    by : (b : Bool) → nat_lt most fee ≡ b → most < fee
    by true is = grind (arith, nat_tests)
    by false is = let within : fee ≤ most = grind (arith, nat_tests) in absurd (not_within within)

-- the one that is preferred, or else the cheapest one, or that this is too dear
pub preferred_found : (prospect : Prospect) (payment : PaymentState) (amount : ℕ) (found : Found)
    → IsAnswerFor prospect payment amount (Ok found) → sent found.route - amount + fees payment ≤ payment.bounds.most_fee
    → IsFoundFor prospect payment amount found
preferred_found prospect payment amount found answer within = inl (record { answer = answer; fee = within })

pub cheapest_found : (prospect : Prospect) (payment : PaymentState) (amount : ℕ) (dear found : Found)
    → IsAnswerFor prospect payment amount (Ok dear)
    → (sent dear.route - amount + fees payment ≤ payment.bounds.most_fee → ⊥)
    → IsAnswerFor (plain prospect) payment amount (Ok found)
    → sent found.route - amount + fees payment ≤ payment.bounds.most_fee → IsFoundFor prospect payment amount found
cheapest_found prospect payment amount dear found preferred not_within answer within =
    inr (record {
      dear = dear;
      preferred = preferred;
      beyond = beyond_of _ _ not_within;
      route = record { answer = answer; fee = within };
    })

pub too_dear : (prospect : Prospect) (payment : PaymentState) (amount given : ℕ) (found : Found)
    → IsAnswerFor (plain prospect) payment amount (Ok found) → given ≡ sent found.route
    → (sent found.route - amount + fees payment ≤ payment.bounds.most_fee → ⊥)
    → IsTooDear prospect payment amount (given - amount)
too_dear prospect payment amount given found answer is not_within = record {
  found = found;
  answer = answer;
  fee_is = ap (λ n. n - amount) is;
  beyond = rw is (beyond_of _ _ not_within);
}
