-- The hops of a walk, built from its end on.
use Rattle.std.proofs.Common.{◌≡◌, ℕ, suc, ◌+◌, ◌-◌, ◌*◌, ◌^◌, ◌<◌, ◌≤◌, List, [], ◌∷◌}
use Rattle.std.proofs.Common.{◌++◌, length, get_or, drop, reverse, refl, sym, ◌∙◌, ap, arith}
use Rattle.std.proofs.lemmas.List.{drop_more, reverse-append}
use Rattle.lgm_graph.specs.Fee.{fee_of}
use Rattle.lgm_graph.specs.Edges.{PointEdge}
use Rattle.lgm_graph.specs.Graph.{Graph}
use Rattle.lgm_graph.specs.declared.edge.Edge.{Edge}
use Rattle.lgm_route.specs.declared.request.Request.{Request}
use Rattle.lgm_route.specs.inner.Numbered.{Ask}
use Rattle.lgm_graph.specs.declared.route.Hop.{Hop}
use Rattle.lgm_route.specs.Routes.{owed, due, hops_of}
use Rattle.lgm_route.specs.inner.Numbered as walks
use Rattle.lgm_route.specs.inner.Searching.{AreCarried}
use Rattle.lgm_route.specs.inner.Best.{edges_in, hop_over}
use Rattle.lgm_route.proofs.WalkOrderLaws.{over, owed_over}
use Rattle.lgm_route.proofs.Rests.{carried_at}

-- ---- hop by hop

-- the hops of this many last edges, and the amount and expiry before them
pub record AreHops (graph : Graph) (request : Request) (walk : List Edge) (i owes falls : ℕ) (hops : List Hop) : Type 0 where
  pub owed_is : owes ≡ owed request.amount (edges_in graph (drop (length walk - i) walk))
  pub due_is : falls ≡ due request.expiry (edges_in graph (drop (length walk - i) walk))
  pub due_low : falls ≤ 498000000 + 65535 * i
  pub hops_are : reverse hops ≡ hops_of request (edges_in graph (drop (length walk - i) walk))

pub hops_more : (graph : Graph) (request : Request) (walk : List Edge) (i owes falls : ℕ)
    (hops after : List Hop) (d edge : Edge) (hop : Hop) (fee : ℕ) → i < length walk →
    edge ≡ get_or walk (length walk - 1 - i) d → edge.delta < 2 ^ 16 → hop ≡ hop_over graph edge owes falls
    → fee ≡ fee_of owes edge.base edge.millionths →
    after ≡ hops ++ hop ∷ [] → AreHops graph request walk i owes falls hops
    → AreHops graph request walk (i + 1) (owes + fee) (falls + edge.delta) after
hops_more graph request walk i owes falls hops after d edge hop fee lt is small over charged more before =
    let k : ℕ = length walk - 1 - i in
    let back : List Edge = drop (length walk - i) walk in
    let here : drop (length walk - (i + 1)) walk ≡ drop k walk = ap (λ n. drop n walk) (omega arith) in
    let behind : drop (k + 1) walk ≡ back = ap (λ n. drop n walk) (omega arith) in
    let parts : drop (length walk - (i + 1)) walk ≡ edge ∷ back =
    here ∙ drop_more walk k d (omega arith) ∙ ap (λ r. get_or walk k d ∷ r) behind
    ∙ ap (λ a. a ∷ back) (sym is) in
    let made : hop ≡ hop_over graph edge (owed request.amount (edges_in graph back))
    (due request.expiry (edges_in graph back)) =
    over ∙ ap (λ n. hop_over graph edge n falls) before.owed_is
    ∙ ap (λ n. hop_over graph edge (owed request.amount (edges_in graph back)) n) before.due_is in
    record {
      owed_is = rw parts (rw charged (ap (λ n. n + fee_of n edge.base edge.millionths) before.owed_is));
      due_is = rw parts (ap (λ n. n + edge.delta) before.due_is);
      due_low = let le = before.due_low in omega arith;
      hops_are =
          rw (parts, more) (reverse-append hops (hop ∷ []) ∙ ap (λ h. h ∷ reverse hops) made
          ∙ ap (λ r. hop_over graph edge (owed request.amount (edges_in graph back))
          (due request.expiry (edges_in graph back)) ∷ r) before.hops_are);
    }

-- each amount fits 64 bits
pub owed_fits : (graph : Graph) (request : Request) (walk : List Edge) (i owes falls : ℕ) (hops : List Hop)
    → i < length walk → AreCarried request.amount (walk) → AreHops graph request walk i owes falls hops
    → owes < 2 ^ 64
owed_fits graph request walk i owes falls hops lt carried are =
    let k : ℕ = length walk - 1 - i in
    let next : suc k ≡ length walk - i = omega arith in
    let fits = carried_at request.amount walk k carried (omega arith) in
    let same : drop (suc k) walk ≡ drop (length walk - i) walk = ap (λ n. drop n walk) next in
    let cost : owed request.amount (edges_in graph (drop (length walk - i) walk)) ≡ walks.owed request.amount (drop (suc k) walk) =
    owed_over graph.points request.amount (drop (length walk - i) walk) ∙ ap (walks.owed request.amount) (sym same) in
    let is = are.owed_is in
    omega arith

-- ---- the walk that was found

pub length_hops : (request : Request) (walk : List PointEdge) → length (hops_of request walk) ≡ length walk
length_hops request [] = refl
length_hops request (edge ∷ rest) = ap suc (length_hops request rest)
