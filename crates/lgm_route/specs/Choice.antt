-- The best walk by exhaustive search: the first of all usable walks.
use Rattle.std.specs.Prelude.{◌≡◌, ℕ, zero, suc, Bool, ◌&&◌, List, [], ◌∷◌, length, map, filter}
use Rattle.std.specs.Prelude.{nat_le, Option, Some, None, Result, Ok, Err, if◌then◌else◌}
use Rattle.std.specs.List.{flat_map, fold}
use Rattle.std.specs.Ordering.{nat_cmp, is_lt}
use Rattle.std.specs.Cmp.Lexicographic.{slice_cmp}
use Rattle.lgm_wire.specs.declared.point.Point.{Point}
use Rattle.lgm_store.specs.Rows.{is_point}
use Rattle.lgm_graph.specs.Edges.{PointEdge, AreKeyed}
use Rattle.lgm_route.specs.declared.request.Request.{Request}
use Rattle.lgm_graph.specs.declared.route.Hop.{Hop}
use Rattle.lgm_route.specs.declared.fault.RouteFault.{RouteFault}
use Rattle.lgm_route.specs.declared.fault.RouteFault.TheVariants.{NoRoute}
use Rattle.lgm_route.specs.Routes.{owed, walk_key, hops_of}
use Rattle.lgm_route.specs.Answers.{refusal, IsAnswer}

-- all lists of at most the given number of edges
abbrev pub lists_of : List PointEdge → ℕ → List (List PointEdge)
lists_of edges zero = [] ∷ []
lists_of edges (suc more) = [] ∷ flat_map (λ edge. map (λ rest. edge ∷ rest) (lists_of edges more)) edges

-- whether edges are consecutive, from the node to the payee, and each can carry what the edges after it need
abbrev pub relaxations : Request → Point → List PointEdge → Bool
relaxations request node [] = is_point node request.payee
relaxations request node (edge ∷ rest) =
    is_point edge.from node && nat_le edge.min request.amount && nat_le (owed request.amount rest) edge.max
    && relaxations request edge.to rest

-- the usable walks of 1 to 20 of the edges
abbrev pub usable_walks : List PointEdge → Request → List (List PointEdge)
usable_walks edges request =
    filter (λ walk. nat_le 1 (length walk) && relaxations request request.payer walk) (lists_of edges 20)

-- the second walk if its key precedes that of the first
abbrev pub lesser : (List PointEdge → List ℕ) → List PointEdge → List PointEdge → List PointEdge
lesser key walk other = if is_lt (slice_cmp nat_cmp (key other) (key walk)) then other else walk

-- the walk with the least key
abbrev pub least_of : (List PointEdge → List ℕ) → List (List PointEdge) → Option (List PointEdge)
least_of key [] = None
least_of key (walk ∷ walks) = Some (fold (lesser key) walk walks)

-- the best of the usable walks
unfoldable pub least_walk : List PointEdge → Request → Option (List PointEdge)
least_walk edges request = least_of (walk_key request) (usable_walks edges request)

abbrev pub found_by : Request → Option (List PointEdge) → Result (List Hop) RouteFault
found_by request (Some walk) = Ok (hops_of request walk)
found_by request None = Err NoRoute

abbrev pub answer_by : Option RouteFault → Request → Option (List PointEdge) → Result (List Hop) RouteFault
answer_by (Some fault) request walk = Err fault
answer_by None request walk = found_by request walk

-- the first refusal, or the hops of the best walk, or that no walk is usable
unfoldable pub answer_of : List PointEdge → Request → Result (List Hop) RouteFault
answer_of edges request = answer_by (refusal request) request (least_walk edges request)

-- exhaustive search returns an answer; if node and id identify an edge, each answer is that one
pub record AnswerIsOne : Type 0 where
  pub found : (edges : List PointEdge) (request : Request) → IsAnswer edges request (answer_of edges request)
  pub one : (edges : List PointEdge) (request : Request) (answer : Result (List Hop) RouteFault)
      → AreKeyed edges →
      IsAnswer edges request answer → answer ≡ answer_of edges request
