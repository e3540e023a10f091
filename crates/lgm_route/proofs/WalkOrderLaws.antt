-- What walks cost, how long they take, and their order, over points as over numbers.
use Rattle.std.proofs.Common.{◌≡◌, ℕ, zero, suc, ◌+◌, ◌<◌, ◌≤◌, List, [], Option}
use Rattle.std.proofs.Common.{◌∷◌, length, get_or, map, Some, None, refl, sym, ◌∙◌, ap, arith}
use Rattle.std.specs.Prelude.{Contains}
use Rattle.std.specs.Ordering.{nat_cmp}
use Rattle.std.specs.Cmp.Lexicographic.{slice_cmp}
use Rattle.std.proofs.lemmas.List.{length-map}
use Rattle.lgm_wire.specs.declared.point.Point.{Point}
use Rattle.lgm_graph.specs.Fee.{fee_of}
use Rattle.lgm_graph.specs.Edges.{PointEdge}
use Rattle.lgm_graph.specs.declared.edge.Edge.{Edge}
use Rattle.lgm_graph.specs.Graph.{Graph, edge_between, edges, AreListed}
use Rattle.lgm_route.specs.declared.request.Request.{Request}
use Rattle.lgm_route.specs.inner.Numbered.{Ask}
use Rattle.lgm_route.specs.Routes as routes
use Rattle.lgm_route.specs.inner.Numbered as walks
use Rattle.lgm_route.specs.inner.Best.{AreAlike, AreNumbered, IsFree}
use Rattle.lgm_route.specs.Answers.{IsFoundOver}
use Rattle.lgm_route.specs.Preferred as preferred
use Rattle.lgm_route.specs.Preferred.{IsInTime, IsWithin, no_limits, IsFoundBy}
use Rattle.lgm_graph.specs.declared.route.Hop.{Hop}
use Rattle.lgm_route.specs.declared.fault.RouteFault.{RouteFault}
use Rattle.std.specs.Prelude.{Result, Ok, Err}

-- ---- lists

map_at : {A B : Type 0} (f : A → B) (xs : List A) (i : ℕ) (d : A) → get_or (map f xs) i (f d) ≡ f (get_or xs i d)
map_at f [] i d = refl
map_at f (x ∷ xs) zero d = refl
map_at f (x ∷ xs) (suc i) d = map_at f xs i d

pub contains_map : {A B : Type 0} (f : A → B) (xs : List A) (x : A) → Contains xs x → Contains (map f xs) (f x)
contains_map f xs x there = (there.0, omega (arith, length-map xs f, there.1), map_at f xs there.0 x ∙ ap f there.2)

contains_tail : {A : Type 0} (x y : A) (xs : List A) → Contains xs y → Contains (x ∷ xs) y
contains_tail x y xs there = (suc there.0, omega (arith, there.1), there.2)

pub contained_map : {A B : Type 0} (f : A → B) (xs : List A) (y : B) (i : ℕ) → i < length (map f xs)
    → get_or (map f xs) i y ≡ y → (x : A) × Contains xs x × (f x ≡ y)
contained_map f [] y i lt e = absurd (omega arith)
contained_map f (x ∷ xs) y zero lt e = (x, (0, omega arith, refl), e)
contained_map f (x ∷ xs) y (suc i) lt e =
    let later = contained_map f xs y i (omega arith) e in
    (later.0, contains_tail x later.0 xs later.1, later.2)

-- ---- what walks cost

abbrev pub over : List Point → List Edge → List PointEdge
over points walk = map (edge_between points) walk

pub owed_over : (points : List Point) (amount : ℕ) (walk : List Edge) → routes.owed amount (over points walk) ≡ walks.owed amount walk
owed_over points amount [] = refl
owed_over points amount (by_number ∷ rest) = ap (λ passed. passed + fee_of passed by_number.base by_number.millionths) (owed_over points amount rest)

sent_over : (points : List Point) (amount : ℕ) (walk : List Edge) → routes.sent amount (over points walk) ≡ walks.sent amount walk
sent_over points amount [] = refl
sent_over points amount (by_number ∷ rest) = owed_over points amount rest

ids_over : (points : List Point) (walk : List Edge) → routes.ids (over points walk) ≡ walks.ids walk
ids_over points [] = refl
ids_over points (by_number ∷ rest) = ap (λ l. by_number.scid ∷ l) (ids_over points rest)

penalties_over : (graph : Graph) (terms : Option walks.Terms) (penalty : PointEdge → ℕ → ℕ) → AreAlike graph terms penalty → (amount : ℕ)
    (walk : List Edge) → AreNumbered graph walk
    → preferred.penalties penalty amount (over graph.points walk) ≡ walks.penalties terms amount walk
penalties_over graph terms penalty alike amount [] are = refl
penalties_over graph terms penalty alike amount (by_number ∷ rest) are =
    let later = penalties_over graph terms penalty alike amount rest are.1 in
    let carried = ap (penalty (edge_between graph.points by_number)) (owed_over graph.points amount rest) in
    omega (arith, later, carried, alike by_number (are.0).0 (walks.owed amount rest))

worth_over : (graph : Graph) (request : Ask) (penalty : PointEdge → ℕ → ℕ) → AreAlike graph request.terms penalty
    → (walk : List Edge) → AreNumbered graph walk
    → preferred.worth penalty request.amount (over graph.points walk) ≡ walks.worth request walk
worth_over graph request penalty alike [] are = refl
worth_over graph request penalty alike (by_number ∷ rest) are =
    omega (arith, owed_over graph.points request.amount rest, penalties_over graph request.terms penalty alike request.amount rest are.1)

-- the nodes of a walk are numbered
pub walk_numbered : (graph : Graph) → AreListed graph → (numbered : Ask) (walk : List Edge)
    (node : ℕ) → walks.IsRest (edges graph) numbered node walk → AreNumbered graph walk
walk_numbered graph listed numbered [] node joins = tt
walk_numbered graph listed numbered (edge ∷ rest) node joins =
    let is = listed.each edge joins.0.there in
    ((is.from, is.to), walk_numbered graph listed numbered rest edge.to joins.1)

abbrev pub key : Ask → List Edge → List ℕ
key request walk = walks.worth request walk ∷ length walk ∷ walks.ids walk

abbrev pub key_over : (PointEdge → ℕ → ℕ) → ℕ → List PointEdge → List ℕ
key_over penalty amount walk = preferred.worth penalty amount walk ∷ length walk ∷ routes.ids walk

pub keys_same : (graph : Graph) (request : Ask) (penalty : PointEdge → ℕ → ℕ) → AreAlike graph request.terms penalty
    → (walk : List Edge) → AreNumbered graph walk → key_over penalty request.amount (over graph.points walk) ≡ key request walk
keys_same graph request penalty alike walk are =
    rw (worth_over graph request penalty alike walk are, length-map walk (edge_between graph.points), ids_over graph.points walk) refl

-- ---- limits

delay_over : (points : List Point) (limit : ℕ) (walk : List Edge) → routes.due 0 (over points walk) ≡ walks.delay (Some limit) walk
delay_over points limit [] = refl
delay_over points limit (by_number ∷ rest) = ap (λ n. n + by_number.delta) (delay_over points limit rest)

no_delay : (walk : List Edge) → walks.delay None walk ≡ 0
no_delay [] = refl
no_delay (by_number ∷ rest) = omega (arith, no_delay rest)

pub time_over : (points : List Point) (limit : Option ℕ) (walk : List Edge) → walks.walk_delay limit walk ≤ walks.most_delay limit
    → IsInTime limit (over points walk)
time_over points None walk h = tt
time_over points (Some limit) [] h = h
time_over points (Some limit) (by_number ∷ rest) h = omega (arith, h, delay_over points limit rest)

pub time_back : (points : List Point) (limit : Option ℕ) (walk : List Edge) → IsInTime limit (over points walk)
    → walks.walk_delay limit walk ≤ walks.most_delay limit
time_back points None [] h = omega arith
time_back points None (by_number ∷ rest) h = omega (arith, no_delay rest)
time_back points (Some limit) [] h = h
time_back points (Some limit) (by_number ∷ rest) h = omega (arith, h, delay_over points limit rest)

pub due_over : (points : List Point) (limit : Option ℕ) (rest : List Edge) → walks.delay limit rest ≤ walks.most_delay limit
    → preferred.IsDueIn limit (over points rest)
due_over points None rest h = tt
due_over points (Some limit) rest h = omega (arith, h, delay_over points limit rest)

-- ---- without penalties it is the walk that sends least

no_penalties : (penalty : PointEdge → ℕ → ℕ) → IsFree penalty → (amount : ℕ) (walk : List PointEdge)
    → preferred.penalties penalty amount walk ≡ 0
no_penalties penalty is amount [] = refl
no_penalties penalty is amount (edge ∷ rest) =
    omega (arith, no_penalties penalty is amount rest, is edge (routes.owed amount rest))

free_worth : (penalty : PointEdge → ℕ → ℕ) → IsFree penalty → (amount : ℕ) (walk : List PointEdge)
    → routes.sent amount walk ≡ preferred.worth penalty amount walk
free_worth penalty is amount [] = refl
free_worth penalty is amount (edge ∷ rest) = omega (arith, no_penalties penalty is amount rest)

free_key : (penalty : PointEdge → ℕ → ℕ) → IsFree penalty → (request : Request) (walk : List PointEdge)
    → routes.walk_key request walk ≡ preferred.worth_key penalty request walk
free_key penalty is request walk = ap (λ n. n ∷ length walk ∷ routes.ids walk) (free_worth penalty is request.amount walk)

-- the orders are the same
pub free_order : (penalty : PointEdge → ℕ → ℕ) → IsFree penalty → (request : Request) (walk other : List PointEdge)
    → slice_cmp nat_cmp (routes.walk_key request walk) (routes.walk_key request other)
    ≡ slice_cmp nat_cmp (preferred.worth_key penalty request walk) (preferred.worth_key penalty request other)
free_order penalty is request walk other =
    ap (λ k. slice_cmp nat_cmp k (routes.walk_key request other)) (free_key penalty is request walk)
    ∙ ap (slice_cmp nat_cmp (preferred.worth_key penalty request walk)) (free_key penalty is request other)

-- every usable walk is within no limits
pub within_none : (edges : List PointEdge) (request : Request) (walk : List PointEdge) → routes.IsUsable edges request walk
    → IsWithin no_limits walk
within_none edges request walk usable = record { short = usable.few; in_time = tt }

pub found_free : (penalty : PointEdge → ℕ → ℕ) → IsFree penalty → (edges : List PointEdge) (request : Request)
    (found : Result (List Hop) RouteFault) → IsFoundBy penalty no_limits edges request found → IsFoundOver edges request found
found_free penalty is edges request (Ok hops) found = (
  found.0,
  record {
    usable = found.1.usable;
    first = λ other able before. found.1.first other able (within_none edges request other able)
        (sym (free_order penalty is request other found.0) ∙ before);
  },
  found.2,
)
found_free penalty is edges request (Err fault) found =
    (found.0, λ walk able. found.1 walk able (within_none edges request walk able))

pub free_found : (penalty : PointEdge → ℕ → ℕ) → IsFree penalty → (edges : List PointEdge) (request : Request)
    (found : Result (List Hop) RouteFault) → IsFoundOver edges request found → IsFoundBy penalty no_limits edges request found
free_found penalty is edges request (Ok hops) found = (
  found.0,
  record {
    usable = found.1.usable;
    within = within_none edges request found.0 found.1.usable;
    first = λ other able within before. found.1.first other able (free_order penalty is request other found.0 ∙ before);
  },
  found.2,
)
free_found penalty is edges request (Err fault) found = (found.0, λ walk able within. found.1 walk able)
