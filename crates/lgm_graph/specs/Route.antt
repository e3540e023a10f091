-- What the payer of a route sends, and when it expires: amount and expiry of the first hop.
use Rattle.std.specs.Prelude.{ℕ, List, [], ◌∷◌}
use Rattle.lgm_graph.specs.declared.route.Hop.{Hop}

abbrev pub sent : List Hop → ℕ
sent [] = 0
sent (hop ∷ hops) = hop.amount

abbrev pub expiry : List Hop → ℕ
expiry [] = 0
expiry (hop ∷ hops) = hop.expiry
