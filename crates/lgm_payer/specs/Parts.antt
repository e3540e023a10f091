-- Parts of a payment: which count.
use Rattle.std.specs.Prelude.{ℕ, ◌-◌, Bool, List, [], None, is_none, if◌then◌else◌}
use Rattle.lgm_graph.specs.declared.route.Hop.{Hop}
use Rattle.lgm_graph.specs.Route.{sent, expiry}
use Rattle.lgm_payer.specs.declared.part.Part.{Part}

-- a part over a route, asked for at a height
abbrev pub part_of : ℕ → List Hop → ℕ → ℕ → Part
part_of number route amount height = record {
  number = number;
  route = route;
  amount = amount;
  fee = sent route - amount;
  blocks = expiry route - height;
  ending = None;
}

-- it hasn't failed: it is under way, or has arrived if its payment is paid
abbrev pub is_held : Part → Bool
is_held part = is_none part.ending

-- what it counts for
abbrev pub held_amount : Part → ℕ
held_amount part = if is_held part then part.amount else 0

abbrev pub held_fee : Part → ℕ
held_fee part = if is_held part then part.fee else 0

-- its hops, unless it failed
abbrev pub held_hops : Part → List Hop
held_hops part = if is_held part then part.route else []
