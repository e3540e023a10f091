-- What is under way.
use Rattle.std.specs.Prelude.{ℕ, ◌&&◌, nat_le, List, [], if◌then◌else◌}
use Rattle.std.specs.List.{flat_map}
use Rattle.lgm_graph.specs.declared.route.Hop.{Hop}
use Rattle.lgm_payer.specs.declared.part.Part.{Part}
use Rattle.lgm_payer.specs.Parts.{is_held, held_hops}
use Rattle.lgm_payer.specs.Payments.{PaymentState, is_paid}

-- the hops of a payment's parts that are under way: none once the payee took the whole
abbrev pub hops_under_way : PaymentState → List Hop
hops_under_way payment = if is_paid payment then [] else flat_map held_hops payment.parts

-- those of all payments
abbrev pub all_under_way : List PaymentState → List Hop
all_under_way payments = flat_map hops_under_way payments

-- the hops of a part of this number or a later one, unless it failed
abbrev pub hops_since : ℕ → Part → List Hop
hops_since number part = if nat_le number part.number && is_held part then part.route else []

-- those of all payments, whether they are under way or have arrived
abbrev pub all_since : ℕ → List PaymentState → List Hop
all_since number payments = flat_map (λ payment. flat_map (hops_since number) payment.parts) payments
