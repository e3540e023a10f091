-- What is checked of routes and payments.
use Rattle.std.proofs.Common.{◌≡◌, ◌≤◌, List, length, Ok, Some, None, refl, inl, inr}
use Rattle.std.proofs.lemmas.Bool.{le-leb}
use Rattle.lgm_wire.proofs.ReadingLaws.{chosen}
use Rattle.lgm_graph.specs.declared.route.Hop.{Hop}
use Rattle.lgm_payer.specs.Payments.{PaymentState}
use Rattle.lgm_payer.specs.Restoring.{is_sound, restored}
use Rattle.lgm_payer_state.specs.reading.PaymentsReading.{route_of}

-- 1 to 20 hops are a route
pub route_fits : (hops : List Hop) → 1 ≤ length hops → length hops ≤ 20 → route_of hops ≡ Ok hops
route_fits hops some few = rw (le-leb _ _ some, le-leb _ _ few) refl

-- a payment that is restored is the one that was asked for
pub restored_is : (asked payment : PaymentState) → restored asked ≡ Some payment → payment ≡ asked
restored_is asked payment e =
    elim (chosen (is_sound asked.invoice asked.bounds asked.parts) (Some asked) None (Some payment) e) [
      | inl is ↦ let same = is.1 in cc
      | inr bad ↦ let none = bad.1 in absurd cc
    ]
