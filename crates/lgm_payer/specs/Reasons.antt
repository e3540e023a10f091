-- Why nothing is sent, and whether a smaller part may be.
use Rattle.std.specs.Prelude.{Bool, true, false}
use Rattle.lgm_route.specs.declared.fault.RouteFault.TheVariants as faults
use Rattle.lgm_route.specs.declared.found.SearchFault.TheVariants.{Fault, Undecided}
use Rattle.lgm_payer.specs.declared.unfound.Unfound.{Unfound}
use Rattle.lgm_payer.specs.declared.unfound.Unfound.TheVariants.{Search, TooDear, Short, PayeeShort, PathsShort}

-- a smaller part may have a route, or a cheaper one, or one that is found sooner
abbrev pub is_mendable : Unfound → Bool
is_mendable (Search (Fault faults.AmountZero)) = false
is_mendable (Search (Fault faults.AmountTooLarge)) = false
is_mendable (Search (Fault faults.ExpiryTooLarge)) = false
is_mendable (Search (Fault faults.SelfPayment)) = false
is_mendable (Search (Fault faults.NoRoute)) = true
is_mendable (Search (Fault faults.NoMemory)) = false
is_mendable (Search Undecided) = true
is_mendable (TooDear fee) = true
is_mendable (Short room) = false
is_mendable (PayeeShort room) = false
is_mendable (PathsShort room) = false
