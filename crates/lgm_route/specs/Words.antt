-- The numbers and the words of refusals.
use Rattle.std.specs.Prelude.{ℕ, List, [], codes}
use Rattle.lgm_route.specs.declared.fault.RouteFault.{RouteFault}
use Rattle.lgm_route.specs.declared.fault.RouteFault.TheVariants as faults

-- the number
abbrev pub route_number : RouteFault → ℕ
route_number faults.AmountZero = 21
route_number faults.AmountTooLarge = 22
route_number faults.ExpiryTooLarge = 23
route_number faults.SelfPayment = 24
route_number faults.NoRoute = 25
route_number faults.NoMemory = 26

-- the word, empty for out of memory
abbrev pub route_word : RouteFault → List ℕ
route_word faults.AmountZero = codes "amount-zero"
route_word faults.AmountTooLarge = codes "amount-too-large"
route_word faults.ExpiryTooLarge = codes "expiry-too-large"
route_word faults.SelfPayment = codes "self-payment"
route_word faults.NoRoute = codes "no-route"
route_word faults.NoMemory = []
