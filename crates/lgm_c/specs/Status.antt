-- The numbers that calls return.
use Rattle.std.specs.Prelude.{◌≡◌, ℕ, Option, Some, None, Result, Ok, Err}
use Rattle.lgm_check.specs.Refusal.{number_of as number_of_refusal}
use Rattle.lgm_check.specs.declared.refusal.Refusal.{Refusal}
use Rattle.lgm_check.specs.declared.refusal.Refusal.TheVariants as refusals
use Rattle.lgm_route.specs.declared.fault.RouteFault.{RouteFault}
use Rattle.lgm_route.specs.declared.fault.RouteFault.TheVariants as reasons
use Rattle.lgm_route.specs.declared.found.SearchFault.{SearchFault}
use Rattle.lgm_route.specs.declared.found.SearchFault.TheVariants as searched
use Rattle.lgm_payload.specs.declared.arrival_fault.ArrivalFault.{ArrivalFault}
use Rattle.lgm_payload.specs.declared.arrival_fault.ArrivalFault.TheVariants as arrivals
use Rattle.lgm_save.specs.declared.fault.LoadFault.{LoadFault}
use Rattle.lgm_save.specs.declared.fault.LoadFault.TheVariants as loads
use Rattle.lgm_payer_state.specs.declared.state_fault.StateFault.{StateFault}
use Rattle.lgm_payer_state.specs.declared.state_fault.StateFault.TheVariants as states
use Rattle.lgm_payer.specs.declared.payer_fault.PayerFault.{PayerFault}
use Rattle.lgm_payer.specs.declared.payer_fault.PayerFault.TheVariants as told
use Rattle.lgm_payer.specs.declared.unfound.Unfound.{Unfound}
use Rattle.lgm_payer.specs.declared.unfound.Unfound.TheVariants as sought
use Rattle.lgm_payer.specs.declared.unpaid.Unpaid.{Unpaid}
use Rattle.lgm_payer.specs.declared.unpaid.Unpaid.TheVariants as asked
use Rattle.lgm_c.specs.declared.argument_fault.ArgumentFault.TheVariants as wrong
use Rattle.lgm_c.specs.declared.payment_fault.PaymentFault.TheVariants as payments
use Rattle.lgm_c.specs.declared.fault.Fault.{Fault}
use Rattle.lgm_c.specs.declared.fault.Fault.TheVariants as faults
use Rattle.lgm_c.specs.Arguments.{argument_number}
use Rattle.lgm_c.specs.PaymentFaults.{payment_number}

abbrev pub no_memory : ℕ
no_memory = 102

-- a number, or that of out of memory
abbrev pub or_no_memory : Option ℕ → ℕ
or_no_memory (Some number) = number
or_no_memory None = no_memory

abbrev pub number_of_unrouted : RouteFault → ℕ
number_of_unrouted reasons.AmountZero = 21
number_of_unrouted reasons.AmountTooLarge = 22
number_of_unrouted reasons.ExpiryTooLarge = 23
number_of_unrouted reasons.SelfPayment = 24
number_of_unrouted reasons.NoRoute = 25
number_of_unrouted reasons.NoMemory = no_memory

abbrev pub number_of : Fault → ℕ
number_of (faults.Refused refusal) = or_no_memory (number_of_refusal refusal)
number_of (faults.Unrouted fault) = number_of_unrouted fault
number_of faults.Undecided = 26
number_of faults.NotQuery = 31
number_of faults.NotFilter = 32
number_of faults.NotAnnounced = 33
number_of faults.NotSaved = 34
number_of faults.NotReply = 35
number_of faults.Closed = 100
number_of faults.Open = 101
number_of faults.NoMemory = no_memory
number_of faults.Room = 104
number_of faults.Full = 105
number_of faults.Published = 106
number_of faults.None = 107
number_of (faults.Payment fault) = payment_number fault
number_of (faults.Argument fault) = argument_number fault

-- a refusal of an item, and a reason why a payment has no route; out of memory is neither
abbrev pub refused : Refusal → Fault
refused refusals.NoMemory = faults.NoMemory
refused refusal = faults.Refused refusal

abbrev pub unrouted : RouteFault → Fault
unrouted reasons.NoMemory = faults.NoMemory
unrouted reason = faults.Unrouted reason

-- the same of a search within a budget
abbrev pub unfound : SearchFault → Fault
unfound (searched.Fault reason) = unrouted reason
unfound searched.Undecided = faults.Undecided

-- why there are no payloads: a wrong argument, or out of memory
abbrev pub unbuilt : ArrivalFault → Fault
unbuilt arrivals.NoMemory = faults.NoMemory
unbuilt arrivals.Reserved = faults.Argument wrong.RecordType
unbuilt arrivals.Order = faults.Argument wrong.RecordOrder
unbuilt arrivals.TooLong = faults.Argument wrong.Payloads

-- why bytes are of no saved map
abbrev pub unloaded : LoadFault → Fault
unloaded loads.NotSaved = faults.NotSaved
unloaded loads.NoMemory = faults.NoMemory

-- why bytes are of no saved payer, or estimates
abbrev pub unsaved : StateFault → Fault
unsaved states.Damaged = faults.NotSaved
unsaved states.NoMemory = faults.NoMemory

-- why a payer can't be told something
abbrev pub untold : PayerFault → Fault
untold told.AmountZero = faults.Unrouted reasons.AmountZero
untold told.NoParts = faults.Payment payments.NoParts
untold told.NumbersUsedUp = faults.Payment payments.NumbersUsedUp
untold told.UnknownPayment = faults.Payment payments.UnknownPayment
untold told.UnknownPart = faults.Payment payments.UnknownPart
untold told.NotUnderWay = faults.Payment payments.NotUnderWay
untold told.BeyondRoute = faults.Payment payments.BeyondRoute
untold told.ForeignCode = faults.Payment payments.ForeignCode
untold told.NothingUnderWay = faults.Payment payments.NothingUnderWay
untold told.AlreadyPaid = faults.Payment payments.AlreadyPaid
untold told.UnderWay = faults.Payment payments.UnderWay
untold told.NoMemory = faults.NoMemory

-- why a part has no route within the bounds of its payment
abbrev pub unsent : Unfound → Fault
unsent (sought.Search reason) = unfound reason
unsent (sought.TooDear fee) = faults.Payment payments.TooDear
unsent (sought.Short room) = faults.Payment payments.ChannelsShort
unsent (sought.PayeeShort room) = faults.Payment payments.PayeeShort
unsent (sought.PathsShort room) = faults.Payment payments.PathsShort

-- why no part of a payment is sent
abbrev pub unpaid : Unpaid → Fault
unpaid asked.UnknownPayment = faults.Payment payments.UnknownPayment
unpaid asked.ForeignChannel = faults.Payment payments.ForeignChannel
unpaid asked.ReckonedAhead = faults.Payment payments.ReckonedAhead
unpaid asked.ReckonedBefore = faults.Payment payments.ReckonedBefore
unpaid asked.TooManyPoints = faults.Full
unpaid asked.Abandoned = faults.Payment payments.Abandoned
unpaid (asked.PayeeRefused code) = faults.Payment payments.PayeeRefused
unpaid asked.TriesUsedUp = faults.Payment payments.TriesUsedUp
unpaid (asked.Unfound reason) = unsent reason
unpaid (asked.Payloads reason) = unbuilt reason
unpaid asked.NumbersUsedUp = faults.Payment payments.NumbersUsedUp

-- whether a call may run out of memory: one that succeeds may, one that returns a fault only if finding it allocates
abbrev pub MayRunOut : {A E : Type 0} → Type 0 → Result A E → Type 0
MayRunOut takes (Ok answer) = Unit {0}
MayRunOut takes (Err fault) = takes

-- 0 if the call succeeded
abbrev pub status_of : {A : Type 0} → Result A Fault → ℕ
status_of (Ok answer) = 0
status_of (Err fault) = number_of fault

-- the answer of an open handle; a closed one has only its fault
abbrev pub if_open : {H A : Type 0} → Option H → (H → Result A Fault) → Result A Fault
if_open None answer = Err faults.Closed
if_open (Some state) answer = answer state

-- a value was written, or the fault was returned and the old value is unchanged
abbrev pub Finds : {A : Type 0} → Result A Fault → ℕ → A → A → Type 0
Finds (Ok found) status old new = (status ≡ 0) × (new ≡ found)
Finds (Err fault) status old new = (status ≡ number_of fault) × (new ≡ old)
