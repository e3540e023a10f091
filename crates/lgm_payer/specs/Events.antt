-- What becomes of parts and payments.
use Rattle.std.specs.Prelude.{◌≡◌, ◌⊎◌, ℕ, Bool, ◌==◌, nat_lt, List, length, Option, Some, None, Result, Ok, Err, slice_get, slice_set, if◌then◌else◌}
use Rattle.std.specs.Prelude.{remove}
use Rattle.std.specs.List.{list_any}
use Rattle.std.specs.Option.{option_map_or}
use Rattle.lgm_graph.specs.declared.route.Hop.{Hop}
use Rattle.lgm_store.specs.Rows.{Rows}
use Rattle.lgm_odds.specs.declared.fading.Elapsed.{Elapsed}
use Rattle.lgm_odds.specs.Lessons.{AreTaught}
use Rattle.lgm_odds.specs.Fading.{AreFaded}
use Rattle.lgm_payer.specs.declared.failure.Ending.{Ending}
use Rattle.lgm_payer.specs.declared.failure.Ending.TheVariants.{Unreadable, Failed}
use Rattle.lgm_payer.specs.declared.part.Part.{Part}
use Rattle.lgm_payer.specs.declared.stage.Stage.TheVariants.{Abandoned, Paid}
use Rattle.lgm_payer.specs.declared.payer_fault.PayerFault.{PayerFault}
use Rattle.lgm_payer.specs.declared.payer_fault.PayerFault.TheVariants.{UnknownPayment, UnknownPart, NotUnderWay, BeyondRoute, ForeignCode}
use Rattle.lgm_payer.specs.declared.payer_fault.PayerFault.TheVariants.{NothingUnderWay, AlreadyPaid, UnderWay, NoMemory}
use Rattle.lgm_payer.specs.Failures.{may_send}
use Rattle.lgm_payer.specs.Parts.{is_held}
use Rattle.lgm_payer.specs.Payments.{PaymentState, is_paid, part_place, IsEnded}
use Rattle.lgm_payer.specs.UnderWay.{all_under_way}
use Rattle.lgm_payer.specs.Learning.{learnt_at, learnt_arrived}
use Rattle.lgm_payer.specs.Payers.{PayerState, payment_place, IsPayment}

-- ---- a part fails

-- why a part over a route can't have ended so: the place is beyond the route, or the node there doesn't send such a code
abbrev pub failure_fault : List Hop → Ending → Option PayerFault
failure_fault route Unreadable = None
failure_fault route (Failed failure) =
    if nat_lt (length route) failure.place then Some BeyondRoute
    else if may_send (failure.place == length route) failure.code then None else Some ForeignCode

abbrev pub unless_fault : Option PayerFault → ℕ → Result ℕ PayerFault
unless_fault None place = Ok place
unless_fault (Some fault) place = Err fault

-- the place of the part, unless it has failed or can't have ended so
abbrev pub part_checked : ℕ → Ending → Part → Result ℕ PayerFault
part_checked place ending part = if is_held part then unless_fault (failure_fault part.route ending) place else Err NotUnderWay

-- the place of the part with a number, if it is there
abbrev pub place_checked : List Part → Ending → Option ℕ → Result ℕ PayerFault
place_checked parts ending None = Err UnknownPart
place_checked parts ending (Some place) = option_map_or (part_checked place ending) (slice_get parts place) (Err UnknownPart)

-- the same, unless the payee took the whole
abbrev pub ending_checked : PaymentState → ℕ → Ending → Result ℕ PayerFault
ending_checked payment part ending =
    if is_paid payment then Err NotUnderWay else place_checked payment.parts ending (part_place payment.parts part)

-- a part of a payment failed, and what that teaches was learnt; nothing else changed
pub record IsEndedIn (old new : PayerState) (payment part : ℕ) (ending : Ending) : Type 0 where
  pub place : ℕ
  pub at : ℕ
  pub before : PaymentState
  pub after : PaymentState
  pub is : IsPayment old.payments payment place before
  pub checked : ending_checked before part ending ≡ Ok at
  pub ends : IsEnded at ending before after
  pub learnt : AreTaught (learnt_at before (all_under_way old.payments) at ending) old.learnt new.learnt
  pub others : new ≡ record old { payments = slice_set old.payments place after; learnt = new.learnt }

-- ---- the payee took the whole

abbrev pub has_held : PaymentState → Bool
has_held payment = list_any is_held payment.parts

-- why it can't have: it did before, or nothing is under way
abbrev pub fulfilling_fault : PaymentState → Option PayerFault
fulfilling_fault payment =
    if is_paid payment then Some AlreadyPaid else if has_held payment then None else Some NothingUnderWay

-- all parts of a payment that are under way arrived, and what that teaches was learnt; nothing else changed
pub record IsFulfilledIn (old new : PayerState) (payment : ℕ) : Type 0 where
  pub place : ℕ
  pub before : PaymentState
  pub is : IsPayment old.payments payment place before
  pub checked : fulfilling_fault before ≡ None
  pub learnt : AreTaught (learnt_arrived before.payer before.hints before.parts) old.learnt new.learnt
  pub others : new ≡ record old { payments = slice_set old.payments place (record before { stage = Paid }); learnt = new.learnt }

-- ---- nothing more is sent

-- why it can't be abandoned: the payee took the whole
abbrev pub abandoning_fault : PaymentState → Option PayerFault
abandoning_fault payment = if is_paid payment then Some AlreadyPaid else None

pub record IsAbandonedIn (old new : PayerState) (payment : ℕ) : Type 0 where
  pub place : ℕ
  pub before : PaymentState
  pub is : IsPayment old.payments payment place before
  pub checked : abandoning_fault before ≡ None
  pub others : new ≡ record old { payments = slice_set old.payments place (record before { stage = Abandoned }) }

-- ---- a payment is forgotten

-- why it can't be: something is under way
abbrev pub forgetting_fault : PaymentState → Option PayerFault
forgetting_fault payment = if is_paid payment then None else if has_held payment then Some UnderWay else None

-- a payment is gone. If it was paid, the payer's channels have to reckon all parts that were sent so far
pub record IsForgottenIn (old new : PayerState) (payment : ℕ) : Type 0 where
  pub place : ℕ
  pub before : PaymentState
  pub is : IsPayment old.payments payment place before
  pub checked : forgetting_fault before ≡ None
  pub others : new ≡ record old {
    payments = remove old.payments place;
    settled = if is_paid before then old.sent else old.settled;
  }

-- ---- time goes by

-- what was learnt faded; nothing else changed
pub record IsFadedIn (rows : Rows) (time : Elapsed) (old new : PayerState) : Type 0 where
  pub learnt : AreFaded rows time old.learnt new.learnt
  pub others : new ≡ record old { learnt = new.learnt }

-- ---- why an event is refused

-- there is no such payment, a check of it fails, or out of memory
abbrev pub IsRefused : (PaymentState → Option PayerFault) → PayerState → ℕ → PayerFault → Type 0
IsRefused check payer payment fault =
    ((payment_place payer.payments payment ≡ None) × (fault ≡ UnknownPayment))
    ⊎ (((place : ℕ) × ((state : PaymentState) × IsPayment payer.payments payment place state × (check state ≡ Some fault)))
    ⊎ (fault ≡ NoMemory))

-- the fault of a check
abbrev pub fault_in : Result ℕ PayerFault → Option PayerFault
fault_in (Ok place) = None
fault_in (Err fault) = Some fault
