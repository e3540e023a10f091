-- A payment: what is left of it, and what the events make of it.
use Rattle.std.specs.Prelude.{◌≡◌, ℕ, ◌+◌, ◌-◌, ◌<◌, ◌≤◌, min, max, List, [], ◌∷◌, ◌++◌, All, length, sum_by, count_by, filter}
use Rattle.std.specs.Prelude.{Bool, true, false, not, ◌==◌, Option, Some, slice_get, slice_set, if◌then◌else◌}
use Rattle.std.specs.List.{position}
use Rattle.lgm_wire.specs.declared.point.Point.{Point}
use Rattle.lgm_wire.specs.Tlv.{TlvRecord}
use Rattle.lgm_store.specs.Rows.{is_point}
use Rattle.lgm_graph.specs.declared.overlay.ExtraEdge.{ExtraEdge}
use Rattle.lgm_graph.specs.Route.{sent}
use Rattle.lgm_payload.specs.Arrival.{ArrivalParts}
use Rattle.lgm_payer.specs.declared.invoice.Invoice.{Invoice}
use Rattle.lgm_payer.specs.declared.bounds.Bounds.{Bounds}
use Rattle.lgm_payer.specs.declared.failure.Ending.{Ending}
use Rattle.lgm_payer.specs.declared.part.Part.{Part}
use Rattle.lgm_payer.specs.declared.stage.Stage.{Stage}
use Rattle.lgm_payer.specs.declared.stage.Stage.TheVariants.{Open, Abandoned, Paid}
use Rattle.lgm_payer.specs.Parts.{is_held, held_amount, held_fee}

-- its number, who pays what, what the payee gets beside the route, within which bounds; what became of it; and all parts
-- that were ever sent
pub record PaymentState : Type 0 where
  pub number : ℕ
  pub payer : Point
  pub invoice : Invoice
  pub hints : List ExtraEdge
  pub arrival : ArrivalParts
  pub bounds : Bounds
  pub stage : Stage
  pub parts : List Part

-- a hint, unless it leaves the payer: the payer alone says what its channels are
abbrev pub is_others : Point → ExtraEdge → Bool
is_others payer hint = not (is_point hint.from payer)

-- a payment of which nothing was sent yet
abbrev pub payment_of : ℕ → Point → Invoice → List ExtraEdge → Option (List ℕ) → List TlvRecord → Bounds → PaymentState
payment_of number payer invoice hints metadata records bounds = record {
  number = number;
  payer = payer;
  invoice = invoice;
  hints = filter (is_others payer) hints;
  arrival = record { secret = invoice.secret; total = invoice.amount; metadata = metadata; records = records };
  bounds = bounds;
  stage = Open;
  parts = [];
}

-- the payee took the whole
abbrev pub is_paid_at : Stage → Bool
is_paid_at Open = false
is_paid_at Abandoned = false
is_paid_at Paid = true

abbrev pub is_paid : PaymentState → Bool
is_paid payment = is_paid_at payment.stage

-- ---- what is left

-- what is neither under way nor has arrived
abbrev pub left : PaymentState → ℕ
left payment = payment.invoice.amount - sum_by held_amount payment.parts

-- the fees of all parts that are under way or have arrived
abbrev pub fees : PaymentState → ℕ
fees payment = sum_by held_fee payment.parts

-- how many parts may be under way or have arrived
abbrev pub most_at_once : Invoice → Bounds → ℕ
most_at_once invoice bounds = if invoice.basic_mpp then max 1 bounds.most_parts else 1

-- how many more may be
abbrev pub parts_left : PaymentState → ℕ
parts_left payment = most_at_once payment.invoice payment.bounds - count_by is_held payment.parts

-- what a part has to be: the least part, or the whole amount if that is less
abbrev pub least_amount : Invoice → Bounds → ℕ
least_amount invoice bounds = min bounds.least_part invoice.amount

-- an amount of a next part: something of what is left, which is enough for a part and leaves nothing or enough for another
-- one; and all of it where only one part may carry it
pub record IsShare (payment : PaymentState) (amount : ℕ) : Type 0 where
  pub some : 1 ≤ amount
  pub within : amount ≤ left payment
  pub enough : least_amount payment.invoice payment.bounds ≤ amount
  pub leaves : amount < left payment → amount + least_amount payment.invoice payment.bounds ≤ left payment
  pub last : parts_left payment ≤ 1 → amount ≡ left payment

-- ---- the events

-- a part was sent
abbrev pub with_sent : Part → PaymentState → PaymentState
with_sent part payment = record payment { parts = payment.parts ++ part ∷ [] }

-- the place of the part with a number
abbrev pub part_place : List Part → ℕ → Option ℕ
part_place parts number = position (λ part. part.number == number) parts

-- the part at a place failed
pub record IsEnded (place : ℕ) (ending : Ending) (old new : PaymentState) : Type 0 where
  pub part : Part
  pub there : slice_get old.parts place ≡ Some part
  pub held : is_held part ≡ true
  pub ends : new ≡ record old { parts = slice_set old.parts place (record part { ending = Some ending }) }

-- ---- what always holds

-- the bounds are kept, no part is below the least one, and while something is left it is enough for a part, and one may be
-- sent
pub record KeepsBounds (invoice : Invoice) (bounds : Bounds) (parts : List Part) : Type 0 where
  pub amount : sum_by held_amount parts ≤ invoice.amount
  pub fee : sum_by held_fee parts ≤ bounds.most_fee
  pub few : count_by is_held parts ≤ most_at_once invoice bounds
  pub tries : length parts ≤ bounds.most_tries
  pub in_time : All (λ part. part.blocks ≤ bounds.most_blocks) parts
  pub sends : All (λ part. sent part.route ≡ part.amount + part.fee) parts
  pub enough : All (λ part. least_amount invoice bounds ≤ part.amount) parts
  pub leaves : sum_by held_amount parts < invoice.amount → sum_by held_amount parts + least_amount invoice bounds ≤ invoice.amount
  pub spare : sum_by held_amount parts < invoice.amount → count_by is_held parts < most_at_once invoice bounds
