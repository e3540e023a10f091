-- Payments that are restored from what was kept of them.
use Rattle.std.specs.Prelude.{ℕ, ◌+◌, ◌-◌, Bool, nat_le, nat_lt, ◌==◌, ◌&&◌, ◌||◌, List, length, sum_by, count_by, Option, Some, None, if◌then◌else◌}
use Rattle.std.specs.List.{list_all}
use Rattle.lgm_graph.specs.Route.{sent}
use Rattle.lgm_payer.specs.declared.invoice.Invoice.{Invoice}
use Rattle.lgm_payer.specs.declared.bounds.Bounds.{Bounds}
use Rattle.lgm_payer.specs.declared.part.Part.{Part}
use Rattle.lgm_payer.specs.Parts.{is_held, held_amount, held_fee}
use Rattle.lgm_payer.specs.Payments.{PaymentState, most_at_once, least_amount}

-- whether a part is within the bounds, and its amount and fee are what is sent over its route
abbrev pub is_sound_part : Invoice → Bounds → Part → Bool
is_sound_part invoice bounds part =
    nat_le part.blocks bounds.most_blocks && (sent part.route == part.amount + part.fee)
    && nat_le (least_amount invoice bounds) part.amount

-- whether some amount is left, and then is enough for a part, of which one more may be under way; or else none is
abbrev pub is_divisible : Invoice → Bounds → ℕ → ℕ → Bool
is_divisible invoice bounds left held =
    (left == 0) || (nat_le (least_amount invoice bounds) left && nat_lt held (most_at_once invoice bounds))

-- whether there is an amount, and no more parts than allowed
abbrev pub is_counted : Invoice → Bounds → List Part → Bool
is_counted invoice bounds parts =
    nat_le 1 invoice.amount && nat_le (count_by is_held parts) (most_at_once invoice bounds)
    && nat_le (length parts) bounds.most_tries

-- whether the parts count for no more than the amount, and what is left is divisible
abbrev pub is_covered : Invoice → Bounds → List Part → Bool
is_covered invoice bounds parts =
    nat_le (sum_by held_amount parts) invoice.amount
    && is_divisible invoice bounds (invoice.amount - sum_by held_amount parts) (count_by is_held parts)

-- whether all that holds of each payment holds of this one: some amount, and `KeepsBounds`
abbrev pub is_sound : Invoice → Bounds → List Part → Bool
is_sound invoice bounds parts =
    is_counted invoice bounds parts && nat_le (sum_by held_fee parts) bounds.most_fee && is_covered invoice bounds parts
    && list_all (is_sound_part invoice bounds) parts

-- a payment with these parts, if it can be one
abbrev pub restored : PaymentState → Option PaymentState
restored payment = if is_sound payment.invoice payment.bounds payment.parts then Some payment else None
