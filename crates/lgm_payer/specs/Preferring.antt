-- What a payer prefers for a payment unless it is told.
use Rattle.std.specs.Prelude.{ℕ, ◌-◌, ◌*◌, ◌/◌, ◌^◌, min, max, Option}
use Rattle.std.specs.Option.{unwrap_or}
use Rattle.lgm_route.specs.declared.preferences.Preferences.{Preferences}
use Rattle.lgm_payer.specs.Payments.{PaymentState}

-- what a failed try is worth: 200 millionths of the whole payment's amount, but a hundredth of it up to 20 satoshis; of 32
-- bits
abbrev pub failure_for : ℕ → ℕ
failure_for amount = min (2 ^ 32 - 1) (max (min 20000 (amount / 100)) (amount * 200 / 1000000))

-- and half a satoshi for a hop
abbrev pub usual_preferences : ℕ → Preferences
usual_preferences amount = record { failure_msat = failure_for amount; hop_msat = 500 }

-- what was chosen, or else this for the payment's amount
abbrev pub preferences_for : Option Preferences → PaymentState → Preferences
preferences_for chosen payment = unwrap_or chosen (usual_preferences payment.invoice.amount)
