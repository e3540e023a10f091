-- What a payer answers that is asked for the next part of a payment.
use Rattle.std.specs.Prelude.{◌≡◌, ℕ, ◌≤◌, List, length, Option, Some, None, Result, Ok, Err, IfOk, IfSome}
use Rattle.lgm_graph.specs.Graph.{Graph}
use Rattle.lgm_graph.specs.Network.{NetworkState}
use Rattle.lgm_graph.specs.declared.overlay.ExtraEdge.{ExtraEdge}
use Rattle.lgm_payload.specs.Building.{onion_len}
use Rattle.lgm_payer.specs.declared.offer.Sending.{Sending}
use Rattle.lgm_payer.specs.declared.unpaid.Unpaid.{Unpaid}
use Rattle.lgm_payer.specs.Payers.{PayerState, Seen, IsSentIn, IsWhole, IsUnpaidIn}
use Rattle.lgm_c.specs.declared.next_part.LgmSight.{LgmSight}
use Rattle.lgm_c.specs.Paying.{preferences_chosen}

-- what it sees in a network with this view
abbrev pub seen_over : LgmSight → List ExtraEdge → NetworkState → Graph → Seen
seen_over sight own network graph = record {
  known = network.known;
  rows = network.rows;
  points = length graph.points;
  own = own;
  reckoned = sight.reckoned;
  preferences = preferences_chosen sight;
  height = sight.height;
}

-- the payloads of a part that it sent fit an onion packet
abbrev pub Fits : Result (Option Sending) Unpaid → Type 0
Fits answer = IfOk answer (λ next. IfSome next (λ (sending : Sending). onion_len sending.payloads ≤ 1300))

-- it sent a part; or none is to be sent, or can be: then it is as before
abbrev pub SendsNext : Seen → ℕ → PayerState → PayerState → Result (Option Sending) Unpaid → Type 0
SendsNext seen payment old new (Ok (Some sending)) = IsSentIn seen old new payment sending
SendsNext seen payment old new (Ok None) = IsWhole old payment × (new ≡ old)
SendsNext seen payment old new (Err reason) = IsUnpaidIn seen old payment reason × (new ≡ old)
