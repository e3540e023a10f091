-- What was learnt by all reports.
use Rattle.std.specs.Prelude.{ℕ, List, [], ◌∷◌, ◌++◌, Option, fold}
use Rattle.lgm_wire.specs.declared.point.Point.{Point}
use Rattle.lgm_wire.specs.Tlv.{TlvRecord}
use Rattle.lgm_graph.specs.declared.estimate.Estimate.{Estimate}
use Rattle.lgm_graph.specs.declared.overlay.ExtraEdge.{ExtraEdge}
use Rattle.lgm_graph.specs.declared.route.Hop.{Hop}
use Rattle.lgm_store.specs.Rows.{Rows}
use Rattle.lgm_odds.specs.declared.fading.Elapsed.{Elapsed}
use Rattle.lgm_odds.specs.Fading.{faded_at}
use Rattle.lgm_odds.specs.Lessons.{AreTaught}
use Rattle.lgm_payer.specs.declared.bounds.Bounds.{Bounds}
use Rattle.lgm_payer.specs.declared.failure.Ending.{Ending}
use Rattle.lgm_payer.specs.declared.invoice.Invoice.{Invoice}
use Rattle.lgm_payer.specs.declared.offer.Sending.{Sending}
use Rattle.lgm_payer.specs.Payments.{PaymentState}
use Rattle.lgm_payer.specs.UnderWay.{all_under_way}
use Rattle.lgm_payer.specs.Learning.{learnt_at, learnt_arrived}
use Rattle.lgm_payer.specs.Payers.{PayerState, Seen, IsSentIn}
use Rattle.lgm_payer.specs.Events.{IsEndedIn, IsFulfilledIn, IsFadedIn, IsAbandonedIn, IsForgottenIn}
use Rattle.lgm_payer.specs.Beginning.{IsBegun}

-- what a payer is told: of a payment the part at a place failed beside what was under way, or the payee took the whole; or time
-- went by, beside a map
pub data Report : Type 0 where
  failure : PaymentState → List Hop → ℕ → Ending → Report
  fulfilment : PaymentState → Report
  passing : Rows → Elapsed → Report

-- what is believed of an edge then
abbrev pub reported : ℕ → Point → Estimate → Report → Estimate
reported scid from estimate (failure payment busy place ending) = learnt_at payment busy place ending scid from estimate
reported scid from estimate (fulfilment payment) = learnt_arrived payment.payer payment.hints payment.parts scid from estimate
reported scid from estimate (passing rows time) = faded_at rows time scid from estimate

-- a payer before and after calls, and what it was told by them
pub data IsRun : PayerState → List Report → PayerState → Type 0 where
  still : (payer : PayerState) → IsRun payer [] payer
  begun : (old payer new : PayerState) (reports : List Report) (number : ℕ) (invoice : Invoice) (hints : List ExtraEdge)
      (metadata : Option (List ℕ)) (records : List TlvRecord) (bounds : Bounds) → IsRun old reports payer
      → IsBegun payer new number invoice hints metadata records bounds → IsRun old reports new
  sent : (old payer new : PayerState) (reports : List Report) (seen : Seen) (payment : ℕ) (sending : Sending)
      → IsRun old reports payer → IsSentIn seen payer new payment sending → IsRun old reports new
  failed : (old payer new : PayerState) (reports : List Report) (payment part : ℕ) (ending : Ending) → IsRun old reports payer
      → (ends : IsEndedIn payer new payment part ending)
      → IsRun old (reports ++ failure ends.before (all_under_way payer.payments) ends.at ending ∷ []) new
  fulfilled : (old payer new : PayerState) (reports : List Report) (payment : ℕ) → IsRun old reports payer
      → (pays : IsFulfilledIn payer new payment) → IsRun old (reports ++ fulfilment pays.before ∷ []) new
  faded : (old payer new : PayerState) (reports : List Report) (rows : Rows) (time : Elapsed) → IsRun old reports payer
      → IsFadedIn rows time payer new → IsRun old (reports ++ passing rows time ∷ []) new
  abandoned : (old payer new : PayerState) (reports : List Report) (payment : ℕ) → IsRun old reports payer
      → IsAbandonedIn payer new payment → IsRun old reports new
  forgotten : (old payer new : PayerState) (reports : List Report) (payment : ℕ) → IsRun old reports payer
      → IsForgottenIn payer new payment → IsRun old reports new

-- what was learnt of each edge is the fold of all that was told, whatever else was called between
abbrev pub LearntIsReported : Type 0
LearntIsReported =
    (old new : PayerState) (reports : List Report) → IsRun old reports new
    → AreTaught (λ scid from estimate. fold (reported scid from) estimate reports) old.learnt new.learnt
