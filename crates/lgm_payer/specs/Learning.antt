-- What a payer learns of edges by its parts.
use Rattle.std.specs.Prelude.{ℕ, ◌-◌, ◌^◌, ◌&&◌, min, List, fold, take, Option, Some, None, slice_get, if◌then◌else◌}
use Rattle.lgm_wire.specs.declared.point.Point.{Point}
use Rattle.lgm_graph.specs.declared.estimate.Estimate.{Estimate}
use Rattle.lgm_graph.specs.declared.overlay.ExtraEdge.{ExtraEdge}
use Rattle.lgm_graph.specs.declared.route.Hop.{Hop}
use Rattle.lgm_odds.specs.declared.lesson.Lesson.{Lesson}
use Rattle.lgm_odds.specs.declared.lesson.Lesson.TheVariants.{Carried, Gone}
use Rattle.lgm_odds.specs.declared.lesson.Lesson.TheVariants as lessons
use Rattle.lgm_odds.specs.Carried.{carried_over}
use Rattle.lgm_odds.specs.Lessons.{taught_by}
use Rattle.lgm_payer.specs.declared.failure.Ending.{Ending}
use Rattle.lgm_payer.specs.declared.failure.Ending.TheVariants.{Unreadable, Failed}
use Rattle.lgm_payer.specs.declared.failure.FailureKind.{FailureKind}
use Rattle.lgm_payer.specs.declared.part.Part.{Part}
use Rattle.lgm_payer.specs.Failures.{kind_of, is_balance}
use Rattle.lgm_payer.specs.Parts.{held_hops}
use Rattle.lgm_payer.specs.Payments.{PaymentState}
use Rattle.lgm_payer.specs.Overlays.{is_public}

-- by a hop of the map's, with what it carries
abbrev pub taught_public : Lesson → Point → List ExtraEdge → ℕ → Point → Estimate → Hop → Estimate
taught_public lesson payer hints scid from estimate hop =
    if is_public payer hints hop then taught_by lesson hop hop.amount scid from estimate else estimate

-- by each of these hops
abbrev pub taught_all : Lesson → Point → List ExtraEdge → List Hop → ℕ → Point → Estimate → Estimate
taught_all lesson payer hints hops scid from estimate = fold (taught_public lesson payer hints scid from) estimate hops

-- ---- where a part failed

-- by a hop of the map's that a node didn't take for want of a balance: it failed to carry all that is under way over it
abbrev pub taught_refused : FailureKind → Point → List ExtraEdge → List Hop → Option Hop → ℕ → Point → Estimate → Estimate
taught_refused kind payer hints busy None scid from estimate = estimate
taught_refused kind payer hints busy (Some hop) scid from estimate =
    if is_balance kind && is_public payer hints hop
    then taught_by lessons.Failed hop (min (2 ^ 64 - 1) (carried_over busy hop.scid hop.from)) scid from estimate else estimate

-- the hops up to the node that returned a failure have carried their amounts
abbrev pub learnt_from : Point → List ExtraEdge → List Hop → List Hop → Ending → ℕ → Point → Estimate → Estimate
learnt_from payer hints busy route Unreadable scid from estimate = estimate
learnt_from payer hints busy route (Failed failure) scid from estimate =
    taught_refused (kind_of failure.code) payer hints busy (slice_get route failure.place) scid from
    (taught_all Carried payer hints (take failure.place route) scid from estimate)

-- by the part at a place of a payment, if there is one
abbrev pub learnt_of : PaymentState → List Hop → Option Part → Ending → ℕ → Point → Estimate → Estimate
learnt_of payment busy None ending scid from estimate = estimate
learnt_of payment busy (Some part) ending scid from estimate =
    learnt_from payment.payer payment.hints busy part.route ending scid from estimate

abbrev pub learnt_at : PaymentState → List Hop → ℕ → Ending → ℕ → Point → Estimate → Estimate
learnt_at payment busy place ending scid from estimate =
    learnt_of payment busy (slice_get payment.parts place) ending scid from estimate

-- ---- where the payee took the whole

-- by a part: what it carries is gone from its edges for good
abbrev pub taught_arrived : Point → List ExtraEdge → ℕ → Point → Estimate → Part → Estimate
taught_arrived payer hints scid from estimate part = taught_all Gone payer hints (held_hops part) scid from estimate

-- by all that are under way
abbrev pub learnt_arrived : Point → List ExtraEdge → List Part → ℕ → Point → Estimate → Estimate
learnt_arrived payer hints parts scid from estimate = fold (taught_arrived payer hints scid from) estimate parts
