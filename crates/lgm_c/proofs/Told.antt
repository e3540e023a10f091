-- What calls on payers do, of handles.
use Rattle.std.proofs.Common.{◌≡◌, ◌∙◌, ℕ, List, Option, Some, None, Result, true≢false, sym, ap, subst}
use Rattle.std.specs.Prelude.{IfSome, IsSome, map}
use Rattle.lgm_graph.specs.Graph.{Graph}
use Rattle.lgm_graph.specs.Network.{NetworkState}
use Rattle.lgm_graph.specs.declared.overlay.ExtraEdge.{ExtraEdge}
use Rattle.lgm_store.specs.Rows.{Rows}
use Rattle.lgm_payer.specs.declared.offer.Sending.{Sending}
use Rattle.lgm_payer.specs.declared.unpaid.Unpaid.{Unpaid}
use Rattle.lgm_payer.specs.Payers.{PayerState, Seen}
use Rattle.lgm_c.specs.declared.next_part.LgmSight.{LgmSight}
use Rattle.lgm_c.specs.Attempts.{extra_given}
use Rattle.lgm_c.specs.MapState.{MapState}
use Rattle.lgm_c.specs.Paying.{seen_given}
use Rattle.lgm_c.specs.inner.Sending.{seen_over, SendsNext}

-- a call does what it does to what the handle has
pub told_over : {H : Type 0} (does : ℕ → Option H → Option H → Type 0) (status number : ℕ) (held after : H) (old new : Option H)
    → number ≡ status → old ≡ Some held → new ≡ Some after → does status (Some held) (Some after) → does number old new
told_over does status number held after old new is before behind told =
    subst (λ n. does n old new) (sym is) (subst (λ o. does status o new) (sym before)
    (subst (λ o. does status (Some held) o) (sym behind) told))

-- what a payer sees in a network is what it sees in the map of a state
sees : (sight : LgmSight) (own : List ExtraEdge) (network : NetworkState) (state : MapState) (graph : Graph)
    → own ≡ map extra_given sight.channels.now → network.known ≡ state.known → network.rows ≡ state.rows
    → (points : ℕ) × (seen_over sight own network graph ≡ seen_given sight state points)
sees sight own network state graph edges known rows = (
  _,
  ap (λ (k : Option (List ℕ)). let it : Seen = record (seen_over sight own network graph) { known = k } in it) known
      ∙ ap (λ (r : Rows). let it : Seen = record (seen_over sight own network graph) { known = state.known; rows = r } in it) rows
      ∙ ap (λ (o : List ExtraEdge). let it : Seen = record (seen_over sight own network graph) { known = state.known; rows = state.rows; own = o } in it) edges,
)

pub sends_in : (sight : LgmSight) (own : List ExtraEdge) (network : NetworkState) (state : MapState) (payment : ℕ) (old new : PayerState)
    (answer : Result (Option Sending) Unpaid) → IsSome network.graph
    → IfSome network.graph (λ graph. SendsNext (seen_over sight own network graph) payment old new answer)
    → own ≡ map extra_given sight.channels.now → network.known ≡ state.known → network.rows ≡ state.rows
    → (points : ℕ) × SendsNext (seen_given sight state points) payment old new answer
sends_in sight own network state payment old new answer there sends edges known rows = by network.graph there sends
  where
    by : (viewed : Option Graph) → IsSome viewed
        → IfSome viewed (λ graph. SendsNext (seen_over sight own network graph) payment old new answer)
        → (points : ℕ) × SendsNext (seen_given sight state points) payment old new answer
    by None none sends = absurd (true≢false (sym none))
    by (Some graph) there sends =
        let same = sees sight own network state graph edges known rows in
        (same.0, subst (λ (seen : Seen). SendsNext seen payment old new answer) same.1 sends)
