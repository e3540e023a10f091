-- Laws of what a part is searched over.
use Rattle.std.proofs.Common.{◌≡◌, ◌∙◌, ℕ, ◌+◌, ◌*◌, ◌^◌, ◌<◌, Bool, true, false, None, arith, if◌then◌else◌, List, length-append, length, get_or, Option, Some, Result, Ok, Err, refl, sym, ap, subst}
use Rattle.std.specs.Prelude.{map, slice_get, nat_le, IfOk, IfErr, IfSome}
use Rattle.std.proofs.lemmas.Option.{slice_get-get_or}
use Rattle.std.proofs.lemmas.List.{length-map}
use Rattle.lgm_wire.specs.declared.point.Point.{Point}
use Rattle.lgm_store.specs.Rows.{Rows}
use Rattle.lgm_graph.specs.declared.estimate.Estimate.{Estimate}
use Rattle.lgm_graph.specs.declared.overlay.ExtraEdge.{ExtraEdge}
use Rattle.lgm_graph.specs.declared.overlay.Limit.{Limit}
use Rattle.lgm_graph.specs.declared.route.Hop.{Hop}
use Rattle.std.specs.Option.{unwrap_or, option_or}
use Rattle.std.proofs.lemmas.Bool.Decides.{nat_tests}
use Rattle.lgm_graph.specs.Estimates.{Entries, estimate_of}
use Rattle.lgm_graph.specs.Overlay.{OverlayParts, extra_edge, overlaid_edges}
use Rattle.lgm_route.specs.declared.preferences.Preferences.{Preferences}
use Rattle.lgm_odds.specs.RouteOdds.{route_odds}
use Rattle.lgm_odds.specs.Room.{room_into}
use Rattle.lgm_odds.specs.Lessons.{believed}
use Rattle.lgm_payer.specs.declared.offer.Offer.{Offer}
use Rattle.lgm_payer.specs.declared.unfound.Unfound.{Unfound}
use Rattle.lgm_payer.specs.declared.unpaid.Unpaid.{Unpaid}
use Rattle.lgm_payer.specs.declared.unpaid.Unpaid.TheVariants.{TooManyPoints}
use Rattle.lgm_payer.specs.Payments.{PaymentState}
use Rattle.lgm_payer.specs.UnderWay.{all_under_way, all_since}
use Rattle.lgm_payer.specs.Overlays.{spared, extra_of, limits_of, silent_of, overlay_of}
use Rattle.lgm_payer.specs.Preferring.{preferences_for}
use Rattle.lgm_payer.specs.Searches.{Prospect, penalty_with, prospect_of, room_out, IsOffered}
use Rattle.lgm_payer.specs.Payers.{PayerState, Seen, prospect_in, points_fault, sight_fault}
use Rattle.lgm_payer.specs.Looking.{IsUnfound}

-- ---- as it is made

abbrev pub prospect : Preferences → (ℕ → Point → Estimate) → Option (List ℕ) → Rows → List ExtraEdge → List Limit → OverlayParts → ℕ → ℕ → ℕ → Point → Prospect
prospect preferences beliefs known rows extra limits overlay height room payee_room payer = record {
  penalty = penalty_with preferences beliefs;
  odds = route_odds rows extra limits beliefs;
  edges = overlaid_edges known rows overlay;
  height = height;
  room = room;
  payee_room = payee_room;
  capacities = record { rows = rows; extra = extra; limits = limits; believed = beliefs; payer = payer };
}

-- an overlay that is made of what a payment knows
pub overlay_is : (payment : PaymentState) (rows : Rows) (own : List ExtraEdge) (since busy : List Hop) (extra : List ExtraEdge)
    (limits : List Limit) (silent : List Point) (overlay : OverlayParts)
    → overlay ≡ record { extra = map extra_edge extra; limits = limits; silent = silent }
    → extra ≡ extra_of payment own since busy → limits ≡ limits_of payment rows busy → silent ≡ silent_of payment
    → overlay ≡ overlay_of payment rows own since busy
overlay_is payment rows own since busy extra limits silent overlay is edges most nodes =
    is ∙ ap (λ (list : List ExtraEdge). let parts : OverlayParts = record { extra = map extra_edge list; limits = limits; silent = silent } in parts) edges
    ∙ ap (λ (list : List Limit). let parts : OverlayParts =
    record { extra = map extra_edge (extra_of payment own since busy); limits = list; silent = silent } in parts) most
    ∙ ap (λ (list : List Point). let parts : OverlayParts =
    record { extra = map extra_edge (extra_of payment own since busy); limits = limits_of payment rows busy; silent = list } in parts) nodes

-- it has as many edges beside the map as were told and hinted
pub extra_count : (payment : PaymentState) (rows : Rows) (own : List ExtraEdge) (since busy : List Hop) (overlay : OverlayParts)
    → overlay ≡ overlay_of payment rows own since busy → length overlay.extra ≡ length own + length payment.hints
extra_count payment rows own since busy overlay over =
    ap (λ (parts : OverlayParts). length parts.extra) over
    ∙ length-map (extra_of payment own since busy) extra_edge
    ∙ length-append (map (spared since) own) (map (spared busy) payment.hints)
    ∙ ap (λ n. n + length (map (spared busy) payment.hints)) (length-map own (spared since))
    ∙ ap (λ n. length own + n) (length-map payment.hints (spared busy))

-- a prospect that is made of it
pub prospect_is : (preferences chosen : Preferences) (beliefs : ℕ → Point → Estimate) (known : Option (List ℕ)) (rows : Rows)
    (payment : PaymentState) (own : List ExtraEdge) (since busy : List Hop) (height : ℕ) (extra : List ExtraEdge)
    (limits : List Limit) (overlay : OverlayParts) (room payee_room : ℕ) (payer : Point) → preferences ≡ chosen
    → extra ≡ extra_of payment own since busy → limits ≡ limits_of payment rows busy
    → overlay ≡ overlay_of payment rows own since busy → room ≡ room_out payment.payer extra
    → payee_room ≡ room_into rows extra limits beliefs payment.invoice.payee → payer ≡ payment.payer
    → prospect preferences beliefs known rows extra limits overlay height room payee_room payer
    ≡ prospect_of chosen beliefs known rows payment own since busy height
prospect_is preferences chosen beliefs known rows payment own since busy height extra limits overlay room payee_room payer prefers edges most over sends gets pays =
    ap (λ (p : Point). prospect preferences beliefs known rows extra limits overlay height room payee_room p) pays
    ∙ ap (λ (p : Preferences). prospect p beliefs known rows extra limits overlay height room payee_room payment.payer) prefers
    ∙ ap (λ n. prospect chosen beliefs known rows extra limits overlay height n payee_room payment.payer) sends
    ∙ ap (λ n. prospect chosen beliefs known rows extra limits overlay height (room_out payment.payer extra) n payment.payer) gets
    ∙ ap (λ (list : List ExtraEdge). prospect chosen beliefs known rows list limits overlay height (room_out payment.payer list)
    (room_into rows list limits beliefs payment.invoice.payee) payment.payer) edges
    ∙ ap (λ (list : List Limit). prospect chosen beliefs known rows (extra_of payment own since busy) list overlay height
    (room_out payment.payer (extra_of payment own since busy))
    (room_into rows (extra_of payment own since busy) list beliefs payment.invoice.payee) payment.payer) most
    ∙ ap (λ (parts : OverlayParts). prospect chosen beliefs known rows (extra_of payment own since busy) (limits_of payment rows busy)
    parts height (room_out payment.payer (extra_of payment own since busy))
    (room_into rows (extra_of payment own since busy) (limits_of payment rows busy) beliefs payment.invoice.payee) payment.payer) over

-- what is offered, or why nothing is, over one that is the same
pub offered_over : (made prospect : Prospect) (payment : PaymentState) (answer : Result Offer Unfound) → made ≡ prospect
    → IfOk answer (IsOffered made payment) → IfOk answer (IsOffered prospect payment)
offered_over made prospect payment answer same offered =
    subst (λ (p : Prospect). IfOk answer (IsOffered p payment)) same offered

pub unfound_over : (made prospect : Prospect) (payment : PaymentState) (answer : Result Offer Unfound) → made ≡ prospect
    → IfErr answer (IsUnfound made payment) → IfErr answer (IsUnfound prospect payment)
unfound_over made prospect payment (Ok offer) same why = why
unfound_over made prospect payment (Err reason) same why =
    subst (λ (p : Prospect). IsUnfound p payment reason) same why

-- ---- of a payment of a payer

-- the payment at a place is the one that is read there
pub read_there : (payments : List PaymentState) (place : ℕ) (before : PaymentState) → place < length payments
    → before ≡ get_or payments place before → slice_get payments place ≡ Some before
read_there payments place before lt is =
    slice_get-get_or payments place before lt ∙ ap (λ (p : PaymentState). Some p) (sym is)

-- what is believed by estimates beside hops
pub beliefs_are : (estimates inside learnt : Entries) (beside : Option Entries) (hops busy : List Hop)
    → estimates ≡ unwrap_or beside inside → estimate_of (unwrap_or beside inside) ≡ believed inside hops
    → inside ≡ learnt → hops ≡ busy → estimate_of estimates ≡ believed learnt busy
beliefs_are estimates inside learnt beside hops busy is believes same all =
    ap (λ (e : Entries). estimate_of e) is ∙ believes ∙ ap (λ (e : Entries). believed e hops) same
    ∙ ap (λ (list : List Hop). believed learnt list) all

-- what is searched over for it beside all that is under way
module _ (seen : Seen) (payer : PayerState) (place : ℕ) (before : PaymentState) (beliefs : ℕ → Point → Estimate)
    (since busy : List Hop) (there : slice_get payer.payments place ≡ Some before)
    (believes : beliefs ≡ believed payer.learnt (all_under_way payer.payments))
    (later : since ≡ all_since seen.reckoned payer.payments) (all : busy ≡ all_under_way payer.payments) where
  beside : prospect_of (preferences_for seen.preferences before) beliefs seen.known seen.rows before seen.own since busy seen.height
      ≡ prospect_in seen payer before
  beside =
      ap (λ (b : ℕ → Point → Estimate).
      prospect_of (preferences_for seen.preferences before) b seen.known seen.rows before seen.own since busy seen.height) believes
      ∙ ap (λ (hops : List Hop). prospect_of (preferences_for seen.preferences before)
      (believed payer.learnt (all_under_way payer.payments)) seen.known seen.rows before seen.own hops busy seen.height) later
      ∙ ap (λ (hops : List Hop). prospect_of (preferences_for seen.preferences before)
      (believed payer.learnt (all_under_way payer.payments)) seen.known seen.rows before seen.own
      (all_since seen.reckoned payer.payments) hops seen.height) all

  pub offered_beside : (answer : Result Offer Unfound)
      → IfOk answer (IsOffered (prospect_of (preferences_for seen.preferences before) beliefs seen.known seen.rows before seen.own
      since busy seen.height) before)
      → IfOk answer (λ offer. IfSome (slice_get payer.payments place) (λ payment. IsOffered (prospect_in seen payer payment) payment offer))
  offered_beside (Ok offer) offered =
      rw there (subst (λ (p : Prospect). IsOffered p before offer) beside offered)
  offered_beside (Err reason) offered = offered

  pub unfound_beside : (answer : Result Offer Unfound)
      → IfErr answer (IsUnfound (prospect_of (preferences_for seen.preferences before) beliefs seen.known seen.rows before seen.own
      since busy seen.height) before)
      → IfErr answer (λ reason. IfSome (slice_get payer.payments place) (λ payment. IsUnfound (prospect_in seen payer payment) payment reason))
  unfound_beside (Ok offer) why = why
  unfound_beside (Err reason) why =
      rw there (subst (λ (p : Prospect). IsUnfound p before reason) beside why)

-- ---- what is seen well

or_none : (first second : Option Unpaid) → option_or first second ≡ None → second ≡ None
or_none None second none = none
or_none (Some fault) second none = cc

few_points : (points extra : ℕ) → points_fault points extra ≡ None → points + 2 * extra < 2 ^ 32
few_points points extra none = by (nat_le (2 ^ 32) (points + 2 * extra)) refl none
  where
    by : (b : Bool) → nat_le (2 ^ 32) (points + 2 * extra) ≡ b → (if b then Some TooManyPoints else None) ≡ None
        → points + 2 * extra < 2 ^ 32
    by true is none = cc
    by false is none = grind (arith, nat_tests)

-- it has few points
pub few_seen : (seen : Seen) (payer : PayerState) (payment : PaymentState) → sight_fault seen payer payment ≡ None
    → seen.points + 2 * (length seen.own + length payment.hints) < 2 ^ 32
few_seen seen payer payment none =
    few_points seen.points (length seen.own + length payment.hints) (or_none _ _ none)
