-- What a payment knows beside the map: its payer's channels, the invoice's hints, and what failed parts and parts that are
-- under way leave.
use Rattle.std.specs.Prelude.{◌≡◌, ◌⊎◌, ℕ, ◌≤◌, ◌+◌, ◌-◌, ◌*◌, ◌^◌, Bool, not, ◌&&◌, ◌==◌, min, List, [], ◌∷◌, ◌++◌, map}
use Rattle.std.specs.Prelude.{Option, Some, None, slice_get, if◌then◌else◌}
use Rattle.std.specs.List.{list_any, flat_map, AllByRecursion}
use Rattle.std.specs.Option.{option_map, option_and_then, option_or}
use Rattle.lgm_wire.specs.declared.point.Point.{Point}
use Rattle.lgm_check.specs.declared.row.ChannelRow.{ChannelRow}
use Rattle.lgm_store.specs.Rows.{Rows, is_point, channel_of}
use Rattle.lgm_graph.specs.declared.overlay.ExtraEdge.{ExtraEdge}
use Rattle.lgm_graph.specs.declared.overlay.Limit.{Limit}
use Rattle.lgm_graph.specs.declared.route.Hop.{Hop}
use Rattle.lgm_graph.specs.Overlay.{OverlayParts, extra_edge}
use Rattle.lgm_odds.specs.Carried.{carried_over}
use Rattle.lgm_odds.specs.RouteOdds.{named}
use Rattle.lgm_payer.specs.declared.failure.Ending.{Ending}
use Rattle.lgm_payer.specs.declared.failure.Ending.TheVariants.{Unreadable, Failed}
use Rattle.lgm_payer.specs.declared.failure.FailureKind.{FailureKind}
use Rattle.lgm_payer.specs.declared.failure.FailureKind.TheVariants.{Balance, Node, Terms, Expiry, Channel}
use Rattle.lgm_payer.specs.declared.part.Part.{Part}
use Rattle.lgm_payer.specs.Failures.{kind_of}
use Rattle.lgm_payer.specs.Payments.{PaymentState}

-- ---- edges

-- an edge with what is left of it beside these hops
abbrev pub spared : List Hop → ExtraEdge → ExtraEdge
spared busy edge = record edge { max = edge.max - carried_over busy edge.scid edge.from }

-- edges beside the map: the payer's channels, less what was sent over them since they were told, and the hints, less what is
-- under way over them
abbrev pub extra_of : PaymentState → List ExtraEdge → List Hop → List Hop → List ExtraEdge
extra_of payment own since busy = map (spared since) own ++ map (spared busy) payment.hints

abbrev pub limit_of : Hop → ℕ → Limit
limit_of hop most = record { scid = hop.scid; from = hop.from; most = most }

-- what is left of the capacity of a hop's channel beside these hops, if the map has it and it isn't the payer's: at most
-- 2^64 - 1
abbrev pub capacity_limit : Rows → Point → List Hop → Hop → Option Limit
capacity_limit rows payer busy hop =
    if is_point hop.from payer then None else option_map
    (λ (channel : ChannelRow). limit_of hop (min (2 ^ 64 - 1) (channel.sat * 1000) - carried_over busy hop.scid hop.from))
    (channel_of rows.channels hop.scid)

-- the invoice names the hop's edge
abbrev pub is_hinted : List ExtraEdge → Hop → Bool
is_hinted hints hop = list_any (λ hint. hint.scid == hop.scid && is_point hint.from hop.from) hints

-- the hop is none of the payer's own, and the invoice doesn't name it: whoever wrote that chose the terms of what it names
abbrev pub is_public : Point → List ExtraEdge → Hop → Bool
is_public payer hints hop = not (is_point hop.from payer) && not (is_hinted hints hop)

-- ---- what failed parts leave

-- the limit of a hop that a node didn't take, by what its failure message speaks of
abbrev pub limit_by_kind : FailureKind → Bool → Bool → Hop → Option Limit
limit_by_kind Balance public renewed hop = Some (limit_of hop (hop.amount - 1))
limit_by_kind Node public renewed hop = if public then None else Some (limit_of hop 0)
limit_by_kind Terms public renewed hop = if public && renewed then None else Some (limit_of hop 0)
limit_by_kind Expiry public renewed hop = None
limit_by_kind Channel public renewed hop = Some (limit_of hop 0)

-- the node, if the message speaks of it
abbrev pub silent_by_kind : FailureKind → Bool → Hop → Option Point
silent_by_kind Balance public hop = None
silent_by_kind Node public hop = if public then Some hop.from else None
silent_by_kind Terms public hop = None
silent_by_kind Expiry public hop = None
silent_by_kind Channel public hop = None

-- the first hop that isn't the payer's own, which is the second one, or else the first one
abbrev pub first_other : List Hop → Option Hop
first_other route = option_or (slice_get route 1) (slice_get route 0)

-- the limit that a part's end leaves: where no message could be read, nobody knows which hop failed
abbrev pub limit_by_ending : Point → List ExtraEdge → List Hop → Option Ending → Option Limit
limit_by_ending payer hints route None = None
limit_by_ending payer hints route (Some Unreadable) = option_map (λ hop. limit_of hop 0) (first_other route)
limit_by_ending payer hints route (Some (Failed failure)) =
    option_and_then (λ hop. limit_by_kind (kind_of failure.code) (is_public payer hints hop) failure.is_renewed hop)
    (slice_get route failure.place)

abbrev pub limit_left : Point → List ExtraEdge → Part → Option Limit
limit_left payer hints part = limit_by_ending payer hints part.route part.ending

-- the node that it silences
abbrev pub silent_by_ending : Point → List ExtraEdge → List Hop → Option Ending → Option Point
silent_by_ending payer hints route None = None
silent_by_ending payer hints route (Some Unreadable) = None
silent_by_ending payer hints route (Some (Failed failure)) =
    option_and_then (λ hop. silent_by_kind (kind_of failure.code) (is_public payer hints hop) hop)
    (slice_get route failure.place)

abbrev pub silenced : Point → List ExtraEdge → Part → Option Point
silenced payer hints part = silent_by_ending payer hints part.route part.ending

-- ---- of all parts

-- a list of what is there
abbrev pub listed : {A : Type 0} → Option A → List A
listed None = []
listed (Some item) = item ∷ []

abbrev pub capacity_limits_over : Rows → Point → List Hop → List Hop → List Limit
capacity_limits_over rows payer busy hops = flat_map (λ hop. listed (capacity_limit rows payer busy hop)) hops

abbrev pub capacity_limits : Rows → Point → List Hop → List Limit
capacity_limits rows payer busy = capacity_limits_over rows payer busy busy

abbrev pub limits_left : Point → List ExtraEdge → List Part → List Limit
limits_left payer hints parts = flat_map (λ part. listed (limit_left payer hints part)) parts

abbrev pub all_silenced : Point → List ExtraEdge → List Part → List Point
all_silenced payer hints parts = flat_map (λ part. listed (silenced payer hints part)) parts

-- ---- the overlay

-- the limits that capacities leave, and those that failed parts do
abbrev pub limits_of : PaymentState → Rows → List Hop → List Limit
limits_of payment rows busy =
    capacity_limits rows payment.payer busy ++ limits_left payment.payer payment.hints payment.parts

-- and as silent nodes the payer, whose channels are the ones told, and those that failed parts silence
abbrev pub silent_of : PaymentState → List Point
silent_of payment = payment.payer ∷ all_silenced payment.payer payment.hints payment.parts

abbrev pub overlay_of : PaymentState → Rows → List ExtraEdge → List Hop → List Hop → OverlayParts
overlay_of payment rows own since busy = record {
  extra = map extra_edge (extra_of payment own since busy);
  limits = limits_of payment rows busy;
  silent = silent_of payment;
}

-- ---- nothing is promised twice

-- the first of these edges with this name has a maximum for an amount beside these hops
abbrev pub HasRoomIn : List ExtraEdge → List Hop → ℕ → Point → ℕ → Type 0
HasRoomIn extra busy scid from amount =
    (edge : ExtraEdge) × (named extra scid from ≡ Some edge) × (carried_over busy scid from + amount ≤ edge.max)

-- the channel with this id has the capacity for an amount beside these hops
abbrev pub HasRoomOf : Rows → List Hop → ℕ → Point → ℕ → Type 0
HasRoomOf rows busy scid from amount =
    (channel : ChannelRow) × (channel_of rows.channels scid ≡ Some channel) × (carried_over busy scid from + amount ≤ channel.sat * 1000)

-- there is room over an edge for an amount: it is one of the payer's channels, which can send both it and what was sent since
-- they were told; or one of the hints, with a maximum for it beside what is under way; or none of these, and its channel has
-- the capacity for it beside what is under way
abbrev pub HasRoom : Rows → List ExtraEdge → List ExtraEdge → List Hop → List Hop → ℕ → Point → ℕ → Type 0
HasRoom rows own hints since busy scid from amount =
    HasRoomIn own since scid from amount
    ⊎ (((named own scid from ≡ None) × HasRoomIn hints busy scid from amount)
    ⊎ ((named own scid from ≡ None) × (named hints scid from ≡ None) × HasRoomOf rows busy scid from amount))

-- there is for each hop of a route
abbrev pub HaveRoom : Rows → List ExtraEdge → List ExtraEdge → List Hop → List Hop → List Hop → Type 0
HaveRoom rows own hints since busy route =
    AllByRecursion (λ hop. HasRoom rows own hints since busy hop.scid hop.from hop.amount) route
