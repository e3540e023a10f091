-- Parts of a payment across a cut.
use Rattle.std.specs.Prelude.{◌≡◌, ℕ, ◌-◌, ◌^◌, ◌≤◌, Bool, true, false, ◌&&◌, ◌==◌, min, List, [], ◌∷◌, sum_by, Contains, if◌then◌else◌}
use Rattle.std.specs.List.{list_any}
use Rattle.lgm_wire.specs.declared.point.Point.{Point}
use Rattle.lgm_store.specs.Rows.{is_point}
use Rattle.lgm_odds.specs.declared.liquidity.CutEdge.{CutEdge}
use Rattle.lgm_odds.specs.Cut.{Capacities, CutParts, IsCut, edges_at, room_across}

-- a part: the edges that it goes along, and its amount, in msat
pub record WalkedPart : Type 0 where
  pub walk : List CutEdge
  pub amount : ℕ

-- the edges lead from a node to another one, each from the node that the one before leads to
abbrev pub IsWalk : Point → List CutEdge → Point → Type 0
IsWalk from [] to = from ≡ to
IsWalk from (edge ∷ rest) to = (edge.from ≡ from) × IsWalk edge.to rest to

-- it is one of the edges out of the node that it leaves, and of those into the node that it leads to
abbrev pub IsEdge : Capacities → CutEdge → Type 0
IsEdge known edge = Contains (edges_at known false edge.from) edge × Contains (edges_at known true edge.to) edge

-- a part goes from the payer to a payee, along edges
pub record IsPart (known : Capacities) (payee : Point) (part : WalkedPart) : Type 0 where
  pub walks : IsWalk known.payer part.walk payee
  pub edges : (edge : CutEdge) → Contains part.walk edge → IsEdge known edge

-- the same edge
abbrev pub is_same : CutEdge → CutEdge → Bool
is_same edge other = edge.scid == other.scid && (is_point edge.from other.from && (is_point edge.to other.to && edge.room == other.room))

-- what parts carry over an edge together
abbrev pub carried_by : List WalkedPart → CutEdge → ℕ
carried_by parts edge = sum_by (λ part. if list_any (is_same edge) part.walk then part.amount else 0) parts

-- each edge can carry what parts carry over it
abbrev pub CanCarry : List WalkedPart → Type 0
CanCarry parts = (edge : CutEdge) → carried_by parts edge ≤ edge.room

-- no parts bring more than can be carried across a cut, in msat
abbrev pub BringsNoMore : Type 0
BringsNoMore =
    (known : Capacities) (payee : Point) (cut : CutParts) (parts : List WalkedPart) → IsCut known.payer payee cut
    → ((part : WalkedPart) → Contains parts part → IsPart known payee part) → CanCarry parts
    → min (2 ^ 64 - 1) (sum_by (λ part. part.amount) parts) ≤ room_across known cut
