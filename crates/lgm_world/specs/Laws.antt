-- Laws of a world after any events.
use Rattle.std.specs.Prelude.{◌≡◌, ◌⊎◌, ℕ, ◌<◌, List, [], ◌∷◌, ◌++◌, take, Contains, Option, Ok}
use mathlib.Core.List.{IsPrefix}
use Rattle.lgm_store.specs.declared.op.Op.{Op}
use Rattle.lgm_store.specs.History.{fold}
use Rattle.lgm_graph.specs.Edges.{edges_of}
use Rattle.lgm_route.specs.declared.request.Request.{Request}
use Rattle.lgm_route.specs.Choice.{answer_of}
use Rattle.lgm_board.specs.Limits.{most_operations}
use Rattle.lgm_world.specs.declared.event.Event.{Event}
use Rattle.lgm_world.specs.declared.event.Event.TheVariants.{Append, Publish, Enter, Learn, Answer}
use Rattle.lgm_world.specs.declared.event.Reply.TheVariants.{Routed}
use Rattle.lgm_world.specs.World.{Standing, opening, published_in, entered_by}
use Rattle.lgm_world.specs.World.{outcome, world_after, IsOrdered}

-- a world with this many eyes, after these events
abbrev pub world_of : Option (List ℕ) → ℕ → List Event → Standing
world_of known eyes events = world_after (opening known eyes) events

-- the operations that events bring
abbrev pub brought_by : List Event → List Op
brought_by [] = []
brought_by (Append op ∷ events) = op ∷ brought_by events
brought_by (Publish ∷ events) = brought_by events
brought_by (Enter eye ∷ events) = brought_by events
brought_by (Learn eye ∷ events) = brought_by events
brought_by (Answer eye request ∷ events) = brought_by events

-- all that events bring are appended, up to the limit
abbrev pub AreAppended : Type 0
AreAppended =
    (known : Option (List ℕ)) (eyes : ℕ) (events : List Event)
    → (world_of known eyes events).appended ≡ take most_operations (brought_by events)

-- an existing eye answers on the map of what it took last, with the known feature bits
abbrev pub AreAnswered : Type 0
AreAnswered =
    (known : Option (List ℕ)) (eyes : ℕ) (events : List Event) (eye : ℕ) (request : Request) → eye < eyes
    → outcome (world_of known eyes events) (Answer eye request)
    ≡ Ok (Routed (answer_of (edges_of known (fold (entered_by (world_of known eyes events) eye))) request))

-- what an eye took last is nothing, or all that was appended at some earlier publication
abbrev pub WerePublished : Type 0
WerePublished =
    (known : Option (List ℕ)) (eyes : ℕ) (events : List Event) (eye : ℕ)
    → (entered_by (world_of known eyes events) eye ≡ [])
    ⊎ ((before later : List Event) × (events ≡ before ++ Publish ∷ later)
    × (entered_by (world_of known eyes events) eye ≡ (world_of known eyes before).appended))

-- until the next publication, what is published is what was appended at the last one, and nothing before the first
pub record ArePublished : Type 0 where
  pub last : (known : Option (List ℕ)) (eyes : ℕ) (before later : List Event) → ¬ Contains later Publish
      → published_in (world_of known eyes (before ++ Publish ∷ later)) ≡ (world_of known eyes before).appended
  pub first : (known : Option (List ℕ)) (eyes : ℕ) (events : List Event) → ¬ Contains events Publish
      → published_in (world_of known eyes events) ≡ []

-- until its next entry, an eye has what was published at its last one, and nothing before the first
pub record AreEntered : Type 0 where
  pub last : (known : Option (List ℕ)) (eyes : ℕ) (before later : List Event) (eye : ℕ) → eye < eyes
      → ¬ Contains later (Enter eye)
      → entered_by (world_of known eyes (before ++ Enter eye ∷ later)) eye
      ≡ published_in (world_of known eyes before)
  pub first : (known : Option (List ℕ)) (eyes : ℕ) (events : List Event) (eye : ℕ)
      → ¬ Contains events (Enter eye) → entered_by (world_of known eyes events) eye ≡ []

-- what an eye took is a prefix of all that it takes later
abbrev pub NeverShrink : Type 0
NeverShrink =
    (known : Option (List ℕ)) (eyes : ℕ) (events more : List Event) (eye : ℕ)
    → IsPrefix (entered_by (world_of known eyes events) eye)
    (entered_by (world_of known eyes (events ++ more)) eye)

-- each eye took no more than it has observed, which is no more than is published, of what is appended
abbrev pub StayInOrder : Type 0
StayInOrder =
    (known : Option (List ℕ)) (eyes : ℕ) (events : List Event) → IsOrdered (world_of known eyes events)
