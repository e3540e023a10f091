-- One writer and its readers: the effect of each event, and the replies.
use Rattle.std.specs.Prelude.{◌≡◌, ◌≢◌, ◌⊎◌, ℕ, ◌≤◌, ◌==◌, List, [], ◌∷◌, ◌++◌, length, take}
use Rattle.std.specs.Prelude.{replicate, All, slice_index_or, slice_set, nat_lt, is_some, Option}
use Rattle.std.specs.Prelude.{Some, None, Result, Ok, Err, OnOk, OnErr, if◌then◌else◌}
use Rattle.lgm_store.specs.declared.op.Op.{Op}
use Rattle.lgm_store.specs.History.{fold}
use Rattle.lgm_graph.specs.Edges.{edges_of}
use Rattle.lgm_route.specs.declared.fault.RouteFault.TheVariants as want
use Rattle.lgm_route.specs.Choice.{answer_of}
use Rattle.lgm_board.specs.Limits.{most_operations}
use Rattle.lgm_world.specs.declared.world.Marks.{Marks}
use Rattle.lgm_world.specs.declared.event.Event.{Event}
use Rattle.lgm_world.specs.declared.event.Event.TheVariants.{Append, Publish, Enter, Learn, Answer}
use Rattle.lgm_world.specs.declared.event.Reply.{Reply}
use Rattle.lgm_world.specs.declared.event.Reply.TheVariants.{Done, Routed}
use Rattle.lgm_world.specs.declared.event.WorldFault.{WorldFault}
use Rattle.lgm_world.specs.declared.event.WorldFault.TheVariants.{NoEye, Full, NoMemory}

-- a writer and its readers between two events
pub record Standing : Type 0 where
  -- the known feature bits of nodes, or none if all are known
  pub known : Option (List ℕ)
  -- all operations, in order
  pub appended : List Op
  -- the number of published operations
  pub published : ℕ
  -- what each eye has observed
  pub eyes : List Marks

abbrev pub standing : Option (List ℕ) → List Op → ℕ → List Marks → Standing
standing known appended published eyes =
    record { known = known; appended = appended; published = published; eyes = eyes }

-- an eye that has observed this many operations, and took the map of that many last
abbrev pub marks : ℕ → ℕ → Marks
marks seen entered = record { seen = seen; entered = entered }

-- nothing is appended, and this many eyes have observed nothing
abbrev pub opening : Option (List ℕ) → ℕ → Standing
opening known eyes = standing known [] 0 (replicate eyes (marks 0 0))

-- what the eye of a number has observed
abbrev pub marks_of : Standing → ℕ → Marks
marks_of world eye = slice_index_or world.eyes eye (marks 0 0)

-- the operations that are published
abbrev pub published_in : Standing → List Op
published_in world = take world.published world.appended

-- the operations of the map that an eye took last
abbrev pub entered_by : Standing → ℕ → List Op
entered_by world eye = take (marks_of world eye).entered world.appended

-- ---- an event

-- an eye is refused if it doesn't exist
abbrev pub no_eye : Standing → ℕ → Option WorldFault
no_eye world eye = if nat_lt eye (length world.eyes) then None else Some NoEye

-- why an event is refused
abbrev pub refusal : Standing → Event → Option WorldFault
refusal world (Append op) = if length world.appended == most_operations then Some Full else None
refusal world Publish = None
refusal world (Enter eye) = no_eye world eye
refusal world (Learn eye) = no_eye world eye
refusal world (Answer eye request) = no_eye world eye

-- after an event that isn't refused
abbrev pub after : Standing → Event → Standing
after world (Append op) = record world { appended = world.appended ++ op ∷ [] }
after world Publish = record world { published = length world.appended }
after world (Enter eye) =
    record world { eyes = slice_set world.eyes eye (marks world.published world.published) }
after world (Learn eye) =
    record world { eyes = slice_set world.eyes eye (marks world.published (marks_of world eye).entered) }
after world (Answer eye request) = world

-- the reply to an event that isn't refused
abbrev pub reply : Standing → Event → Reply
reply world (Append op) = Done
reply world Publish = Done
reply world (Enter eye) = Done
reply world (Learn eye) = Done
reply world (Answer eye request) =
    Routed (answer_of (edges_of world.known (fold (entered_by world eye))) request)

-- a refusal, or the reply
abbrev pub refused_or : Option WorldFault → Reply → Result Reply WorldFault
refused_or (Some fault) answer = Err fault
refused_or None answer = Ok answer

-- the refusal, or the reply
abbrev pub outcome : Standing → Event → Result Reply WorldFault
outcome world event = refused_or (refusal world event) (reply world event)

-- the result of a step and the state after it: a refusal that allocates nothing comes first
pub record IsStep (world : Standing) (event : Event) (result : Result Reply WorldFault)
    (next : Standing) : Type 0 where
  pub refused : (fault : WorldFault) → refusal world event ≡ Some fault → result ≡ Err fault
  pub reply : (result ≡ Err NoMemory) ⊎ (result ≡ outcome world event)
  pub done : OnOk result (next ≡ after world event)
  pub stays : OnErr result (next ≡ world)
  -- out of memory is never a reply
  pub memory : result ≢ Ok (Routed (Err want.NoMemory))

-- ---- a list of events

-- after an event: one that is refused changes nothing
abbrev pub stepped : Standing → Event → Standing
stepped world event = if is_some (refusal world event) then world else after world event

-- after further events, in order
abbrev pub world_after : Standing → List Event → Standing
world_after world [] = world
world_after world (event ∷ events) = world_after (stepped world event) events

-- an eye took no more than it has observed, which is no more than is published, of what is appended
pub record IsOrdered (world : Standing) : Type 0 where
  pub entered : All (λ eye. eye.entered ≤ eye.seen) world.eyes
  pub seen : All (λ eye. eye.seen ≤ world.published) world.eyes
  pub published : world.published ≤ length world.appended
