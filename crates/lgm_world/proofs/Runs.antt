-- Laws of a world after any events.
use Rattle.std.proofs.Common.{◌≡◌, ◌⊎◌, inl, inr, ℕ, ◌+◌, ◌<◌, ◌≤◌, ◌==◌, Option, List, [], ◌∷◌, ◌++◌}
use Rattle.std.proofs.Common.{length, take, drop, length-append, append_assoc, refl, sym, ap, ◌∙◌, subst, arith}
use Rattle.std.specs.Prelude.{Contains}
use Rattle.std.proofs.lemmas.List.{append-nil, take-append-le, take_all, take-take, take-append-drop, length-replicate}
use Rattle.std.proofs.lemmas.Bool.{cases_Bool}
use Rattle.std.proofs.lemmas.Bool.Decides.{nat_tests}
use Rattle.std.proofs.Math.Seq.{take-length, take-nil}
use mathlib.Core.List.{IsPrefix}
use Rattle.lgm_store.specs.declared.op.Op.{Op}
use Rattle.lgm_graph.proofs.Members.{Contains-Among, Among-Contains}
use Rattle.lgm_board.specs.declared.snapshot.TheConstants.{MAX_OPERATIONS}
use Rattle.lgm_world.specs.declared.event.Event.{Event}
use Rattle.lgm_world.specs.declared.event.Event.TheVariants.{Append, Publish, Enter, Learn, Answer}
use Rattle.lgm_world.specs.World.{Standing, opening, marks, marks_of, published_in, entered_by, refusal, after, stepped, world_after, IsOrdered}
use Rattle.lgm_world.specs.Laws.{world_of, brought_by, AreAppended, AreAnswered, WerePublished, ArePublished, AreEntered, NeverShrink, StayInOrder}
use Rattle.lgm_board.proofs.Beginnings.{prefix_self, prefix_trans}
use Rattle.lgm_world.proofs.Worlds.{ordered_opening}
use Rattle.lgm_world.proofs.Steps.{chosen, not_refused, ordered_step, entered_bound, EntersBy, entered_step}
use Rattle.lgm_world.proofs.Steps.{entered_at, PublishesBy, published_step, SameBoard, board_step}

-- ---- lists of events

-- events in two parts
after_parts : (world : Standing) (events more : List Event) → world_after world (events ++ more) ≡ world_after (world_after world events) more
after_parts world [] more = refl
after_parts world (event ∷ events) more = after_parts (stepped world event) events more

-- an induction from the last event on
by_last_from : (P : List Event → Type 0) → ((events : List Event) (event : Event) → P events → P (events ++ event ∷ []))
    → (before events : List Event) → P before → P (before ++ events)
by_last_from P step before [] here = subst P (sym (append-nil before)) here
by_last_from P step before (event ∷ events) here =
    subst P (append_assoc before (event ∷ []) events) (by_last_from P step (before ++ event ∷ []) events (step before event here))

by_last : (P : List Event → Type 0) → P [] → ((events : List Event) (event : Event) → P events
    → P (events ++ event ∷ [])) → (events : List Event) → P events
by_last P start step events = by_last_from P step [] events start

-- an event that isn't in a list is neither its first one nor in the rest
not_first : (event first : Event) (events : List Event) → ¬ Contains (first ∷ events) event → first ≡ event → ⊥
not_first event first events none same = none (Contains-Among (first ∷ events) event (inl same))

not_later : (event first : Event) (events : List Event) → ¬ Contains (first ∷ events) event → ¬ Contains events event
not_later event first events none there = none (Contains-Among (first ∷ events) event (inr (Among-Contains events event there)))

-- ---- order

ordered_after : (world : Standing) (events : List Event) → IsOrdered world → IsOrdered (world_after world events)
ordered_after world [] h = h
ordered_after world (event ∷ events) h = ordered_after (stepped world event) events (ordered_step world event h)

pub stay_in_order : StayInOrder
stay_in_order known eyes events = ordered_after (opening known eyes) events (ordered_opening known eyes)

-- ---- answers

board_after : (world : Standing) (events : List Event) → SameBoard world (world_after world events)
board_after world [] = (refl, refl)
board_after world (event ∷ events) =
    let first = board_step world event in
    let rest = board_after (stepped world event) events in
    (rest.0 ∙ first.0, rest.1 ∙ first.1)

eyes_there : (known : Option (List ℕ)) (eyes : ℕ) (events : List Event) (eye : ℕ) → eye < eyes → eye < length (world_of known eyes events).eyes
eyes_there known eyes events eye below = omega (arith, (board_after (opening known eyes) events).1, length-replicate eyes (marks 0 0))

pub are_answered : AreAnswered
are_answered known eyes events eye request below =
    let world = world_of known eyes events in
    rw (not_refused world eye (eyes_there known eyes events eye below), (board_after (opening known eyes) events).0) refl

-- ---- what was published

-- in the initial state an eye took nothing
opens_empty : (known : Option (List ℕ)) (eyes eye : ℕ) → entered_by (opening known eyes) eye ≡ []
opens_empty known eyes eye = take-nil (marks_of (opening known eyes) eye).entered

-- the list is empty, or all that was appended at a publication before
abbrev Was : Option (List ℕ) → ℕ → List Event → List Op → Type 0
Was known eyes events ops =
    (ops ≡ []) ⊎ ((before later : List Event) × (events ≡ before ++ Publish ∷ later)
    × (ops ≡ (world_of known eyes before).appended))

module _ (known : Option (List ℕ)) (eyes : ℕ) where
  was_more : (events : List Event) (event : Event) (ops : List Op) → Was known eyes events ops → Was known eyes (events ++ event ∷ []) ops
  was_more events event ops (inl none) = inl none
  was_more events event ops (inr at) =
      inr (
        at.0,
        at.1 ++ event ∷ [],
        ap (λ l. l ++ event ∷ []) at.2 ∙ append_assoc at.0 (Publish ∷ at.1) (event ∷ []),
        at.3,
      )

  -- what is published was published, and what each eye took
  abbrev AllWere : List Event → Type 0
  AllWere events =
      Was known eyes events (published_in (world_of known eyes events))
      × ((eye : ℕ) → Was known eyes events (entered_by (world_of known eyes events) eye))

  were_step : (events : List Event) (event : Event) → AllWere events → AllWere (events ++ event ∷ [])
  were_step events event h =
      let world = world_of known eyes events in
      let next : world_of known eyes (events ++ event ∷ []) ≡ stepped world event = after_parts (opening known eyes) events (event ∷ []) in
      let ordered = stay_in_order known eyes events in
      rw next (publishes world (h.0) (published_step world event ordered), λ eye. enters world eye (entered_step world event eye ordered))
    where
      publishes : (world : Standing) → Was known eyes events (published_in (world_of known eyes events))
          → PublishesBy (world_of known eyes events) event (stepped (world_of known eyes events) event)
          → Was known eyes (events ++ event ∷ []) (published_in (stepped (world_of known eyes events) event))
      publishes world was (inl same) = rw same (was_more events event (published_in (world_of known eyes events)) was)
      publishes world was (inr new) = inr (events, [], ap (λ e. events ++ e ∷ []) new.0, new.1)

      enters : (world : Standing) (eye : ℕ) → EntersBy (world_of known eyes events) event eye (stepped (world_of known eyes events) event)
          → Was known eyes (events ++ event ∷ []) (entered_by (stepped (world_of known eyes events) event) eye)
      enters world eye (inl same) = rw same (was_more events event (entered_by (world_of known eyes events) eye) (h.1 eye))
      enters world eye (inr new) = rw new.1 (was_more events event (published_in (world_of known eyes events)) h.0)

  all_were : (events : List Event) → AllWere events
  all_were = by_last AllWere (inl refl, λ eye. inl (opens_empty known eyes eye)) were_step

pub were_published : WerePublished
were_published known eyes events eye = (all_were known eyes events).1 eye

-- with no publication, what is published stays
unpublished : (world : Standing) (events : List Event) → IsOrdered world → ¬ Contains events Publish
    → published_in (world_after world events) ≡ published_in world
unpublished world [] h none = refl
unpublished world (event ∷ events) h none =
    let rest = unpublished (stepped world event) events (ordered_step world event h) (not_later Publish event events none) in
    elim (published_step world event h) [ inl same ↦ rest ∙ same | inr new ↦ absurd (not_first Publish event events none new.0) ]

pub are_published : ArePublished
are_published = record {
  last = λ known eyes before later none.
      let world = world_of known eyes before in
      let h = stay_in_order known eyes before in
      ap published_in (after_parts (opening known eyes) before (Publish ∷ later))
      ∙ (unpublished (stepped world Publish) later (ordered_step world Publish h) none ∙ take-length world.appended);
  first = λ known eyes events none. unpublished (opening known eyes) events (ordered_opening known eyes) none;
}

-- ---- what an eye took

-- with no entry of the eye, what it took stays
unentered : (world : Standing) (events : List Event) (eye : ℕ) → IsOrdered world
    → ¬ Contains events (Enter eye) → entered_by (world_after world events) eye ≡ entered_by world eye
unentered world [] eye h none = refl
unentered world (event ∷ events) eye h none =
    let rest = unentered (stepped world event) events eye (ordered_step world event h) (not_later (Enter eye) event events none) in
    elim (entered_step world event eye h) [ inl same ↦ rest ∙ same | inr new ↦ absurd (not_first (Enter eye) event events none new.0) ]

pub are_entered : AreEntered
are_entered = record {
  last = λ known eyes before later eye below none.
      let world = world_of known eyes before in
      let h = stay_in_order known eyes before in
      ap (λ w. entered_by w eye) (after_parts (opening known eyes) before (Enter eye ∷ later))
      ∙ (unentered (stepped world (Enter eye)) later eye (ordered_step world (Enter eye) h) none
      ∙ entered_at world eye (eyes_there known eyes before eye below));
  first = λ known eyes events eye none. unentered (opening known eyes) events eye (ordered_opening known eyes) none ∙ opens_empty known eyes eye;
}

-- ---- no list shrinks

-- a prefix of a list is a prefix of its longer prefixes
take_prefix : {A : Type 0} (few more : ℕ) (xs : List A) → few ≤ more → IsPrefix (take few xs) (take more xs)
take_prefix few more xs le = (
  drop few (take more xs),
  ap (λ l. l ++ drop few (take more xs)) (sym (take-take few more xs le))
      ∙ take-append-drop few (take more xs),
)

grows : (world : Standing) (events : List Event) (eye : ℕ) → IsOrdered world
    → IsPrefix (entered_by world eye) (entered_by (world_after world events) eye)
grows world [] eye h = prefix_self (entered_by world eye)
grows world (event ∷ events) eye h =
    let next = stepped world event in
    let rest = grows next events eye (ordered_step world event h) in
    let first : IsPrefix (entered_by world eye) (entered_by next eye) = elim (entered_step world event eye h) [
      | inl same ↦ rw same (prefix_self (entered_by world eye))
      | inr new ↦ rw new.1 (take_prefix (marks_of world eye).entered world.published world.appended (entered_bound world eye h))
    ] in
    prefix_trans (entered_by world eye) (entered_by next eye) (entered_by (world_after next events) eye) first rest

pub never_shrink : NeverShrink
never_shrink known eyes events more eye =
    rw (after_parts (opening known eyes) events more) (grows (world_of known eyes events) more eye (stay_in_order known eyes events))

-- ---- what is appended

-- these are appended, up to the limit
abbrev Brings : Standing → List Event → Type 0
Brings world events = (world_after world events).appended ≡ take MAX_OPERATIONS (world.appended ++ brought_by events)

-- one more operation, or one too many
brings_op : (world : Standing) (op : Op) (events : List Event) → length world.appended ≤ MAX_OPERATIONS
    → ((next : Standing) → length next.appended ≤ MAX_OPERATIONS → Brings next events) → Brings world (Append op ∷ events)
brings_op world op events few rest = elim (cases_Bool (length world.appended == MAX_OPERATIONS)) [
  | inl is ↦
      let most : MAX_OPERATIONS ≤ length world.appended = grind (arith, nat_tests) in
      on world (rw is refl)
      (rest world few ∙ (take-append-le MAX_OPERATIONS world.appended (brought_by events) most
      ∙ sym (take-append-le MAX_OPERATIONS world.appended (op ∷ brought_by events) most)))
  | inr is ↦
      let below : length world.appended + 1 ≤ MAX_OPERATIONS = grind (arith, nat_tests) in
      on (after world (Append op)) (rw is refl)
      (rest (after world (Append op)) (omega (arith, below, length-append world.appended (op ∷ [])))
      ∙ ap (take MAX_OPERATIONS) (append_assoc world.appended (op ∷ []) (brought_by events)))
]
  where
    on : (next : Standing) → stepped world (Append op) ≡ next
        → (world_after next events).appended ≡ take MAX_OPERATIONS (world.appended ++ op ∷ brought_by events) → Brings world (Append op ∷ events)
    on next is = subst (λ (w : Standing). (world_after w events).appended
        ≡ take MAX_OPERATIONS (world.appended ++ op ∷ brought_by events)) (sym is)

-- an event that brings none
brings_none : (world : Standing) (event : Event) (events : List Event)
    → (stepped world event).appended ≡ world.appended → length world.appended ≤ MAX_OPERATIONS
    → ((next : Standing) → length next.appended ≤ MAX_OPERATIONS → Brings next events)
    → (world_after (stepped world event) events).appended
    ≡ take MAX_OPERATIONS (world.appended ++ brought_by events)
brings_none world event events same few rest =
    rest (stepped world event) (subst (λ (l : List Op). length l ≤ MAX_OPERATIONS) (sym same) few)
    ∙ ap (λ l. take MAX_OPERATIONS (l ++ brought_by events)) same

-- a step that isn't an appending leaves what is appended
keeps : (world : Standing) (event : Event) → (after world event).appended ≡ world.appended → (stepped world event).appended ≡ world.appended
keeps world event same = chosen (λ w. w.appended ≡ world.appended) world (after world event) (refusal world event) refl (λ none. same)

brings : (events : List Event) (world : Standing) → length world.appended ≤ MAX_OPERATIONS → Brings world events
brings [] world few = sym (ap (take MAX_OPERATIONS) (append-nil world.appended) ∙ take_all MAX_OPERATIONS world.appended few)
brings (Append op ∷ events) world few = brings_op world op events few (brings events)
brings (Publish ∷ events) world few = brings_none world Publish events (keeps world Publish refl) few (brings events)
brings (Enter eye ∷ events) world few = brings_none world (Enter eye) events (keeps world (Enter eye) refl) few (brings events)
brings (Learn eye ∷ events) world few = brings_none world (Learn eye) events (keeps world (Learn eye) refl) few (brings events)
brings (Answer eye request ∷ events) world few =
    brings_none world (Answer eye request) events (keeps world (Answer eye request) refl) few (brings events)

pub are_appended : AreAppended
are_appended known eyes events = brings events (opening known eyes) (omega arith)
