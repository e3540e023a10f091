-- The effect of one event on a world.
use Rattle.std.proofs.Common.{◌≡◌, ◌≢◌, ◌⊎◌, inl, inr, ℕ, ◌<◌, ◌≤◌, Bool, true, false, nat_lt, nat_eq, is_some, if◌then◌else◌}
use Rattle.std.proofs.Common.{Option, Some, None, [], ◌∷◌, length, take, set, get_or, refl, sym, ap, ◌∙◌, arith}
use Rattle.std.proofs.lemmas.List.{get_or-set_same, get_or-set_other, length-set, take-append-le}
use Rattle.std.proofs.lemmas.List.Elements.{All-get_or}
use Rattle.std.proofs.lemmas.Bool.Decides.{nat_tests}
use Rattle.std.proofs.Math.ListN.{get_or-eq_default}
use Rattle.std.proofs.Math.Seq.{take-length}
use Rattle.lgm_world.specs.declared.world.Marks.{Marks}
use Rattle.lgm_world.specs.declared.event.Event.{Event}
use Rattle.lgm_world.specs.declared.event.Event.TheVariants.{Append, Publish, Enter, Learn, Answer}
use Rattle.lgm_world.specs.declared.event.WorldFault.{WorldFault}
use Rattle.lgm_world.specs.declared.event.WorldFault.TheVariants.{NoEye}
use Rattle.lgm_world.specs.World.{Standing, IsOrdered, after, no_eye, refusal, stepped, marks, marks_of, published_in, entered_by}
use Rattle.lgm_world.proofs.Worlds.{ordered_append, ordered_publish, ordered_enter, ordered_learn}

-- ---- refusals

-- what holds before and after an event that isn't refused, holds after a step
pub chosen : (P : Standing → Type 0) (world next : Standing) (refused : Option WorldFault) → P world
    → (refused ≡ None → P next) → P (if is_some refused then world else next)
chosen P world next (Some fault) here there = here
chosen P world next None here there = there refl

below_at : (eye count : ℕ) (is : Bool) → nat_lt eye count ≡ is → (if is then None else Some NoEye) ≡ None → eye < count
below_at eye count true is none = grind (arith, nat_tests)
below_at eye count false is none = absurd cc

-- an eye that isn't refused is there
pub is_there : (world : Standing) (eye : ℕ) → no_eye world eye ≡ None → eye < length world.eyes
is_there world eye none = below_at eye (length world.eyes) (nat_lt eye (length world.eyes)) refl none

-- an eye that is there isn't refused
pub not_refused : (world : Standing) (eye : ℕ) → eye < length world.eyes → no_eye world eye ≡ None
not_refused world eye below = let is : nat_lt eye (length world.eyes) ≡ true = grind (arith, nat_tests) in rw is refl

-- ---- order

-- a step preserves the order
pub ordered_step : (world : Standing) (event : Event) → IsOrdered world → IsOrdered (stepped world event)
ordered_step world event h = chosen IsOrdered world (after world event) (refusal world event) h (by event)
  where
    by : (event : Event) → refusal world event ≡ None → IsOrdered (after world event)
    by (Append op) none = ordered_append world op h
    by Publish none = ordered_publish world h
    by (Enter eye) none = ordered_enter world eye h
    by (Learn eye) none = ordered_learn world eye (is_there world eye none) h
    by (Answer eye request) none = h

bound_at : (world : Standing) (eye : ℕ) (is : Bool) → nat_lt eye (length world.eyes) ≡ is → IsOrdered world
    → ((marks_of world eye).entered ≤ (marks_of world eye).seen) × ((marks_of world eye).seen ≤ world.published)
bound_at world eye true is h =
    let below : eye < length world.eyes = grind (arith, nat_tests) in (
      All-get_or (λ m. m.entered ≤ m.seen) world.eyes eye (marks 0 0) below h.entered,
      All-get_or (λ m. m.seen ≤ world.published) world.eyes eye (marks 0 0) below h.seen,
    )
bound_at world eye false is h =
    let past : length world.eyes ≤ eye = grind (arith, nat_tests) in
    let none : marks_of world eye ≡ marks 0 0 = get_or-eq_default world.eyes (marks 0 0) past in
    rw none (omega arith, omega arith)

-- what an eye took is published
pub entered_bound : (world : Standing) (eye : ℕ) → IsOrdered world → (marks_of world eye).entered ≤ world.published
entered_bound world eye h = let b = bound_at world eye (nat_lt eye (length world.eyes)) refl h in omega (arith, b.0, b.1)

-- ---- what an eye took

-- it stays, or the eye entered
abbrev pub EntersBy : Standing → Event → ℕ → Standing → Type 0
EntersBy world event eye next = (entered_by next eye ≡ entered_by world eye) ⊎ ((event ≡ Enter eye) × (entered_by next eye ≡ published_in world))

set_at : (world : Standing) (eye other : ℕ) (m : Marks) (same : Bool) → nat_eq other eye ≡ same → eye < length world.eyes
    → (get_or (set world.eyes eye m) other (marks 0 0) ≡ get_or world.eyes other (marks 0 0))
    ⊎ ((other ≡ eye) × (get_or (set world.eyes eye m) other (marks 0 0) ≡ m))
set_at world eye other m true is below =
    let same : other ≡ eye = grind (arith, nat_tests) in
    inr (same, rw same (get_or-set_same world.eyes eye m (marks 0 0) below))
set_at world eye other m false is below =
    let apart : other ≢ eye = λ same. grind (arith, nat_tests) in
    inl (get_or-set_other world.eyes eye other m (marks 0 0) apart)

-- the marks of an eye are written, and those of the others stay
marks_set : (world : Standing) (eye other : ℕ) (m : Marks) → eye < length world.eyes
    → (get_or (set world.eyes eye m) other (marks 0 0) ≡ get_or world.eyes other (marks 0 0))
    ⊎ ((other ≡ eye) × (get_or (set world.eyes eye m) other (marks 0 0) ≡ m))
marks_set world eye other m below = set_at world eye other m (nat_eq other eye) refl below

pub entered_step : (world : Standing) (event : Event) (eye : ℕ) → IsOrdered world → EntersBy world event eye (stepped world event)
entered_step world event eye h = chosen (EntersBy world event eye) world (after world event) (refusal world event) (inl refl) (by event)
  where
    by : (event : Event) → refusal world event ≡ None → EntersBy world event eye (after world event)
    by (Append op) none =
        inl (take-append-le (marks_of world eye).entered world.appended (op ∷ [])
        (omega (arith, entered_bound world eye h, h.published)))
    by Publish none = inl refl
    by (Enter other) none = elim (marks_set world other eye (marks world.published world.published) (is_there world other none)) [
      | inl same ↦ inl (ap (λ (m : Marks). take m.entered world.appended) same)
      | inr new ↦ inr (ap Enter (sym new.0), ap (λ (m : Marks). take m.entered world.appended) new.1)
    ]
    by (Learn other) none = elim (marks_set world other eye (marks world.published (marks_of world other).entered) (is_there world other none)) [
      | inl same ↦ inl (ap (λ (m : Marks). take m.entered world.appended) same)
      | inr new ↦ inl (ap (λ (m : Marks). take m.entered world.appended) new.1 ∙ ap (λ j. take (marks_of world j).entered world.appended) (sym new.0))
    ]
    by (Answer other request) none = inl refl

-- an eye that enters takes what is published
pub entered_at : (world : Standing) (eye : ℕ) → eye < length world.eyes → entered_by (stepped world (Enter eye)) eye ≡ published_in world
entered_at world eye below =
    rw (not_refused world eye below) (ap (λ (m : Marks). take m.entered world.appended)
    (get_or-set_same world.eyes eye (marks world.published world.published) (marks 0 0) below))

-- ---- what is published

-- it stays, or all that is appended was published
abbrev pub PublishesBy : Standing → Event → Standing → Type 0
PublishesBy world event next = (published_in next ≡ published_in world) ⊎ ((event ≡ Publish) × (published_in next ≡ world.appended))

pub published_step : (world : Standing) (event : Event) → IsOrdered world → PublishesBy world event (stepped world event)
published_step world event h = chosen (PublishesBy world event) world (after world event) (refusal world event) (inl refl) (by event)
  where
    by : (event : Event) → refusal world event ≡ None → PublishesBy world event (after world event)
    by (Append op) none = inl (take-append-le world.published world.appended (op ∷ []) h.published)
    by Publish none = inr (refl, take-length world.appended)
    by (Enter eye) none = inl refl
    by (Learn eye) none = inl refl
    by (Answer eye request) none = inl refl

-- ---- what stays

-- the known features and the number of eyes
abbrev pub SameBoard : Standing → Standing → Type 0
SameBoard world next = (next.known ≡ world.known) × (length next.eyes ≡ length world.eyes)

pub board_step : (world : Standing) (event : Event) → SameBoard world (stepped world event)
board_step world event = chosen (SameBoard world) world (after world event) (refusal world event) (refl, refl) (by event)
  where
    by : (event : Event) → refusal world event ≡ None → SameBoard world (after world event)
    by (Append op) none = (refl, refl)
    by Publish none = (refl, refl)
    by (Enter eye) none = (refl, length-set world.eyes eye (marks world.published world.published))
    by (Learn eye) none = (refl, length-set world.eyes eye (marks world.published (marks_of world eye).entered))
    by (Answer eye request) none = (refl, refl)
