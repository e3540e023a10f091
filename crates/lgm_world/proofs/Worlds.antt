-- A world stays in order.
use Rattle.std.proofs.Common.{ℕ, ◌≤◌, ◌<◌, List, [], ◌∷◌, length, length-append, arith, get_or, All, Option}
use Rattle.std.proofs.lemmas.List.Elements.{All-replicate, All-set, All-get_or, All-from_get_or}
use Rattle.lgm_store.specs.declared.op.Op.{Op}
use Rattle.lgm_world.specs.declared.world.Marks.{Marks}
use Rattle.lgm_world.specs.declared.event.Event.TheVariants.{Append, Publish, Enter, Learn}
use Rattle.lgm_world.specs.World.{Standing, IsOrdered, opening, after, marks, marks_of}

-- what was published before is published
seen_more : (eyes : List Marks) (few more : ℕ) → few ≤ more → All (λ eye. eye.seen ≤ few) eyes → All (λ eye. eye.seen ≤ more) eyes
seen_more eyes few more le h =
    All-from_get_or (λ eye. eye.seen ≤ more) eyes (marks 0 0)
    (λ i below. let at : (get_or eyes i (marks 0 0)).seen
    ≤ few = All-get_or (λ eye. eye.seen ≤ few) eyes i (marks 0 0) below h in omega (arith, at, le))

-- nothing is observed if nothing is published
pub ordered_opening : (known : Option (List ℕ)) (eyes : ℕ) → IsOrdered (opening known eyes)
ordered_opening known eyes = record {
  entered = All-replicate (λ m. m.entered ≤ m.seen) eyes (marks 0 0) (omega arith);
  seen = All-replicate (λ m. m.seen ≤ 0) eyes (marks 0 0) (omega arith);
  published = omega arith;
}

pub ordered_append : (world : Standing) (op : Op) → IsOrdered world → IsOrdered (after world (Append op))
ordered_append world op h =
    record {
      entered = h.entered;
      seen = h.seen;
      published = omega (arith, h.published, length-append world.appended (op ∷ []));
    }

pub ordered_publish : (world : Standing) → IsOrdered world → IsOrdered (after world Publish)
ordered_publish world h =
    record {
      entered = h.entered;
      seen = seen_more world.eyes world.published (length world.appended) h.published h.seen;
      published = omega arith;
    }

pub ordered_enter : (world : Standing) (eye : ℕ) → IsOrdered world → IsOrdered (after world (Enter eye))
ordered_enter world eye h = record {
  entered = All-set (λ m. m.entered ≤ m.seen) world.eyes eye (marks world.published world.published) (omega arith) h.entered;
  seen = All-set (λ m. m.seen ≤ world.published) world.eyes eye (marks world.published world.published) (omega arith) h.seen;
  published = h.published;
}

pub ordered_learn : (world : Standing) (eye : ℕ) → eye < length world.eyes → IsOrdered world → IsOrdered (after world (Learn eye))
ordered_learn world eye below h =
    let took = All-get_or (λ m. m.entered ≤ m.seen) world.eyes eye (marks 0 0) below h.entered in
    let saw = All-get_or (λ m. m.seen ≤ world.published) world.eyes eye (marks 0 0) below h.seen in
    record {
      entered =
          All-set (λ m. m.entered ≤ m.seen) world.eyes eye
          (marks world.published (marks_of world eye).entered) (omega (arith, took, saw)) h.entered;
      seen = All-set (λ m. m.seen ≤ world.published) world.eyes eye (marks world.published (marks_of world eye).entered) (omega arith) h.seen;
      published = h.published;
    }
