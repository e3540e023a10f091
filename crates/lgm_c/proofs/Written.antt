-- What is written of what was found.
use Rattle.std.proofs.Common.{◌≡◌, ℕ, List, Result, Ok, Err, inl, inr, sym, ap, subst, ◌∙◌}
use Rattle.lgm_graph.specs.declared.route.Hop.{Hop}
use Rattle.lgm_route.specs.declared.found.Found.{Found}
use Rattle.lgm_c.specs.declared.fault.Fault.{Fault}
use Rattle.lgm_c.specs.Routing.{Buffers, WritesFound, WritesHops, WritesRoute, WritesSoFar, number_written}
use Rattle.lgm_c.specs.Status.{number_of}
use Rattle.lgm_c.specs.inner.Searching.{GivesRoute}

module _ (expected : Result (List Hop) Fault) (stops : Type 0) (is_route : List Hop → Type 0) (secret : List ℕ) (status : ℕ)
    (old : Buffers) (new : Buffers) where
  -- a route
  pub writes_found : (found : Found) → GivesRoute expected stops is_route (Ok found)
      → WritesHops (number_written found.is_best) found.route secret status old new
      → WritesSoFar expected stops is_route secret status old new
  writes_found found is wrote =
      elim is [
        | inl best ↦ inl (subst (λ answer. WritesRoute answer secret status old new) (sym best.1)
            (elim (subst (λ is_best. WritesHops (number_written is_best) found.route secret status old new) best.0 wrote) [
              | inl written ↦ inl written
              | inr none ↦ inr (tt, none.0, none.1)
            ]))
        | inr so_far ↦
            elim (subst (λ is_best. WritesHops (number_written is_best) found.route secret status old new) so_far.0 wrote) [
              | inl written ↦ inr (so_far.1, so_far.2, inr (found.route, so_far.3, written))
              | inr none ↦ inl (inr (so_far.1, none.0, none.1))
            ]
      ]

  -- a fault
  pub writes_fault : (fault : Fault) → GivesRoute expected stops is_route (Err fault) → status ≡ number_of fault → new ≡ old
      → WritesSoFar expected stops is_route secret status old new
  writes_fault fault is number same =
      elim is [
        | inl none ↦ inl (inl (subst (λ answer. WritesFound answer secret status old new) (sym none) (number, same)))
        | inr other ↦ elim other [
          | inl none ↦ inl (inr (none.0, number ∙ ap number_of none.1, same))
          | inr stopped ↦ inr (stopped.0, stopped.1, inl (number ∙ ap number_of stopped.2, same))
        ]
      ]

-- a search that never stops
pub writes_best : (expected : Result (List Hop) Fault) (asked : Result (List Hop) Fault) (stops : Type 0)
    (is_route : List Hop → Type 0) (secret : List ℕ) (status : ℕ) (old : Buffers) (new : Buffers)
    → (stops → ⊥) → expected ≡ asked
    → WritesSoFar expected stops is_route secret status old new → WritesRoute asked secret status old new
writes_best expected asked stops is_route secret status old new never is wrote =
    elim wrote [
      | inl written ↦ subst (λ answer. WritesRoute answer secret status old new) is written
      | inr stopped ↦ absurd (never stopped.1)
    ]
