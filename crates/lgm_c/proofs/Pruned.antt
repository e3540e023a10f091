-- Channels that are closed and told, one after the other.
use Rattle.std.proofs.Common.{◌≡◌, ◌∙◌, ℕ, ◌+◌, ◌<◌, false, List, [], ◌∷◌, ◌++◌, length, take, get_or, Some, refl, sym, ap, subst, inl, inr}
use Rattle.std.specs.Prelude.{map}
use Rattle.std.proofs.lemmas.List.{take_more}
use Rattle.lgm_wire.specs.declared.chain_hash.ChainHash.{ChainHash}
use Rattle.lgm_store.specs.declared.op.Op.TheVariants as ops
use Rattle.lgm_store.specs.Rows.{Rows}
use Rattle.lgm_timeline.specs.History.{Moment, behind}
use Rattle.lgm_timeline.specs.Timeline.{TimelineState, newest}
use Rattle.lgm_sync.specs.declared.pruning.StaleChannel.{StaleChannel}
use Rattle.lgm_sync.specs.Pruning.{prunable_of}
use Rattle.lgm_c.specs.declared.chain_map.MapKind.TheVariants as kinds
use Rattle.lgm_c.specs.MapState.{MapState}
use Rattle.lgm_c.specs.Pruning.{without_each, Entries, AreTold, ClosesEach, Prunes}
use Rattle.lgm_c.specs.inner.Closing.{behind_each}
use Rattle.lgm_c.specs.inner.Kinds.{state_in}

-- the first ones and one more
taken_more : (stale : List StaleChannel) (place : ℕ) (one : StaleChannel) → place < length stale → one ≡ get_or stale place one
    → take (place + 1) stale ≡ take place stale ++ one ∷ []
taken_more stale place one within is =
    take_more stale place one within ∙ ap (λ (it : StaleChannel). take place stale ++ it ∷ []) (sym is)

behind_last : (now : Moment) (stale : List StaleChannel) (one : StaleChannel)
    → behind_each now (stale ++ one ∷ []) ≡ behind (behind_each now stale) (ops.Close one.scid)
behind_last now [] one = refl
behind_last now (first ∷ others) one = behind_last (behind now (ops.Close first.scid)) others one

pub closed_more : (now : Moment) (stale : List StaleChannel) (place : ℕ) (one : StaleChannel) → place < length stale
    → one ≡ get_or stale place one
    → behind_each now (take (place + 1) stale) ≡ behind (behind_each now (take place stale)) (ops.Close one.scid)
closed_more now stale place one within is =
    ap (behind_each now) (taken_more stale place one within is) ∙ behind_last now (take place stale) one

-- ---- in a map that changes

abbrev told_in : ChainHash → Rows → Moment → MapState
told_in chain marked now = record {
  is_published = false;
  chain = chain;
  known = now.known;
  rows = now.rows;
  version = now.at;
  marked = marked;
}

without_told : (chain : ChainHash) (marked : Rows) (now : Moment) (stale : List StaleChannel)
    → told_in chain marked (behind_each now stale) ≡ without_each (told_in chain marked now) stale
without_told chain marked now [] = refl
without_told chain marked now (one ∷ others) = without_told chain marked (behind now (ops.Close one.scid)) others

without_all : (chain : ChainHash) (old new : TimelineState) (stale : List StaleChannel) → newest new ≡ behind_each (newest old) stale
    → new.marked ≡ old.marked
    → Some (state_in chain (kinds.Changing new)) ≡ Some (without_each (state_in chain (kinds.Changing old)) stale)
without_all chain old new stale closed marked =
    ap Some (ap (λ (m : Rows). told_in chain m (newest new)) marked ∙ ap (told_in chain old.marked) closed
    ∙ without_told chain old.marked (newest old) stale)

told_as : (stale : List StaleChannel) (A B : List StaleChannel → Type 0) → ((these : List StaleChannel) → A these → B these)
    → (old new : Entries) → AreTold stale A old new → AreTold stale B old new
told_as stale A B so old new told = record { few = told.few; closed = so _ told.closed; told = told.told }

pub prunes : (chain : ChainHash) (old new : TimelineState) (before block status : ℕ) (told now : Entries)
    → ClosesEach (prunable_of old.network.rows before block) (λ these. newest new ≡ behind_each (newest old) these) status told now
    → new.marked ≡ old.marked
    → Prunes before block status (Some (state_in chain (kinds.Changing old))) (Some (state_in chain (kinds.Changing new))) told now
prunes chain old new before block status told now closes marked =
    elim closes [
      | inl all ↦ inl (all.0, all.1, lift all.2)
      | inr (inl some) ↦ inr (inl (some.0, lift some.1))
      | inr (inr none) ↦ inr (inr (none.0, none.1, so [] none.2, none.3))
    ]
  where
    stale : List StaleChannel
    stale = prunable_of old.network.rows before block

    so : (these : List StaleChannel) → newest new ≡ behind_each (newest old) these
        → Some (state_in chain (kinds.Changing new)) ≡ Some (without_each (state_in chain (kinds.Changing old)) these)
    so these closed = without_all chain old new these closed marked

    lift : AreTold stale (λ these. newest new ≡ behind_each (newest old) these) told now
        → AreTold stale (λ these. Some (state_in chain (kinds.Changing new)) ≡ Some (without_each (state_in chain (kinds.Changing old)) these)) told now
    lift these = told_as stale _ _ so told now these

-- the same of what equals these
pub prunes_as : (chain : ChainHash) (old new : TimelineState) (before block status : ℕ) (told now : Entries)
    → ClosesEach (prunable_of old.network.rows before block) (λ these. newest new ≡ behind_each (newest old) these) status told now
    → new.marked ≡ old.marked
    → (first last : MapState) (number : ℕ) (left : Entries) → first ≡ state_in chain (kinds.Changing old)
    → last ≡ state_in chain (kinds.Changing new) → number ≡ status → left ≡ now
    → Prunes before block number (Some first) (Some last) told left
prunes_as chain old new before block status told now closes marked first last number left first_is last_is number_is left_is =
    let base = prunes chain old new before block status told now closes marked in
    subst (λ (f : MapState). Prunes before block number (Some f) (Some last) told left) (sym first_is)
    (subst (λ (l : MapState). Prunes before block number (Some (state_in chain (kinds.Changing old))) (Some l) told left) (sym last_is)
    (subst (λ (n : ℕ). Prunes before block n (Some (state_in chain (kinds.Changing old))) (Some (state_in chain (kinds.Changing new))) told left)
    (sym number_is)
    (subst (λ (e : Entries). Prunes before block status (Some (state_in chain (kinds.Changing old))) (Some (state_in chain (kinds.Changing new))) told e)
    (sym left_is) base)))
