-- Entries that are set one by one.
use Rattle.std.proofs.Common.{◌≡◌, ◌∙◌, sym, [], ◌∷◌, ◌++◌, is_some, Ok, Err, refl, inl, inr, append_assoc, append-nil}
use Rattle.lgm_wire.proofs.ReadingLaws.{chosen}
use Rattle.lgm_graph.specs.Estimates.{Entries, AreOfDistinctEdges, known_of}
use Rattle.lgm_graph.proofs.EstimateLaws.{known-before}
use Rattle.lgm_payer_state.specs.declared.state_fault.StateFault.TheVariants.{Damaged}
use Rattle.lgm_payer_state.specs.reading.EstimatesReading.{estimates_behind, estimates_of}

-- what is set are all entries
pub behind_are : (known entries learnt : Entries) → estimates_behind known entries ≡ Ok learnt → learnt ≡ known ++ entries
behind_are known [] learnt e = let same : known ≡ learnt = cc in sym same ∙ sym (append-nil known)
behind_are known (entry ∷ entries) learnt e =
    elim (chosen (is_some (known_of known entry.0.scid entry.0.from)) (Err Damaged) (estimates_behind (known ++ entry ∷ []) entries) (Ok learnt) e) [
      | inl bad ↦ let none = bad.1 in absurd cc
      | inr good ↦ behind_are (known ++ entry ∷ []) entries learnt good.1 ∙ append_assoc known (entry ∷ []) entries
    ]

pub estimates_are : (entries learnt : Entries) → estimates_of entries ≡ Ok learnt → learnt ≡ entries
estimates_are entries learnt e = behind_are [] entries learnt e

-- those of distinct edges are set
distinct_behind : (known entries : Entries) → AreOfDistinctEdges (known ++ entries) → estimates_behind known entries ≡ Ok (known ++ entries)
distinct_behind known [] distinct = rw (append-nil known) refl
distinct_behind known (entry ∷ entries) distinct =
    let before = known-before known entries entry.0 entry.1 distinct in
    let others = distinct_behind (known ++ entry ∷ []) entries (rw (append_assoc known (entry ∷ []) entries) distinct) in
    rw before (others ∙ rw (append_assoc known (entry ∷ []) entries) refl)

pub distinct_estimates : (entries : Entries) → AreOfDistinctEdges entries → estimates_of entries ≡ Ok entries
distinct_estimates entries distinct = distinct_behind [] entries distinct
