-- Lines that are written in batches.
use Rattle.std.proofs.Common.{◌≡◌, ℕ, Result, Ok, Err, List, [], ◌++◌, sym, ap, ◌∙◌, append_assoc, refl}
use Rattle.lgm_script.specs.declared.output.SendFault.{SendFault}
use Rattle.lgm_script.specs.Output.{OutputState, TellsPart, Writes}
use Rattle.lgm_script.proofs.WrittenTextLaws.{Onward, onward_more, onward_stops, onward_ends}
use Rattle.lgm_answers.specs.inner.Batch.{TellsFront}

module _ (old mid new : OutputState) (whole waiting rest : List ℕ) (on : Onward old mid whole (waiting ++ rest)) where
  -- the line of one more message waits behind the others
  behind : (line others : List ℕ) → rest ≡ line ++ others → waiting ++ rest ≡ (waiting ++ line) ++ others
  behind line others is = ap (λ (s : List ℕ). waiting ++ s) is ∙ sym (append_assoc waiting line others)

  -- one more message was added
  pub onward_added : (line others waiting' : List ℕ) → rest ≡ line ++ others → TellsFront mid new (waiting ++ line) waiting'
      → Onward old new whole (waiting' ++ others)
  onward_added line others waiting' is front =
      onward_more old mid new whole (waiting ++ rest) front.done (waiting' ++ others) on
      (behind line others is ∙ ap (λ (s : List ℕ). s ++ others) front.parts ∙ append_assoc front.done waiting' others)
      front.told

  -- there was a fault when one more message was added
  pub added_stops : (line others : List ℕ) (fault : SendFault) → rest ≡ line ++ others → TellsPart mid new (waiting ++ line) fault
      → TellsPart old new whole fault
  added_stops line others fault is part =
      onward_stops old mid new whole (waiting ++ rest) (waiting ++ line) others fault on (behind line others is) part

  -- those that wait are written, and no others come
  pub sends_rest : rest ≡ [] → (result : Result (Unit {0}) SendFault) → Writes mid new waiting result → Writes old new whole result
  sends_rest none (Ok done) told =
      onward_ends old new whole []
      (onward_more old mid new whole (waiting ++ rest) waiting [] on (ap (λ (s : List ℕ). waiting ++ s) none) told) refl
  sends_rest none (Err fault) part =
      onward_stops old mid new whole (waiting ++ rest) waiting [] fault on (ap (λ (s : List ℕ). waiting ++ s) none) part
