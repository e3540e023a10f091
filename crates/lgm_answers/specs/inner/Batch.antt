-- Lines that wait to be written together.
use Rattle.std.specs.Prelude.{◌≡◌, ℕ, List, ◌++◌, Result, MatchResult}
use Rattle.lgm_script.specs.declared.output.SendFault.{SendFault}
use Rattle.lgm_script.specs.Output.{OutputState, Tells, TellsPart}

-- of a text a part was written, and the rest waits
pub record TellsFront (old new : OutputState) (text waiting : List ℕ) : Type 0 where
  pub done : List ℕ
  pub told : Tells old new done
  pub parts : text ≡ done ++ waiting

-- what a call says that adds a line behind those that wait: the rest waits then, or at a fault a prefix was written
abbrev pub Adds : OutputState → OutputState → List ℕ → List ℕ → List ℕ → Result (Unit {0}) SendFault → Type 0
Adds old new before line after result =
    MatchResult result (λ _. TellsFront old new (before ++ line) after) (λ fault. TellsPart old new (before ++ line) fault)
