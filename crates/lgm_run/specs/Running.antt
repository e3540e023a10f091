-- What running a script writes.
use Rattle.std.specs.Prelude.{◌≡◌, ◌⊎◌, ℕ, ◌<◌, ◌≤◌, List, [], ◌++◌, length}
use Rattle.std.specs.Prelude.{take, Option, Some, filter, slice_index_or}
use Rattle.std.specs.List.{AllByRecursion}
use Rattle.lgm_wire.specs.declared.chain_hash.ChainHash.{ChainHash}
use Rattle.lgm_answers.specs.Limits.{longest_line, most_lines}
use Rattle.lgm_script.specs.Lines.{ends_line, lines_of}
use Rattle.lgm_answers.specs.declared.run_fault.RunFault.{RunFault}
use Rattle.lgm_answers.specs.declared.run_fault.RunFault.TheVariants as faults
use Rattle.lgm_run.specs.declared.script_run.Counts.{Counts}
use Rattle.lgm_answers.specs.Outcomes.{history_of}
use Rattle.lgm_answers.specs.Script.{commands_of, items_of, text_before}

-- a fault that needs no board: no reader has to find a map there
abbrev pub NeedsNoBoard : RunFault → Type 0
NeedsNoBoard faults.Closed = ⊥
NeedsNoBoard faults.Versions = ⊥
NeedsNoBoard _ = Unit {0}

-- none of the first n lines is too long, and their text was written
pub record IsTold (chain : ChainHash) (known : Option (List ℕ)) (told : List ℕ → Type 0) (script : List ℕ)
    (n : ℕ) : Type 0 where
  pub few : n ≤ length (lines_of script)
  pub short : AllByRecursion (λ line. length line ≤ longest_line) (take n (lines_of script))
  pub text : told (text_before chain known (commands_of script) n)

-- all lines are within the limits, and the whole text was written
pub record IsAnswered (chain : ChainHash) (known : Option (List ℕ)) (told : List ℕ → Type 0) (counts : Counts)
    (script : List ℕ) : Type 0 where
  pub lines : counts.lines ≡ length (lines_of script)
  pub limit : counts.lines ≤ most_lines
  pub accepted : counts.accepted ≡ length (history_of chain (items_of (commands_of script)))
  pub text : IsTold chain known told script counts.lines

-- one more line than the limit begins, and the text of the lines before it was written
pub record IsTooMany (chain : ChainHash) (known : Option (List ℕ)) (told : List ℕ → Type 0)
    (script : List ℕ) : Type 0 where
  pub more : most_lines < length (lines_of script)
  pub text : IsTold chain known told script most_lines

-- a line is too long, and the text of the lines before it was written
pub record IsTooLong (chain : ChainHash) (known : Option (List ℕ)) (told : List ℕ → Type 0)
    (script : List ℕ) : Type 0 where
  pub place : ℕ
  pub limit : place < most_lines
  pub long : longest_line < length (slice_index_or (lines_of script) place [])
  pub text : IsTold chain known told script place

-- the first n lines of a script were read, each to its line feed or to the end, if this is left of it
pub record AreRead (script : List ℕ) (left : Option (List ℕ)) (n : ℕ) : Type 0 where
  pub front : List ℕ
  pub rest : List ℕ
  pub parts : script ≡ front ++ rest
  pub left_is : left ≡ Some rest
  pub whole : (n ≤ length (filter ends_line front)) ⊎ (rest ≡ [])

-- the lines whose text was started are within the limits and were read, and nothing but a prefix of their text was
-- written
pub record IsCutShort (chain : ChainHash) (known : Option (List ℕ)) (told_part : List ℕ → Type 0)
    (left : Option (List ℕ)) (script : List ℕ) : Type 0 where
  pub answered : ℕ
  pub limit : answered ≤ most_lines
  pub read : AreRead script left answered
  pub text : IsTold chain known told_part script answered
