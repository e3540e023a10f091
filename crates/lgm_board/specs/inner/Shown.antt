-- What is published, and what the threads of a board know about it.
use Rattle.std.specs.Prelude.{◌≡◌, ◌≤◌, ℕ, List, [], ◌∷◌, ◌++◌, length, Option, Some, Result, MatchResult}
use mathlib.Core.Option.{some}
use mathlib.Core.List.{IsPrefix}
use lib.ListN.{get_elem?}
use Rattle.logbook.specs.Pages.{Named}
use Rattle.lgm_store.specs.declared.op.Op.{Op}
use Rattle.lgm_store.specs.History.{fold}
use Rattle.lgm_board.specs.Limits.{most_operations}
use Rattle.lgm_board.specs.declared.snapshot.LogEntry.{LogEntry}
use Rattle.lgm_board.specs.declared.snapshot.LogEntry.TheVariants.{Absorb, Reached}
use Rattle.lgm_board.specs.Handles.{History, history}
use Rattle.lgm_board.specs.inner.Book.{head_of}
use Rattle.lgm_board.specs.inner.Contents.{Contents}

-- the operations among the entries
abbrev pub ops_of : List LogEntry → List Op
ops_of [] = []
ops_of (Absorb op ∷ entries) = op ∷ ops_of entries
ops_of (Reached told ∷ entries) = ops_of entries

-- the list that a snapshot has reached after these entries
abbrev pub reached : History → List LogEntry → History
reached told [] = told
reached told (Absorb op ∷ entries) = reached told entries
reached told (Reached other ∷ entries) = reached other entries

-- the published list with the operations among the entries
abbrev pub whole : History → List LogEntry → History
whole told entries = history told.board (told.ops ++ ops_of entries)

-- the entries reach exactly that list
abbrev pub IsComplete : History → List LogEntry → Type 0
IsComplete told entries = reached told entries ≡ whole told entries

-- the rows are the fold of the list, whose length is the number of operations applied
abbrev pub IsFold : Contents → Type 0
IsFold contents = (contents.rows ≡ fold contents.told.ops) × (contents.absorbed ≡ length contents.told.ops)

-- the second list extends the first one, of the same board
abbrev pub GoesOn : History → History → Type 0
GoesOn told other = (other.board ≡ told.board) × IsPrefix told.ops other.ops

-- a snapshot of the same board, with the same known bits, whose list extends that of the first
abbrev pub Follows : Contents → Contents → Type 0
Follows first next = (next.known ≡ first.known) × GoesOn first.told next.told

-- what is published is a fold, and follows each snapshot that a thread observed
abbrev pub Holds : Contents → List (Option Contents) → Type 0
Holds shown views =
    IsFold shown
    × ((seat : ℕ) (last : Contents) → get_elem? views seat ≡ some (Some last) → Follows last shown)

-- a step that observes what is shown, on a thread that observed `before` last
abbrev pub Sees : Option Contents → Contents → Option Contents → Type 0
Sees before shown after =
    (after ≡ Some shown) × IsFold shown × ((last : Contents) → before ≡ Some last → Follows last shown)

-- what is told is taken over unchanged
abbrev pub taken : Option Contents → Option Contents → Option Contents
taken own told = told

-- the effect of a publication on the published list and on the pending entries
abbrev pub Publishes : {A B : Type 0} → Result A B → History → History → List LogEntry → List LogEntry → Type 0
Publishes done old new pending left =
    MatchResult done (λ _. (new ≡ whole old pending) × (left ≡ [])) (λ _. (new ≡ old) × (left ≡ pending))

-- the word and the token of a pen's book, whose list is a prefix of the whole, and the number of operations appended
abbrev pub IsNoted : Named → History → ℕ → History → Type 0
IsNoted head noted appended all =
    (head ≡ head_of noted.board) × GoesOn noted all × (appended ≡ length all.ops) × (appended ≤ most_operations)
