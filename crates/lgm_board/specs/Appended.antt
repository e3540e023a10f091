-- When an operation is refused for the number of operations.
use Rattle.std.specs.Prelude.{◌≡◌, ◌↔◌, ℕ, Result, Ok, Err}
use Rattle.lgm_board.specs.Limits.{most_operations}
use Rattle.lgm_board.specs.declared.fault.AppendFault.{AppendFault}
use Rattle.lgm_board.specs.declared.fault.AppendCause.TheVariants.{Full}

-- after this many operations: Full is returned if and only if the limit is reached
abbrev pub AppendIs : {A : Type 0} → Result A AppendFault → ℕ → Type 0
AppendIs (Ok done) count = count ≡ most_operations → ⊥
AppendIs (Err fault) count = (fault.cause ≡ Full) ↔ (count ≡ most_operations)
