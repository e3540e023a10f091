-- A buffer that is filled from its front.
use Rattle.std.specs.Prelude.{◌≡◌, ℕ, ◌≤◌, List, ◌++◌, length, drop}

-- so many bytes of the buffer were written, these, and the others are as they were
pub record IsFilled (start front : List ℕ) (at : ℕ) (room : List ℕ) : Type 0 where
  pub place : at ≡ length front
  pub fits : at ≤ length start
  pub bytes : room ≡ front ++ drop at start
