-- Bytes of which one was changed.
use Rattle.std.specs.Prelude.{◌≡◌, ◌≢◌, ℕ, ◌<◌, List, ◌∷◌, ◌++◌}

pub record IsChangedAtOne (before after : List ℕ) : Type 0 where
  pub front : List ℕ
  pub back : List ℕ
  pub old : ℕ
  pub new : ℕ
  pub old_small : old < 256
  pub new_small : new < 256
  pub differs : old ≢ new
  pub before_is : before ≡ front ++ old ∷ back
  pub after_is : after ≡ front ++ new ∷ back
