-- Booleans: `and` with true and `or` with false change nothing.
use Rattle.std.proofs.Common.{◌≡◌, Bool, true, false, ◌&&◌, ◌||◌, arith}

pub and_true : (b : Bool) → (b && true) ≡ b
and_true b = grind arith

pub or_false : (b : Bool) → (b || false) ≡ b
or_false b = grind arith
