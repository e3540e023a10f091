-- Common to the modules named Reading: a reader takes bytes from left to right, and returns a
-- value, mostly with the bytes after it, or the first fault.
use Rattle.std.specs.Prelude.{◌≡◌, ◌⊎◌, Result, Ok, Err}

-- a function returned what the reading gives, seen through view
abbrev pub Sees : {X Y E : Type 0} → (X → Y) → Result X E → Result Y E → Type 0
Sees view (Ok x) read = read ≡ Ok (view x)
Sees view (Err e) read = read ≡ Err e

-- the same, unless memory ran out
abbrev pub Gives : {X Y E : Type 0} → E → (X → Y) → Result X E → Result Y E → Type 0
Gives no_memory view (Ok x) read = read ≡ Ok (view x)
Gives no_memory view (Err e) read = (e ≡ no_memory) ⊎ (read ≡ Err e)

-- one reader after the other
infixl 10 ◌>>=◌
abbrev pub ◌>>=◌ : {A B E : Type 0} → Result A E → (A → Result B E) → Result B E
(Ok x) >>= f = f x
(Err e) >>= f = Err e
