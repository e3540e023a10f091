-- What is left of a script, and its lines.
use Rattle.std.proofs.Common.{ℕ, ◌<◌, Bool, true, false, cond, eqb, List, [], ◌∷◌, length, Option, Some, arith}
use Rattle.lgm_script.specs.Lines.{lines_of, onto_first}

-- bytes that are known
abbrev pub some_bytes : List ℕ → Option (List ℕ)
some_bytes bytes = Some bytes

-- where there is a byte there is a line
pub has_line : (bytes : List ℕ) → 0 < length bytes → 0 < length (lines_of bytes)
has_line [] some = absurd (omega arith)
has_line (b ∷ bs) some = by_test (eqb b 10)
  where
    onto : (ls : List (List ℕ)) → 0 < length (onto_first b ls)
    onto [] = omega arith
    onto (l ∷ ls) = omega arith

    by_test : (t : Bool) → 0 < length (cond t ([] ∷ lines_of bs) (onto_first b (lines_of bs)))
    by_test true = omega arith
    by_test false = onto (lines_of bs)
