use Rattle.std.proofs.Common.{◌≡◌, ◌<◌, ◌+◌, ◌++◌, length, take, vec_capacity, vec_len}
use Rattle.std.specs.Prelude.{codes}
use Rattle.lgm_script.proofs.output.text.push_word.Given as goal

-- the first bytes of the word are behind the space, and there is room for the others and the line feed
abbrev pub invariant-loop-i : goal.invariant-loop-i
invariant-loop-i l =
    (l.text.items ≡ l.fn.text.items ++ codes " " ++ take l.i l.bytes)
    × (vec_len l.text + length l.bytes < vec_capacity l.text + l.i)
