-- Operations between two positions.
use Rattle.std.proofs.Common.{◌≡◌, ℕ, ◌+◌, ◌-◌, ◌<◌, ◌≤◌, List, [], ◌∷◌, ◌++◌, length, take, drop, get_or, suc, sym, ap, ◌∙◌, arith}
use Rattle.std.proofs.lemmas.List.{drop-append-le, take-append-le, length-drop, take_all, drop-drop, drop_more}
use Rattle.lgm_store.specs.declared.op.Op.{Op}
use Rattle.lgm_store.specs.Rows.{Rows}
use Rattle.lgm_store.specs.History.{absorbed, fold_from}
use Rattle.lgm_timeline.specs.History.{Log, end, between, since, IsTrimmed}

-- nothing is between a position and itself
pub between_none : (log : Log) (from to : ℕ) → from ≡ to → between log from to ≡ []
between_none log from to same =
    let none : to - from ≡ 0 = omega arith in
    ap (λ n. take n (drop (from - log.base) log.ops)) none

-- behind a position is all up to the end
pub between_all : (log : Log) (from : ℕ) → log.base ≤ from → between log from (end log) ≡ since log from
between_all log from kept =
    let few : length (drop (from - log.base) log.ops) ≤ end log - from =
    omega (arith, length-drop (from - log.base) log.ops) in
    take_all (end log - from) (drop (from - log.base) log.ops) few

-- one more operation changes nothing before it
pub between_push : (log new : Log) (op : Op) (from to : ℕ) → new.base ≡ log.base → new.ops ≡ log.ops ++ op ∷ []
    → log.base ≤ from → from ≤ end log → to ≤ end log → between new from to ≡ between log from to
between_push log new op from to base ops kept before within =
    let n = from - log.base in
    let inside : n ≤ length log.ops = omega arith in
    let few : to - from ≤ length (drop n log.ops) = omega (arith, length-drop n log.ops) in
    ap (λ (b : ℕ). take (to - from) (drop (from - b) new.ops)) base
    ∙ ap (λ (items : List Op). take (to - from) (drop n items)) ops
    ∙ ap (take (to - from)) (drop-append-le n log.ops (op ∷ []) inside)
    ∙ take-append-le (to - from) (drop n log.ops) (op ∷ []) few

-- without the first operations
pub trim_end : (old new : Log) → IsTrimmed old new → end new ≡ end old
trim_end old new trimmed =
    let long = length-drop (new.base - old.base) old.ops in
    let same : length new.ops ≡ length (drop (new.base - old.base) old.ops) = ap length trimmed.ops in
    let from = trimmed.from in
    let within = trimmed.within in
    omega arith

pub between_trim : (old new : Log) (from to : ℕ) → IsTrimmed old new → new.base ≤ from → between new from to ≡ between old from to
between_trim old new from to trimmed kept =
    let first = trimmed.from in
    let parts : (new.base - old.base) + (from - new.base) ≡ from - old.base = omega arith in
    ap (λ (items : List Op). take (to - from) (drop (from - new.base) items)) trimmed.ops
    ∙ ap (take (to - from)) (drop-drop (from - new.base) (new.base - old.base) old.ops)
    ∙ ap (λ (n : ℕ). take (to - from) (drop n old.ops)) parts

-- what was applied is behind
pub rows_step : (log : Log) (rows next : Rows) (op : Op) (at later : ℕ) → log.base ≤ at → at < end log → at + 1 ≤ later
    → op ≡ get_or log.ops (at - log.base) op → next ≡ absorbed rows op
    → fold_from next (between log (at + 1) later) ≡ fold_from rows (between log at later)
rows_step log rows next op at later kept within ahead is absorbs =
    let n = at - log.base in
    let inside : n < length log.ops = omega arith in
    let further : (at + 1) - log.base ≡ n + 1 = omega arith in
    let count : later - at ≡ suc (later - (at + 1)) = omega arith in
    let parts : drop n log.ops ≡ op ∷ drop (n + 1) log.ops =
    drop_more log.ops n op inside ∙ ap (λ (first : Op). first ∷ drop (n + 1) log.ops) (sym is) in
    let split : between log at later ≡ op ∷ between log (at + 1) later =
    ap (λ (k : ℕ). take k (drop n log.ops)) count
    ∙ ap (take (suc (later - (at + 1)))) parts
    ∙ ap (λ (k : ℕ). op ∷ take (later - (at + 1)) (drop k log.ops)) (sym further) in
    ap (λ (start : Rows). fold_from start (between log (at + 1) later)) absorbs ∙ ap (fold_from rows) (sym split)
