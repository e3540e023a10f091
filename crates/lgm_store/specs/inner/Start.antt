-- The bounds of ranges of keys.
use Rattle.std.specs.Prelude.{◌≡◌, ℕ, ◌*◌, ◌^◌, ◌≤◌, Option, Some, None}
use Rattle.std.specs.declared.ops.Bound.{Bound}
use Rattle.std.specs.declared.ops.Bound.TheVariants.{Included, Excluded, Unbounded}

-- above a key, or from the first key
abbrev pub start_after : {K : Type 0} → Option K → Bound K
start_after None = Unbounded
start_after (Some key) = Excluded key

-- the bound that excludes the ids of this block and later ones: none, if no id has the block
abbrev pub IsEndBefore : ℕ → Bound ℕ → Type 0
IsEndBefore block (Included end) = ⊥
IsEndBefore block (Excluded end) = end ≡ block * 2 ^ 40
IsEndBefore block Unbounded = 2 ^ 64 ≤ block * 2 ^ 40
