-- Iterating over an ordered map, from a key on.
use Rattle.std.proofs.Common.{◌≡◌, ℕ, ◌*◌, ◌^◌, ◌<◌, ◌≤◌, Bool, true, false, not, ◌&&◌, cond, List}
use Rattle.std.proofs.Common.{[], ◌∷◌, Option, Some, None, refl, sym, ap, ◌∙◌, arith}
use Rattle.std.specs.Prelude.{nat_lt, nat_le}
use Rattle.std.specs.List.{AllByRecursion, filter, find}
use Rattle.std.specs.Map.{values_of}
use Rattle.std.specs.Bound.{MatchBound}
use Rattle.std.specs.declared.ops.Bound.{Bound}
use Rattle.std.specs.declared.ops.Bound.TheVariants.{Included, Excluded, Unbounded}
use Rattle.std.specs.BTreeMap.Range.{range_contains, is_past_end, entries_between}
use Rattle.std.specs.Ordering.{is_lt, is_le, is_gt, nat_cmp}
use Rattle.std.proofs.lemmas.Bool.Decides.{nat_tests}
use Rattle.lgm_wire.specs.declared.point.Point.{Point}
use Rattle.lgm_check.specs.declared.row.ChannelRow.{ChannelRow}
use Rattle.lgm_check.specs.declared.row.NodeRow.{NodeRow}
use Rattle.lgm_store.specs.Keys.{IsKeyed, point_cmp, point_of, id_of}
use Rattle.lgm_store.specs.Reading.{next_channel_of, next_node_of, block_of, is_between}
use Rattle.lgm_store.specs.inner.Start.{start_after, IsEndBefore}
use Rattle.lgm_store.proofs.Booleans.{and_true}

module _ {K R : Type 0} where
  -- the value of the first entry
  abbrev pub first_value : List (K × R) → Option R
  first_value [] = None
  first_value (e ∷ es) = Some e.1

  -- the first value that passes is that of the first entry that does
  find-filter : (p : K × R → Bool) (q : R → Bool) (entries : List (K × R)) → AllByRecursion (λ e. p e
      ≡ q e.1) entries → find q (values_of entries) ≡ first_value (filter p entries)
  find-filter p q [] alike = refl
  find-filter p q (e ∷ es) alike = by (find-filter p q es alike.1) (q e.1) alike.0
    where
      by : find q (values_of es) ≡ first_value (filter p es) → (b : Bool) → p e ≡ b → cond b (Some e.1)
          (find q (values_of es)) ≡ first_value (cond (p e) (e ∷ filter p es) (filter p es))
      by others true is = rw is refl
      by others false is = rw is others

  -- the same where the tests agree on entries under their rows' own keys
  find-keyed : (key : R → K) (p : K × R → Bool) (q : R → Bool) → ((e : K × R) → e.0 ≡ key e.1 → p e ≡ q e.1)
      → (entries : List (K × R)) → IsKeyed key entries → find q (values_of entries) ≡ first_value (filter p entries)
  find-keyed key p q agree entries keyed = find-filter p q entries (along entries keyed)
    where
      along : (es : List (K × R)) → IsKeyed key es → AllByRecursion (λ e. p e ≡ q e.1) es
      along [] keyed = tt
      along (e ∷ es) keyed = (agree e keyed.0, along es keyed.1)

-- ---- the next

pub next_channel-between : (entries : List (ℕ × ChannelRow)) (after : Option ℕ) → IsKeyed id_of entries
    → next_channel_of (values_of entries) after ≡ first_value (entries_between nat_cmp (start_after after) Unbounded entries)
next_channel-between entries None keyed =
    find-keyed id_of (λ e. range_contains nat_cmp Unbounded Unbounded e.0) (λ row. true) (λ e own. refl) entries keyed
next_channel-between entries (Some id) keyed =
    find-keyed id_of (λ e. range_contains nat_cmp (Excluded id) Unbounded e.0) (λ row. nat_lt id (id_of row))
    (λ e own. above e.0 ∙ ap (nat_lt id) own) entries keyed
  where
    above : (k : ℕ) → (is_lt (nat_cmp id k) && true) ≡ nat_lt id k
    above k = and_true (is_lt (nat_cmp id k)) ∙ grind (arith, nat_tests)

pub next_node-between : (entries : List (Point × NodeRow)) (after : Option Point) → IsKeyed point_of entries
    → next_node_of (values_of entries) after ≡ first_value (entries_between point_cmp (start_after after) Unbounded entries)
next_node-between entries None keyed =
    find-keyed point_of (λ e. range_contains point_cmp Unbounded Unbounded e.0) (λ row. true) (λ e own. refl) entries keyed
next_node-between entries (Some node) keyed =
    find-keyed point_of (λ e. range_contains point_cmp (Excluded node) Unbounded e.0)
    (λ row. is_lt (point_cmp node (point_of row)))
    (λ e own. and_true (is_lt (point_cmp node e.0)) ∙ ap (λ (p : Point). is_lt (point_cmp node p)) own) entries keyed

-- ---- ids by their blocks

-- a range of blocks doesn't run backwards
pub forward : (end : Bound ℕ) (start from to : ℕ) → start ≤ from * 2 ^ 40 → from < to → IsEndBefore to end
    → MatchBound end (λ b. is_gt (nat_cmp start b) ≡ false) (λ b. is_gt (nat_cmp start b) ≡ false) (Unit {0})
forward (Included b) start from to least below end_is = absurd end_is
forward (Excluded b) start from to least below end_is = not_above start b (omega arith)
  where
    not_above : (x y : ℕ) → x ≤ y → is_gt (nat_cmp x y) ≡ false
    not_above x y le = grind (arith, nat_tests)
forward Unbounded start from to least below end_is = tt

-- what is between the blocks is in the range
pub within : (end : Bound ℕ) (start from to id : ℕ) → ((id : ℕ) → id < start → block_of id < from) → IsEndBefore to end → is_between id from to ≡ true
    → range_contains nat_cmp (Included start) end id ≡ true
within end start from to id earlier end_is between = rw (low (is_le (nat_cmp start id)) refl, high end end_is) refl
  where
    from_le : (a b c : ℕ) → (nat_le a b && nat_lt b c) ≡ true → a ≤ b
    from_le a b c e = grind (arith, nat_tests)

    lt_to : (a b c : ℕ) → (nat_le a b && nat_lt b c) ≡ true → b < c
    lt_to a b c e = grind (arith, nat_tests)

    below : (x y : ℕ) → is_le (nat_cmp x y) ≡ false → y < x
    below x y e = grind (arith, nat_tests)

    not_up_to : (x y : ℕ) → x < y → is_le (nat_cmp y x) ≡ false
    not_up_to x y lt = grind (arith, nat_tests)

    low : (b : Bool) → is_le (nat_cmp start id) ≡ b → is_le (nat_cmp start id) ≡ true
    low true is = is
    low false is =
        let before : block_of id < from = earlier id (below start id is) in
        let not_before : from ≤ block_of id = from_le from (block_of id) to between in
        absurd (omega arith)

    high : (end : Bound ℕ) → IsEndBefore to end → not (is_past_end nat_cmp end id) ≡ true
    high (Included b) end_is = absurd end_is
    high (Excluded b) end_is =
        let before : block_of id < to = lt_to from (block_of id) to between in
        let id_before : id < b = omega arith in
        rw (not_up_to id b id_before) refl
    high Unbounded end_is = refl

-- a range from an id to itself doesn't run backwards
pub backward : (start : ℕ) → is_gt (nat_cmp start start) ≡ false
backward start = grind (arith, nat_tests)

-- no id is between blocks, the wrong way round
pub never : (id from to : ℕ) → to ≤ from → is_between id from to ≡ true → ⊥
never id from to le between =
    let no : is_between id from to ≡ false = grind (arith, nat_tests) in
    let never : true ≡ false = sym between ∙ no in
    absurd cc
