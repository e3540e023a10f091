-- The index from nodes to the ids of their channels.
use Rattle.std.specs.Prelude.{◌≡◌, ℕ, Bool, false, not, ◌||◌, is_some, List, [], ◌∷◌}
use Rattle.std.specs.Prelude.{◌⊎◌, Option, Some, None, unwrap_or, cond, if◌then◌else◌, slice_get, swap_remove}
use Rattle.std.specs.List.{list_any}
use Rattle.std.specs.Ordering.{nat_cmp}
use Rattle.std.specs.Map.{lookup, keys_of}
use Rattle.std.specs.Set.{remove_key}
use Rattle.std.specs.BTreeMap.{is_at}
use Rattle.std.specs.BTreeSet.{insert_key}
use Rattle.lgm_wire.specs.declared.point.Point.{Point}
use Rattle.lgm_check.specs.declared.row.NodeRow.{NodeRow}
use Rattle.lgm_store.specs.Rows.{is_point}

-- a list with one more id, in its place
abbrev pub with_id : List ℕ → ℕ → List ℕ
with_id ids id = insert_key nat_cmp ids id

-- a list without an id
abbrev pub without_id : List ℕ → ℕ → List ℕ
without_id ids id = remove_key (is_at (nat_cmp id)) ids

-- the entry of a list: none for the empty one
abbrev pub kept : List ℕ → Option (List ℕ)
kept [] = None
kept (id ∷ ids) = Some (id ∷ ids)

-- the entry of a point
abbrev pub entry_of : List (Point × List ℕ) → Point → Option (List ℕ)
entry_of entries point = lookup (is_point point) entries

-- the list of a point, which is empty if there is no entry
abbrev pub list_at : List (Point × List ℕ) → Point → List ℕ
list_at entries point = unwrap_or (entry_of entries point) []

-- the entry of a point stands at this place
abbrev pub IsPlaceOf : List (Point × List ℕ) → Point → ℕ → Type 0
IsPlaceOf entries point place =
    (list : List ℕ) × (slice_get entries place ≡ Some (point, list)) × (entry_of entries point ≡ Some list)

-- the entries are the same
abbrev pub IsSame : List (Point × List ℕ) → List (Point × List ℕ) → Type 0
IsSame old new = (q : Point) → entry_of new q ≡ entry_of old q

-- the list of this point is replaced, and the others are the same
abbrev pub Sets : List (Point × List ℕ) → List (Point × List ℕ) → Point → List ℕ → Type 0
Sets old new point ids = (q : Point) → entry_of new q ≡ cond (is_point point q) (kept ids) (entry_of old q)

-- the points keep their places, but that the last one takes the place of one that is removed
abbrev pub MovesLastAlone : List (Point × List ℕ) → List (Point × List ℕ) → Type 0
MovesLastAlone old new =
    (keys_of new ≡ keys_of old) ⊎ ((place : ℕ) × (point : Point) × (keys_of new ≡ swap_remove (keys_of old) place point))

-- the index has exactly these lists
abbrev pub Lists : List (Point × List ℕ) → (Point → List ℕ) → Type 0
Lists entries ids = (point : Point) → entry_of entries point ≡ kept (ids point)

-- lists of which those of two points are changed, once if the points are the same
abbrev pub changed : (List ℕ → List ℕ) → (Point → List ℕ) → Point → Point → Point → List ℕ
changed change ids first second point =
    if is_point first point || is_point second point then change (ids point) else ids point

-- no list has the id
abbrev pub Lacks : (Point → List ℕ) → ℕ → Type 0
Lacks ids id = (point : Point) → list_any (is_at (nat_cmp id)) (ids point) ≡ false

-- whether a node announcement stays when those of this node are removed, unless the index has the node
abbrev pub stays_beside : List (Point × List ℕ) → Point → NodeRow → Bool
stays_beside entries node row = is_some (entry_of entries node) || not (is_point node row.message.node_id)
