-- The numbers of points.
use Rattle.lgm_store.proofs.Points.{same_point}
use Rattle.std.proofs.Common.{◌≡◌, ℕ, ◌+◌, suc, get_or, ◌<◌, ltb, Bool, true, false, List}
use Rattle.std.proofs.Common.{[], ◌∷◌, length, sym, subst, Some, None, arith, Result, Ok, Err, inl, inr}
use Rattle.std.specs.List.{AllByRecursion, find, position}
use Rattle.std.specs.Result.{OnOk, OnErr, MatchResult}
use Rattle.std.proofs.lemmas.Bool.{cases_Bool, ltb-true, lt-ltb}
use Rattle.std.proofs.lemmas.Option.{none-some, same_Some}
use Rattle.lgm_wire.specs.declared.point.Point.{Point}
use Rattle.lgm_check.specs.declared.row.ChannelRow.{ChannelRow}
use Rattle.lgm_store.specs.Rows.{channel_of, is_point}
use Rattle.lgm_graph.specs.Graph.{number_of, IsNumbered}
use Rattle.lgm_graph.specs.Edges.{end_of}

pub number_some : (points : List Point) (p : Point) (n : ℕ) → position (is_point p) points ≡ Some n → (number_of points p ≡ n) × (n < length points)
number_some points p n is = elim (cases_Bool (ltb (number_of points p) (length points))) [
  | inl e ↦
      let same : number_of points p ≡ n = same_Some _ n (rw e at is) in
      (same, rw (← same) (ltb-true _ _ e))
  | inr e ↦ absurd (none-some n (rw e at is))
]

pub number_none : (points : List Point) (p : Point) → IsNumbered points p → position (is_point p) points ≡ None → ⊥
number_none points p there is = none-some (number_of points p) (sym (rw (lt-ltb _ _ there) at is))

-- a fact about each row holds for the row that is found
pub found_holds : {R : Type 0} (P : R → Type 0) (p : R → Bool) (rows : List R) (row : R) → AllByRecursion P rows → find p rows ≡ Some row → P row
found_holds P p [] row all found = absurd cc
found_holds P p (first ∷ rows) row all found = elim (cases_Bool (p first)) [
  | inl is ↦ subst P (same_Some first row (rw is at found)) all.0
  | inr is ↦ found_holds P p rows row all.1 (rw is at found)
]

-- the nodes of a channel in the map are numbered
pub ends_numbered : (points : List Point) (channels : List ChannelRow) (id : ℕ) (channel : ChannelRow) (second : Bool)
    → AllByRecursion (λ channel. IsNumbered points channel.message.node_id_1 × IsNumbered points channel.message.node_id_2) channels
    → channel_of channels id ≡ Some channel → IsNumbered points (end_of channel second)
ends_numbered points channels id channel second ends stored = by second (found_holds _ _ channels channel ends stored)
  where
    by : (b : Bool) → IsNumbered points channel.message.node_id_1 × IsNumbered points channel.message.node_id_2 → IsNumbered points (end_of channel b)
    by true both = both.1
    by false both = both.0

-- what follows from the clauses for success and for failure
pub in_both : {T E A B P Q : Type 0} (r : Result T E) → OnOk r A → OnErr r B → (A → P) → (B → Q)
    → MatchResult r (λ _. P) (λ _. Q)
in_both (Ok x) ok err f g = f ok
in_both (Err e) ok err f g = g err

-- a numbered point is at its index
pub get_number : (points : List Point) (p d : Point) → IsNumbered points p → get_or points (number_of points p) d ≡ p
get_number [] p d there = absurd (omega (arith, there))
get_number (q ∷ qs) p d there = elim (cases_Bool (is_point p q)) [
  | inl e ↦ rw e (sym (same_point p q e))
  | inr e ↦
      let next : 1 + number_of qs p ≡ suc (number_of qs p) = omega arith in
      let fits : suc (number_of qs p) < suc (length qs) = rw (e, next) at there in
      rw (e, next) (get_number qs p d (omega (arith, fits)))
]
