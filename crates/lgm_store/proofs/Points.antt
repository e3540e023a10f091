-- Points that are the same.
use Rattle.std.proofs.Common.{◌≡◌, ℕ, true, List, sym, ap}
use Rattle.std.specs.Cmp.Lexicographic.{texts_ties, bytes_decides}
use Rattle.std.specs.BTreeMap.{is_at}
use Rattle.std.proofs.lemmas.Cmp.{nat_list_eq_equiv}
use Rattle.lgm_wire.specs.declared.point.Point.{Point}
use Rattle.lgm_store.specs.Rows.{is_point}
use Rattle.lgm_store.specs.Keys.{point_cmp}

-- the order finds the points that are the same
pub is_at-point : (p q : Point) → is_at (point_cmp p) q ≡ is_point p q
is_at-point p q = sym (texts_ties p.0 q.0)

-- points with the same bytes are one
pub same_point : (p q : Point) → is_point p q ≡ true → p ≡ q
same_point p q same =
    let bytes : p.0 ≡ q.0 = (bytes_decides p.0 q.0).0 same in
    ap (λ (b : List ℕ). let point : Point = record { 0 = b } in point) bytes

pub is_point-self : (p : Point) → is_point p p ≡ true
is_point-self p = nat_list_eq_equiv.refl p.0
