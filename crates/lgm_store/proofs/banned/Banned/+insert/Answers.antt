use Rattle.std.proofs.Common.{◌≡◌, ◌∙◌, ◌≤◌, ◌-◌, ◌∷◌, [], List, Bool, true, false, not, sym, ap, take, drop, get_or, length, arith}
use Rattle.std.proofs.lemmas.List.{take_all}
use Rattle.std.proofs.lemmas.Result.{on_ok_weaker, on_err_weaker}
use Rattle.std.specs.Set.{remove_key}
use Rattle.std.specs.BTreeMap.{is_at}
use Rattle.lgm_wire.specs.declared.point.Point.{Point}
use Rattle.lgm_store.specs.Rows.{put, by_point}
use Rattle.lgm_store.specs.History.{with_points}
use Rattle.lgm_store.proofs.Points.{is_at-point, is_point-self}
use Rattle.lgm_store.proofs.NodeIdListLaws.{remove_key-insert}
use Rattle.lgm_store.proofs.BannedPoints.{keys-insert}
use Rattle.lgm_store.proofs.banned.Banned.+insert.Goals as goal

not_true : (b : Bool) → true ≡ not b → b ≡ false
not_true true e = absurd cc
not_true false e = cc

-- the first of the points, and the others
with_points-first : (points ps : List Point) (p : Point) → 1 ≤ length ps → with_points
    (put by_point points (get_or ps 0 p)) (take (length ps - 1) (drop 1 ps)) ≡ with_points points ps
with_points-first points [] p long = absurd (omega (arith, long))
with_points-first points (x ∷ xs) p long = ap (with_points (put by_point points x)) (take_all (length (x ∷ xs) - 1) xs (omega arith))

pub returns-then-added-clause-err : goal.returns-then-added-clause-err
returns-then-added-clause-err t c =
    let p : Point = get_or c.args.points.now 0 (record { 0 = [] }) in
    let lacks = not_true _ (sym c.if-added.true ∙ c.in_ok-added.ensures.added) in
    on_err_weaker c.insert-inserted.result
    (λ same. c.remove.ensures.keys ∙ ap (λ ps. remove_key (is_at (by_point p)) ps) (c.self-2.view_is ∙ same ∙ c.in_ok-added.ensures.keys)
    ∙ remove_key-insert by_point p (is_at-point p p ∙ is_point-self p) c.self.inside.points.keys lacks ∙ c.self.view_is)
    c.insert-inserted.ensures.err

pub returns-else-is_err-clause-ok : goal.returns-else-is_err-clause-ok
returns-else-is_err-clause-ok t c =
    let p : Point = get_or c.args.points.now 0 (record { 0 = [] }) in
    on_ok_weaker c.insert-inserted.result
    (λ is. is ∙ ap (λ ps. with_points ps (take (length c.args.points.now - 1) (drop 1 c.args.points.now)))
    (c.in_ok-added.ensures.keys ∙ keys-insert c.self.inside.points.keys p c.self.invariant ∙ ap (λ ps. put by_point ps p) c.self.view_is)
    ∙ with_points-first c.args.self.now c.args.points.now (record { 0 = [] }) c.in-len1-up.len_at_least)
    c.insert-inserted.ensures.ok
