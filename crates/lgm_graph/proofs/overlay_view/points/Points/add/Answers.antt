use Rattle.std.proofs.Common.{◌≡◌, ◌∙◌, length, ◌++◌, ◌∷◌, [], List, None, arith, sym, ap, subst, append_assoc}
use Rattle.std.specs.List.{IsDistinct, position}
use Rattle.lgm_wire.specs.declared.point.Point.{Point}
use Rattle.lgm_store.specs.Rows.{is_point}
use Rattle.lgm_graph.specs.inner.Walk.{KeepsNumbers}
use Rattle.lgm_graph.proofs.Further.{pushed, pushed_kept, pushed_numbered, pushed_distinct, pushed_long}
use Rattle.lgm_graph.proofs.overlay_view.points.Points.add.Goals as goal

-- the points as they were
seen : (c : goal.In_ok-insert) → c.self.inside.view.now.points ++ c.deref_mut.result.now.keys ≡ c.args.self.now
seen c = ap (λ set. c.self.inside.view.now.points ++ set.keys) c.deref_mut.ensures.value ∙ c.self.view_is

-- the point has no number
none : (c : goal.In_ok-insert) → position (is_point c.args.point) (c.self.inside.view.now.points ++ c.deref_mut.result.now.keys) ≡ None
none c = ap (position (is_point c.args.point)) (seen c) ∙ sym c.number.ensures ∙ c.in_default.is

pub invariant_of-self : goal.invariant_of-self
invariant_of-self c = rw (c.in_err-insert.ensures.err, c.deref_mut.ensures.value) c.self.invariant

pub invariant_of-self-2 : goal.invariant_of-self-2
invariant_of-self-2 c =
    let points = c.self.inside.view.now.points in
    let added = c.deref_mut.result.now.keys in
    let long = pushed_long points added c.insert.new.self.keys c.args.point (none c) c.in_ok-insert.ensures.keys in
    let was = ap length (seen c) in (
      omega (arith, c.requires, long, was),
      pushed_distinct points added c.insert.new.self.keys c.args.point (none c) c.in_ok-insert.ensures.keys
          (subst (λ (set : List Point). IsDistinct is_point (points ++ set)) (ap (λ set. set.keys) (sym c.deref_mut.ensures.value)) c.self.invariant.1),
    )

pub returns-clause-few : goal.returns-clause-few
returns-clause-few c =
    let long = pushed_long c.self.inside.view.now.points c.deref_mut.result.now.keys c.insert.new.self.keys c.args.point (none c) c.in_ok-insert.ensures.keys in
    omega (arith, long, ap length (seen c))

pub returns-clause-numbered : goal.returns-clause-numbered
returns-clause-numbered c =
    pushed_numbered c.self.inside.view.now.points c.deref_mut.result.now.keys c.insert.new.self.keys c.args.point (none c) c.in_ok-insert.ensures.keys

pub returns-clause-kept : goal.returns-clause-kept
returns-clause-kept c =
    let points = c.self.inside.view.now.points in
    subst (λ (old : List Point). KeepsNumbers old (points ++ c.insert.new.self.keys)) (seen c)
    (pushed_kept points c.deref_mut.result.now.keys c.insert.new.self.keys c.args.point (none c) c.in_ok-insert.ensures.keys)

pub returns-clause-further : goal.returns-clause-further
returns-clause-further c = λ before was. (
  was.0 ++ c.args.point ∷ [],
  pushed c.self.inside.view.now.points c.deref_mut.result.now.keys c.insert.new.self.keys c.args.point (none c) c.in_ok-insert.ensures.keys
      ∙ ap (λ (l : List Point). l ++ c.args.point ∷ []) (seen c ∙ was.1) ∙ append_assoc before was.0 (c.args.point ∷ []),
)
