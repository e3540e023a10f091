-- Walks over edges that carry less.
use Rattle.std.proofs.Common.{◌≡◌, ◌+◌, ◌≤◌, List, [], ◌∷◌, length, suc, refl, sym, ap, subst, ◌∙◌, arith}
use Rattle.lgm_wire.specs.declared.point.Point.{Point}
use Rattle.lgm_graph.specs.Fee.{fee_of}
use Rattle.lgm_graph.specs.Edges.{PointEdge}
use Rattle.lgm_graph.specs.Overlay.{AreNarrowed}
use Rattle.lgm_route.specs.declared.request.Request.{Request}
use Rattle.lgm_route.specs.Routes.{owed, sent, ids, walk_key, IsRest, IsUsable, IsLeast, NarrowingNeverHelps}
use Rattle.lgm_route.proofs.Orders.{NotAfter-heads}
use Rattle.lgm_route.proofs.Visits.{not_after}

module _ (edges others : List PointEdge) (request : Request) (narrowed : AreNarrowed edges others) where
  -- a walk over the others that carries the same
  record IsWidened (node : Point) (walk wide : List PointEdge) : Type 0 where
    joins : IsRest others request node wide
    long : length wide ≡ length walk
    owes : owed request.amount wide ≡ owed request.amount walk
    sends : sent request.amount wide ≡ sent request.amount walk

  widened : (node : Point) (walk : List PointEdge) → IsRest edges request node walk → (wide : List PointEdge) × IsWidened node walk wide
  widened node [] joins = ([], record { joins = joins; long = refl; owes = refl; sends = refl })
  widened node (edge ∷ rest) joins =
      let wide = narrowed edge joins.0.there in
      let other = wide.0 in
      let same = wide.2.same in
      let more = widened edge.to rest joins.1 in
      let after = subst (λ n. IsRest others request n more.0) (ap (λ (e : PointEdge). e.to) same) more.1.joins in (
        other ∷ more.0,
        record {
          joins = (
            record {
              there = wide.1;
              leaves = ap (λ (e : PointEdge). e.from) (sym same) ∙ joins.0.leaves;
              above_min = subst (λ n. n ≤ request.amount) (ap (λ (e : PointEdge). e.min) same) joins.0.above_min;
              below_max = omega (arith, joins.0.below_max, more.1.owes, wide.2.less);
            },
            after,
          );
          long = ap suc more.1.long;
          owes = ap (λ n. n + fee_of n other.base other.millionths) more.1.owes
              ∙ ap (λ (e : PointEdge). owed request.amount rest + fee_of (owed request.amount rest) e.base e.millionths) (sym same);
          sends = more.1.owes;
        },
      )

  usable_wide : (walk : List PointEdge) → IsUsable edges request walk
      → (other : List PointEdge) × IsUsable others request other × (sent request.amount other ≡ sent request.amount walk)
  usable_wide walk usable =
      let wide = widened request.payer walk usable.joins in (
        wide.0,
        record {
          some = omega (arith, usable.some, wide.1.long);
          few = omega (arith, usable.few, wide.1.long);
          joins = wide.1.joins;
        },
        wide.1.sends,
      )

  sent_less : (walk best : List PointEdge) → IsUsable edges request walk → IsLeast others request best
      → sent request.amount best ≤ sent request.amount walk
  sent_less walk best usable least =
      let wide = usable_wide walk usable in
      let heads = NotAfter-heads (sent request.amount best) (sent request.amount wide.0) (length best ∷ ids best) (length wide.0 ∷ ids wide.0)
      (not_after (walk_key request best) (walk_key request wide.0) (least.first wide.0 wide.1)) in
      omega (arith, heads, wide.2)

pub narrowing_never_helps : NarrowingNeverHelps
narrowing_never_helps = record {
  usable = λ edges others request walk narrowed usable. let wide = usable_wide edges others request narrowed walk usable in (wide.0, wide.1);
  sent = λ edges others request walk best narrowed usable least. sent_less edges others request narrowed walk best usable least;
}
