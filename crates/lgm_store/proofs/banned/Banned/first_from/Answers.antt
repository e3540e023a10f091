use Rattle.std.proofs.Common.{◌≡◌, List, [], ◌∷◌, Bor, Option, Some, None, sym, ap, ◌∙◌}
use Rattle.std.specs.Prelude.{find}
use Rattle.std.specs.Option.{option_copied, MatchOption}
use Rattle.std.specs.BTreeMap.Range.{is_from_start}
use Rattle.lgm_wire.specs.declared.point.Point.{Point}
use Rattle.lgm_store.specs.Keys.{point_cmp}
use Rattle.lgm_store.proofs.BannedPoints.{first_point, first-from}
use Rattle.lgm_store.proofs.banned.Banned.first_from.Goals as goal

took : (points left : List Point) (taken : Option (Bor Point))
    → MatchOption taken ((points ≡ []) × (left ≡ [])) (λ x. points ≡ x.now ∷ left) → option_copied taken ≡ first_point points
took points left None none = sym (ap first_point none.0)
took points left (Some x) first = sym (ap first_point first)

pub returns : goal.returns
returns c =
    c.copied.ensures ∙ took c.range-points.result c.next.new.self c.next.result c.next.ensures.steps
    ∙ ap first_point (c.range-points.ensures.between tt) ∙ first-from c.args.start c.self.inside.points.keys
    ∙ ap (find (λ point. is_from_start point_cmp c.args.start point)) c.self.view_is
