use Rattle.std.proofs.Common.{◌∙◌, ap}
use Rattle.std.specs.BTreeMap.{is_at}
use Rattle.lgm_store.specs.Rows.{is_point, is_banned}
use Rattle.lgm_store.specs.Keys.{point_cmp}
use Rattle.lgm_store.proofs.Points.{is_at-point}
use Rattle.lgm_store.proofs.BannedPoints.{any-same}
use Rattle.lgm_store.proofs.banned.Banned.contains.Goals as goal

pub returns : goal.returns
returns c =
    c.contains.ensures ∙ any-same (is_at (point_cmp c.args.point.now)) (is_point c.args.point.now) (λ q.
    is_at-point c.args.point.now q) c.self.inside.points.keys
    ∙ ap (λ ps. is_banned ps c.args.point.now) c.self.view_is
