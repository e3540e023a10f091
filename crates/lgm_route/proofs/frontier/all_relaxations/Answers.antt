use Rattle.std.proofs.Common.{rules}
use Rattle.lgm_par.proofs.PlacewiseLaws.{zip_weaker_ok}
use Rattle.lgm_route.proofs.frontier.all_relaxations.Goals as goal

pub returns : goal.returns
returns g c = zip_weaker_ok _ _ (λ x y h. search rules) c.args.frontier.now c.map.result c.map.ensures
