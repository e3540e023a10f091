use Rattle.std.proofs.Common.{length, ap, arith}
use Rattle.lgm_store.specs.Rows.{empty}
use Rattle.lgm_store.proofs.ChannelCountLaws.{fold_few}
use Rattle.lgm_world.proofs.world.find_route.Goals as goal

pub of-requires : goal.of-requires
of-requires c =
    let few = fold_few empty c.args.history.now in
    omega (arith, few, ap (λ rows. length rows.channels) c.in_ok-map.ensures, c.requires)
