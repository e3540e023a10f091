use Rattle.std.proofs.Common.{arith}
use Rattle.lgm_c.proofs.Filling.{hops_length}
use Rattle.lgm_c.proofs.next_part.write_sending.Goals as goal

pub fill_hops-requires : goal.fill_hops-requires
fill_hops-requires c =
    omega (arith, hops_length c.as_slice-route.result.now c.as_slice-built.result.now, c.as_slice-route.ensures.few, c.requires.hops)
