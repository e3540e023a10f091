use Rattle.std.proofs.Common.{refl, arith}
use Rattle.lgm_gossip.proofs.QueryFlagsLaws.{flag_found, flag_not_found}
use Rattle.lgm_gossip.proofs.query_flags.flag.Goals as goal

pub split_at-requires : goal.split_at-requires
split_at-requires c = ((c.in-Ok.ensures.value c.in-Ok.flag c.in-Ok.len).0 refl).0

pub returns-in-Ok : goal.returns-in-Ok
returns-in-Ok c = rw c.split_at.ensures.back (flag_found c.args.bytes.now c.in-Ok.flag c.in-Ok.len c.in-Ok.ensures.value)

pub returns-in-Err : goal.returns-in-Err
returns-in-Err c =
    flag_not_found c.args.bytes.now c.read_bigsize.result c.in-Err.field-0
    (λ i. omega (arith, c.type_inv.bytes i)) c.in-Err.is c.read_bigsize.ensures.value
