use Rattle.std.proofs.Common.{◌∙◌, arith}
use Rattle.std.specs.Cmp.{nat_cmp_is}
use Rattle.std.specs.declared.cmp.Ordering.TheVariants.{Less, Greater}
use Rattle.lgm_wire.proofs.PointLaws.{front_decides}
use Rattle.lgm_wire.proofs.point.order.Goals as goal

pub returns-then-x-y : goal.returns-then-x-y
returns-then-x-y c =
    nat_cmp_is c.front-x.result c.front-y.result Less c.if-x-y.true
    ∙ front_decides c.args.first.now c.args.second.now c.front-x.result c.front-y.result (omega arith) (omega arith)
    (λ i. omega (arith, c.fits-first i)) (λ i. omega (arith, c.fits-second i)) c.front-x.ensures c.front-y.ensures
    (λ e. omega (arith, e, c.if-x-y.true))

pub returns-then-y-x : goal.returns-then-y-x
returns-then-y-x c =
    nat_cmp_is c.front-x.result c.front-y.result Greater c.if-y-x.true
    ∙ front_decides c.args.first.now c.args.second.now c.front-x.result c.front-y.result (omega arith) (omega arith)
    (λ i. omega (arith, c.fits-first i)) (λ i. omega (arith, c.fits-second i)) c.front-x.ensures c.front-y.ensures
    (λ e. omega (arith, e, c.if-y-x.true))
