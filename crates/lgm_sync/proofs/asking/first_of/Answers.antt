use Rattle.std.proofs.Common.{sym, arith, ◌≤◌, length}
use Rattle.std.proofs.lemmas.List.{take_all}
use Rattle.lgm_sync.proofs.asking.first_of.Goals as goal

pub returns-then-lacking-le-MAX_IDS : goal.returns-then-lacking-le-MAX_IDS
returns-then-lacking-le-MAX_IDS c =
    let few : length c.args.lacking.now ≤ 7000 = omega (arith, c.if-lacking-le-MAX_IDS.true) in
    sym (take_all 7000 c.args.lacking.now few)
