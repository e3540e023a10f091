use Rattle.std.proofs.Common.{rules, ◌≡◌, ◌++◌}
use Rattle.std.specs.Prelude.{nat_eq}
use Rattle.std.specs.Cmp.Lexicographic.{pointwise}
use Rattle.lgm_save.specs.Numbers.{in_eight}
use Rattle.lgm_save.proofs.NumberLaws.{behind_is}
use Rattle.lgm_save.proofs.checksum.Sums.are_in.Goals as goal

pub returns : goal.returns
returns c =
    let first = in_eight c.args.self.now.first in
    let second = in_eight c.args.self.now.second in
    let parts : c.args.bytes.now ≡ first ++ c.in-Some.rest.now = search rules in
    let tested : c.eq.result ≡ pointwise nat_eq c.in-Some.rest.now second = search rules in
    behind_is c.args.bytes.now first second c.in-Some.rest.now c.eq.result parts tested
