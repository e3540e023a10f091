use Rattle.std.proofs.Common.{rules, arith, refl}
use Rattle.lgm_save.proofs.RecordLaws.{no_length, too_short}
use Rattle.lgm_save.proofs.strip.unframed.Goals as goal

pub returns-in_err-length-clause-none : goal.returns-in_err-length-clause-none
returns-in_err-length-clause-none c none message rest short e = no_length c.args.bytes.now message rest (c.in_err-length.ensures.none refl) e

pub returns-clause-none : goal.returns-clause-none
returns-clause-none c none message rest short e =
    too_short c.args.bytes.now c.in_ok-length.rest.now message rest c.in_ok-length.length (search rules) short c.in_ok-length.ensures.some
    (omega (arith, c.cut.ensures.none none, c.from.ensures)) e
