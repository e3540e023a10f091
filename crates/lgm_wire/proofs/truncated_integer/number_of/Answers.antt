use Rattle.std.proofs.Common.{arith}
use Rattle.std.proofs.lemmas.List.{take_more}
use Rattle.lgm_wire.proofs.TruncatedIntegerLaws.{room, more, number_of-push}
use Rattle.lgm_wire.proofs.truncated_integer.number_of.Goals as goal

pub overflow_mul-number : goal.overflow_mul-number
overflow_mul-number c = omega (arith, room c.loop-byte.number c.loop-byte.byte-index c.loop-byte.invariant.small (omega arith))

pub overflow_add-number : goal.overflow_add-number
overflow_add-number c =
    omega (
      arith,
      room c.loop-byte.number c.loop-byte.byte-index c.loop-byte.invariant.small (omega arith),
      c.type_inv.bytes c.loop-byte.byte-index,
    )

pub loop-byte-preserved : goal.loop-byte-preserved
loop-byte-preserved c =
    let i = c.loop-byte.byte-index in
    let taken = take_more c.args.bytes.now i 0 c.loop-byte-test.true in
    record {
      so_far = rw (taken, number_of-push, ← c.loop-byte.invariant.so_far) (omega (arith, c.from.ensures));
      small = more c.loop-byte.number i c.from.result c.loop-byte.invariant.small (omega (arith, c.from.ensures, c.type_inv.bytes i));
    }
