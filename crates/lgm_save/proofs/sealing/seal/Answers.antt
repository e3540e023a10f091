use Rattle.std.proofs.Common.{append_assoc}
use Rattle.lgm_save.proofs.sealing.seal.Goals as goal

pub returns : goal.returns
returns c =
    rw (
      c.in_ok-extend_from_slice-2.ensures.items,
      c.in_ok-extend_from_slice.ensures.items,
      c.in_eight.ensures,
      c.in_eight-2.ensures,
      c.of-sums.ensures,
      c.as_slice.ensures.value,
    ) (simp append_assoc)
