use Rattle.std.proofs.Common.{refl}
use Rattle.lgm_payer_state.proofs.states.write.Goals as goal

pub returns : goal.returns
returns c = record {
  written = rw (c.from_vec.ensures, c.in_ok-seal.ensures, c.in_ok-write_payer.ensures.written, c.in_ok-extend_from_slice.ensures.items, c.new-out.ensures.items, c.opening.ensures) refl;
  kept = record { back = c.in_ok-write_payer.ensures.back };
}
