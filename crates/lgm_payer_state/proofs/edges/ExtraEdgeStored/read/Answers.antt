use Rattle.std.proofs.Common.{append_assoc}
use Rattle.lgm_payer_state.specs.Edges.{extra_edge_bytes}
use Rattle.lgm_payer_state.proofs.edges.ExtraEdgeStored.read.Goals as goal

pub returns-clause-exact : goal.returns-clause-exact
unfolding extra_edge_bytes
returns-clause-exact c =
    rw (
      c.from_u64.ensures,
      c.in_ok-scid.ensures.exact,
      c.in_ok-from.ensures.exact,
      c.in_ok-to.ensures.exact,
      c.in_ok-base.ensures.exact,
      c.in_ok-millionths.ensures.exact,
      c.in_ok-delta.ensures.exact,
      c.in_ok-min.ensures.exact,
      c.in_ok-max.ensures.exact,
    )
    (simp append_assoc)
