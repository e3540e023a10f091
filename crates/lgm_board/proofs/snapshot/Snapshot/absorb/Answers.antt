use Rattle.std.proofs.Common.{◌≡◌, ◌≤◌, true, false, Option, Some, None, length, refl, ap, subst, arith}
use Rattle.std.specs.Prelude.{IfSome, IsSome}
use Rattle.lgm_store.specs.Rows.{Rows}
use Rattle.lgm_store.proofs.ChannelCountLaws.{absorbed_few}
use Rattle.lgm_graph.specs.Graph.{Graph}
use Rattle.lgm_graph.specs.Network.{GoesOn, most_points}
use Rattle.lgm_board.proofs.snapshot.Snapshot.absorb.Goals as goal

-- a view that numbers few enough points isn't dropped
still_viewed : (rows : Rows) (old new : Option Graph) → IsSome old → IfSome old (λ graph. length graph.points ≤ most_points rows)
    → GoesOn rows old new → IsSome new
still_viewed rows None new some fits goes = let never : false ≡ true = some in absurd cc
still_viewed rows (Some old) None some fits goes = absurd (omega (arith, fits, goes))
still_viewed rows (Some old) (Some new) some fits goes = refl

pub invariant_of-self-2 : goal.invariant_of-self-2
invariant_of-self-2 c =
    let rows = c.self.inside.network.rows in
    let goes = subst (λ (own : Rows). GoesOn own c.make_view.new.self.graph c.absorb.new.self.graph) c.make_view.ensures.rows
    c.in_ok-absorb.ensures.view in
    record {
      viewed = still_viewed rows c.make_view.new.self.graph c.absorb.new.self.graph c.in_ok-make_view.ensures.made
          c.in_ok-make_view.ensures.fits goes;
      few =
          omega (
            arith,
            ap (λ (own : Rows). length own.channels) c.in_ok-absorb.ensures.rows,
            ap (λ (own : Rows). length own.channels) c.make_view.ensures.rows,
            absorbed_few c.make_view.new.self.rows c.args.op.now,
            c.self.invariant.few,
          );
      limited = omega (arith, c.self.invariant.limited);
    }
