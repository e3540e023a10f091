use Rattle.std.proofs.Common.{rules, ◌≡◌, ap}
use Rattle.lgm_c.specs.contracts.chain_map.ChainMap.{the_view}
use Rattle.lgm_c.specs.declared.chain_map.MapKind.TheVariants as kinds
use Rattle.lgm_c.specs.Pruning.{entries}
use Rattle.lgm_c.specs.Status.{status_of}
use Rattle.lgm_c.specs.inner.Kinds.{state_in}
use Rattle.lgm_c.proofs.Pruned.{prunes_as}
use Rattle.lgm_c.proofs.chain_map.ChainMap.prune.Goals.{in-Changing, in-Published}
use Rattle.lgm_c.proofs.chain_map.ChainMap.prune.Goals as goal

pub returns : goal.returns
returns c =
    elim c.match-self.branch [
      | in-Changing w ↦
          let chain = c.self.inside.chain in
          let old = w.in-Changing.timeline in
          let new = w.close_stale.new.timeline in
          let told = entries c.args.room.now c.args.needed.now in
          let first : c.args.self.now ≡ state_in chain (kinds.Changing old) = search rules in
          let last : the_view c.match-self.self-inside ≡ state_in chain (kinds.Changing new) = ap the_view w.self-inside-is in
          let number : status_of c.match-self.result ≡ status_of w.close_stale.result = search rules in
          let left : entries c.match-self.room c.match-self.needed ≡ entries w.close_stale.new.room w.close_stale.new.needed = search rules in
          prunes_as chain old new c.args.before c.args.block (status_of w.close_stale.result) told
          (entries w.close_stale.new.room w.close_stale.new.needed) w.close_stale.ensures.closes w.close_stale.ensures.marked
          c.args.self.now (the_view c.match-self.self-inside) (status_of c.match-self.result)
          (entries c.match-self.room c.match-self.needed) first last number left
      | in-Published w ↦ search rules
    ]
