use Rattle.std.proofs.Common.{Bool, true, false, not, ◌≡◌}
use Rattle.lgm_store.specs.inner.ChannelsByNode.{without_id}
use Rattle.lgm_store.proofs.NodeIdListLaws.{Lists-change_same, Lists-change}
use Rattle.lgm_store.proofs.channels_by_node.ChannelsByNode.remove.Goals as goal

not_true : (b : Bool) → true ≡ not b → b ≡ false
not_true true e = absurd cc
not_true false e = cc

not_false : (b : Bool) → false ≡ not b → b ≡ true
not_false true e = cc
not_false false e = absurd cc

pub returns-then-ne : goal.returns-then-ne
returns-then-ne c ids lists =
    Lists-change (λ list. without_id list c.args.scid) c.args.self.now c.remove_one.new.self
    c.remove_one-then-ne.new.self c.args.first.now c.args.second.now ids
    (not_true _ c.if-ne.ensures) c.remove_one.ensures.sets c.remove_one-then-ne.ensures.sets lists

pub returns-else-ne : goal.returns-else-ne
returns-else-ne c ids lists =
    Lists-change_same (λ list. without_id list c.args.scid) c.args.self.now c.remove_one.new.self
    c.args.first.now c.args.second.now ids (not_false _ c.if-ne.ensures) c.remove_one.ensures.sets lists
