use Rattle.std.proofs.Common.{◌≡◌, ◌∙◌, ◌<◌, List, arith, length, ap, map, sym}
use Rattle.std.proofs.lemmas.List.{length-map}
use Rattle.lgm_graph.specs.declared.node.Node.{Node}
use Rattle.lgm_graph.specs.inner.Sound.{node_in}
use Rattle.lgm_graph.proofs.Places.{node_alike}
use Rattle.lgm_graph.proofs.nodes.reserve_all.Goals as goal
use Rattle.lgm_graph.proofs.nodes.reserve_all.Goals.{in-Some+in_ok-reserve_exact, in_default}

long : (old new : List Node) → map node_in new ≡ map node_in old → length new ≡ length old
long old new same = sym (length-map new node_in) ∙ ap length same ∙ length-map old node_in

pub returns-in_err-reserve_exact : goal.returns-in_err-reserve_exact
returns-in_err-reserve_exact c =
    let within : c.loop-number.number < length c.loop-number.nodes.items =
    omega (arith, c.args.nodes.now.ok, c.loop-number-test.true, long c.args.nodes.now.items c.loop-number.nodes.items c.loop-number.invariant) in
    node_alike c.loop-number.nodes.items c.loop-number.number c.index_mut.result.now c.reserve_exact.new.self within
    c.index_mut.ensures.value c.reserve_exact.ensures ∙ c.loop-number.invariant

pub loop-number-preserved : goal.loop-number-preserved
loop-number-preserved c =
    let within : c.loop-number.number < length c.loop-number.nodes.items =
    omega (arith, c.args.nodes.now.ok, c.loop-number-test.true, long c.args.nodes.now.items c.loop-number.nodes.items c.loop-number.invariant) in
    elim c.match-get.branch [
      | in-Some+in_ok-reserve_exact w ↦
          rw w.nodes-is
          (node_alike c.loop-number.nodes.items c.loop-number.number w.index_mut.result.now w.reserve_exact.new.self
          within w.index_mut.ensures.value w.reserve_exact.ensures ∙ c.loop-number.invariant)
      | in_default w ↦ rw w.nodes-is c.loop-number.invariant
    ]
