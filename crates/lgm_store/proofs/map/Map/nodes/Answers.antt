use Rattle.std.proofs.Common.{◌∙◌, ap}
use Rattle.std.specs.Map.{values_of}
use Rattle.lgm_store.proofs.map.Opened.{opened}
use Rattle.lgm_store.proofs.map.Map.nodes.Goals as goal
use Rattle.lgm_store.proofs.ListLaws.{filter-true}

pub returns : goal.returns
returns c =
    let parts = opened c.deref.ensures c.self.invariant c.self.view_is in
    c.range.ensures ∙ ap values_of (filter-true c.deref.result.now.nodes) ∙ ap (λ rows. rows.nodes) parts.seen
