use Rattle.std.proofs.Common.{rules, ◌∙◌}
use Rattle.std.proofs.lemmas.Fn.{filter_same}
use Rattle.lgm_graph.specs.inner.Sound.{is_not_of}
use Rattle.lgm_graph.proofs.node.drop_channel.Goals as goal

pub returns : goal.returns
returns c = c.shrink.ensures ∙
    filter_same _ (is_not_of c.args.scid) _ (λ x b f' k. search rules) c.args.edges.now.items
    c.retain.new.self.items c.retain.ensures.filtered
