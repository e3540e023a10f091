use Rattle.std.proofs.Common.{refl, ap, sym, ◌∙◌}
use Rattle.std.specs.Prelude.{◌==◌}
use Rattle.lgm_store.specs.Rows.{is_point}
use Rattle.lgm_query.proofs.TouchedKeyLaws.{touched_channel, touched_node}
use Rattle.lgm_query.proofs.touched_keys.TouchedKeys.touch.Goals as goal

pub returns-in_ok-insert-in-Channel-clause-ok : goal.returns-in_ok-insert-in-Channel-clause-ok
returns-in_ok-insert-in-Channel-clause-ok c = λ history has.
    rw c.in-Channel.is (touched_channel history _ _ _ c.scid.result (λ q. ap (λ id. id == q)
    (sym (c.scid.ensures ∙ ap (λ row. row.message.short_channel_id) c.get.ensures))) (λ q. refl)
    c.in_ok-insert-in-Channel.ensures.updates.0 c.insert.ensures.ordered refl (rw (← c.self.view_is) at has))

pub returns-in_ok-insert-in-Update-clause-ok : goal.returns-in_ok-insert-in-Update-clause-ok
returns-in_ok-insert-in-Update-clause-ok c = λ history has.
    rw c.in-Update.is (touched_channel history _ _ _ c.scid-in-Update.result (λ q. ap (λ id. id == q)
    (sym (c.scid-in-Update.ensures ∙ ap (λ row. row.message.short_channel_id) c.get-in-Update.ensures)))
    (λ q. refl)
    c.in_ok-insert-in-Update.ensures.updates.0 c.insert-in-Update.ensures.ordered refl (rw (← c.self.view_is) at has))

pub returns-in_ok-insert-in-Node-clause-ok : goal.returns-in_ok-insert-in-Node-clause-ok
returns-in_ok-insert-in-Node-clause-ok c = λ history has.
    rw c.in-Node.is (touched_node history _ _ _ c.node.result (λ q. ap (λ node. is_point node q)
    (sym (c.node.ensures ∙ ap (λ row. row.message.node_id) c.get-in-Node.ensures))) (λ q. refl)
    c.in_ok-insert-in-Node.ensures.updates.0 c.insert-in-Node.ensures.ordered refl (rw (← c.self.view_is) at has))
