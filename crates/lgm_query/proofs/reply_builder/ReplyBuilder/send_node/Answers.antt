use Rattle.std.proofs.Common.{◌≡◌, Bool, true, false, not, List, sym, ap, refl, ◌∙◌}
use Rattle.lgm_wire.specs.declared.point.Point.{Point}
use Rattle.lgm_query.specs.inner.Sent.{Sent}
use Rattle.lgm_query.proofs.Sendings.{OnOk-node, Sends-known_node}
use Rattle.lgm_query.proofs.reply_builder.ReplyBuilder.send_node.Goals as goal

-- what wasn't added was there
was_there : (there : Bool) → false ≡ not there → there ≡ true
was_there true is = refl
was_there false is = absurd cc

-- what was added wasn't
was_new : (there : Bool) → true ≡ not there → there ≡ false
was_new true is = absurd cc
was_new false is = refl

pub returns-then-not-branch : goal.returns-then-not-branch
returns-then-not-branch c =
    let unchanged : c.insert.new.self.keys ≡ c.self.inside.nodes.keys = rw c.if-not-branch.true at c.in_ok-insert.ensures.unchanged in
    let sent : List Point → Sent = λ keys. record { messages = c.self.inside.messages.items; nodes = keys } in
    let same = ap sent unchanged in
    rw c.if-not-wanted.false
    (Sends-known_node c.args.map.now.nodes c.args.point.now c.self.inside.nodes.keys c.args.self.now _ (ap (λ v. v.nodes) (sym c.self.view_is))
    (was_there _ (sym c.if-not-branch.true ∙ c.in_ok-insert.ensures.added)) (same ∙ c.self.view_is))

pub returns : goal.returns
returns c =
    rw c.if-not-wanted.false
    (OnOk-node c.push.result c.args.map.now.nodes c.in-Some.row.now c.raw.result.now c.args.point.now
    c.self.inside.nodes.keys _ c.args.self.now _ c.push.new.self
    c.in-Some.ensures c.raw.ensures (ap (λ v. v.nodes) (sym c.self.view_is)) (was_new _ (sym c.if-not-branch.false ∙ c.in_ok-insert.ensures.added))
    c.in_ok-insert.ensures.updates.0 (ap (λ v. v.messages) c.self.view_is) refl c.push.ensures.messages c.push.ensures.nodes)
