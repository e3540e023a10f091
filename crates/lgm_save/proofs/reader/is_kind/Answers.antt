use Rattle.std.proofs.Common.{subst, ◌∙◌}
use Rattle.lgm_gossip.specs.declared.layout.Layout.{Layout}
use Rattle.lgm_gossip.specs.Layout.{IsLaidOut}
use Rattle.lgm_save.proofs.RecordLaws.{not_kind, other_kind}
use Rattle.lgm_save.proofs.reader.is_kind.Goals as goal

pub returns-in_default-matches : goal.returns-in_default-matches
returns-in_default-matches c = (
  λ e. absurd cc,
  λ is. absurd (not_kind c.layout_of.result c.args.layout c.args.message.now c.layout_of.ensures
      (λ same. c.in_default-matches.not-Update (same ∙ c.in-Update.is)) is),
)

pub returns-in-Other : goal.returns-in-Other
returns-in-Other c = (
  λ e. absurd cc,
  λ is. absurd (other_kind c.args.layout c.args.message.now
      (subst (λ (l : Layout). IsLaidOut l c.args.message.now) c.in-Other.is c.layout_of.ensures) is),
)
