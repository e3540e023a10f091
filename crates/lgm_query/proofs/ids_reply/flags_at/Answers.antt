use Rattle.std.proofs.Common.{sym, ap, ◌∙◌}
use Rattle.std.proofs.lemmas.List.{get_or-map}
use Rattle.lgm_query.proofs.ids_reply.flags_at.Goals as goal

pub returns-in-None : goal.returns-in-None
returns-in-None c =
    let none = ap (λ q. q.flags) (sym c.query.view_is) ∙ c.in-None.is in
    rw none (sym (get_or-map (λ id. 31) c.args.query.now.ids c.args.place 0 0 c.requires))
