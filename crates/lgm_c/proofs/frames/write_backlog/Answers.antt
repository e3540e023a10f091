use Rattle.std.proofs.Common.{◌≡◌, ◌∙◌, ℕ, List, subst, ap, rules}
use Rattle.lgm_query.specs.Backlog.{backlog}
use Rattle.lgm_c.specs.Status.{status_of}
use Rattle.lgm_c.specs.Writing.{all_framed, buffer}
use Rattle.lgm_c.specs.inner.Framing.{MayWrite}
use Rattle.lgm_c.proofs.FirstNews.{first_news}
use Rattle.lgm_c.proofs.frames.write_backlog.Goals as goal

pub returns-clause-first : goal.returns-clause-first
returns-clause-first c =
    let messages : c.of_backlog-messages.result ≡ backlog c.args.map.now c.args.filter.now = search rules in
    subst (λ (bytes : List ℕ). MayWrite bytes (status_of c.write_messages.result)
    (buffer c.args.room.now c.args.needed.now) (buffer c.write_messages.new.room c.write_messages.new.needed))
    (ap all_framed messages ∙ first_news c.args.map.now c.args.filter.now) c.write_messages.ensures.written
