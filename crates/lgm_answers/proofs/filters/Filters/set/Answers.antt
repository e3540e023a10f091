use Rattle.std.proofs.Common.{◌≡◌, ℕ, ◌∙◌, ap, arith}
use Rattle.std.proofs.lemmas.Bool.Decides.{nat_tests}
use Rattle.std.specs.declared.cmp.Ordering.TheVariants.{Equal}
use Rattle.std.specs.Ordering.{nat_cmp}
use Rattle.std.proofs.lemmas.Cmp.{nat_cmp_total}
use Rattle.lgm_store.specs.Rows.{put}
use Rattle.lgm_store.proofs.Ordered.{values-insert, IsKeyed-insert}
use Rattle.lgm_answers.specs.Filters.{peer_of, by_peer}
use Rattle.lgm_answers.proofs.filters.Filters.set.Goals as goal

same_peer : (a b : ℕ) → nat_cmp a b ≡ Equal → a ≡ b
same_peer a b e = grind (arith, nat_tests)

pub invariant_of-self-2 : goal.invariant_of-self-2
invariant_of-self-2 c =
    rw c.in_ok-insert.ensures.entries
    (IsKeyed-insert nat_cmp peer_of c.args.own c.self.inside.filters.entries same_peer c.self.invariant)

pub returns-clause-ok : goal.returns-clause-ok
returns-clause-ok c =
    rw c.in_ok-insert.ensures.entries (values-insert nat_cmp peer_of nat_cmp_total c.args.own
    c.self.inside.filters.entries c.self.invariant c.insert.ensures.was_ordered)
    ∙ ap (λ owns. put by_peer owns c.args.own) c.self.view_is
