use Rattle.std.proofs.Common.{rules, refl, ◌<◌, ◌^◌, ◌++◌, ap, ◌∙◌, List, ℕ, ◌≡◌, ◌≢◌, length}
use Rattle.lgm_save.specs.Numbers.{in_eight}
use Rattle.lgm_save.specs.Saved.{opening}
use Rattle.lgm_save.proofs.SavedLaws.{behind_opening, behind_chain, too_few, other_length}
use Rattle.lgm_save.proofs.reader.behind_head.Goals as goal

pub returns-in_err-length-clause-none : goal.returns-in_err-length-clause-none
returns-in_err-length-clause-none c none body short e =
    let opened : c.args.content.now ≡ opening ++ c.in_ok-rest.rest.now = c.in_ok-rest.ensures.some ∙ ap (λ (s : List ℕ). s ++ c.in_ok-rest.rest.now) c.opening.ensures in
    too_few c.in_ok-rest-2.rest.now body (c.in_err-length.ensures.none refl)
    (behind_chain c.args.content.now c.in_ok-rest.rest.now c.in_ok-rest-2.rest.now c.args.chain.now body opened c.in_ok-rest-2.ensures.some e)

pub returns-else-length-body-clause-none : goal.returns-else-length-body-clause-none
returns-else-length-body-clause-none c none body short e =
    let opened : c.args.content.now ≡ opening ++ c.in_ok-rest.rest.now = c.in_ok-rest.ensures.some ∙ ap (λ (s : List ℕ). s ++ c.in_ok-rest.rest.now) c.opening.ensures in
    let small : c.in_ok-length.length < 2 ^ 64 = search rules in
    let differ : c.in_ok-length.length ≢ length c.in_ok-length.body.now = search rules in
    other_length c.in_ok-rest-2.rest.now c.in_ok-length.body.now body c.in_ok-length.length small short c.in_ok-length.ensures.some differ
    (behind_chain c.args.content.now c.in_ok-rest.rest.now c.in_ok-rest-2.rest.now c.args.chain.now body opened c.in_ok-rest-2.ensures.some e)

pub returns-in_err-rest-2-clause-none : goal.returns-in_err-rest-2-clause-none
returns-in_err-rest-2-clause-none c none body short e =
    let opened : c.args.content.now ≡ opening ++ c.in_ok-rest.rest.now = c.in_ok-rest.ensures.some ∙ ap (λ (s : List ℕ). s ++ c.in_ok-rest.rest.now) c.opening.ensures in
    c.in_err-rest-2.ensures.none refl (in_eight (length body) ++ body)
    (behind_opening c.args.content.now c.in_ok-rest.rest.now c.args.chain.now body opened e)
