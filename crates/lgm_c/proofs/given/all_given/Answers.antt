use Rattle.std.proofs.Common.{◌≡◌, ◌∙◌, ◌<◌, ◌++◌, [], ◌∷◌, length, take, rules, refl, ap, arith}
use Rattle.std.specs.Prelude.{map}
use Rattle.std.proofs.Math.Seq.{take-length}
use Rattle.lgm_c.proofs.Filling.{one_more_mapped}
use Rattle.lgm_c.proofs.given.all_given.Goals as goal

pub loop-item-preserved : goal.loop-item-preserved
loop-item-preserved g c = λ f gives.
    let items = c.args.items.now in
    let place = c.loop-item.item-index in
    let item = c.item-item.result in
    let within : place < length items = search rules in
    let given : c.give.result ≡ f item =
    gives item c.give.result (record { shown = _; shows = refl; says = record { met = c.give.ensures } }) in
    c.in_ok-push.ensures.items
    ∙ ap (λ first. first ++ c.give.result ∷ []) (c.loop-item.invariant f gives)
    ∙ ap (λ one. map f (take place items) ++ one ∷ []) given
    ∙ one_more_mapped f items place item within c.item-item.is

pub returns : goal.returns
returns g c = λ f gives.
    let items = c.args.items.now in
    let whole : c.loop-item.item-index ≡ length items = omega (arith, c.loop-item-test.false, c.loop-item.auto.item-index-end) in
    c.loop-item.invariant f gives ∙ ap (map f) (ap (λ n. take n items) whole ∙ take-length items)
