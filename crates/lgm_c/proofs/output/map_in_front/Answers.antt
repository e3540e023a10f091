use Rattle.std.proofs.Common.{◌≡◌, ◌∙◌, ◌<◌, length, take, rules, refl, ap, arith}
use Rattle.std.specs.Prelude.{map, slice_set}
use Rattle.std.proofs.Math.Seq.{take-length}
use Rattle.lgm_c.specs.Writing.{in_front}
use Rattle.lgm_c.proofs.Filling.{put_more, first_mapped, one_more_mapped}
use Rattle.lgm_c.proofs.output.map_in_front.Goals as goal

pub loop-place-preserved : goal.loop-place-preserved
loop-place-preserved g c = λ f gives.
    let items = c.args.items.now in
    let room = c.args.room.now in
    let place = c.loop-place.place in
    let item = c.index-items-place.result in
    let within : place < length items = search rules in
    let fits : place < length room = omega (arith, within, c.requires.room) in
    let given : c.give.result ≡ f item = gives item c.give.result (record { shown = _; shows = refl; says = record { met = c.give.ensures } }) in
    ap (λ now. slice_set now place c.give.result) (c.loop-place.invariant f gives)
    ∙ ap (λ one. slice_set (in_front (map f (take place items)) room) place one) given
    ∙ put_more (map f (take place items)) room place (f item) (f item)
    (first_mapped f items place (omega arith)) fits
    ∙ ap (λ made. in_front made room) (one_more_mapped f items place item within c.index-items-place.is)

pub returns : goal.returns
returns g c = λ f gives.
    let items = c.args.items.now in
    let whole : c.loop-place.place ≡ length items = omega (arith, c.loop-place-test.false, c.loop-place.auto.place-end) in
    c.loop-place.invariant f gives
    ∙ ap (λ first. in_front (map f first) c.args.room.now) (ap (λ n. take n items) whole ∙ take-length items)
