use Rattle.std.proofs.Common.{◌≡◌, ◌<◌, ap, subst, take, length, arith}
use Rattle.std.proofs.lemmas.List.{take_all}
use Rattle.lgm_graph.specs.Estimates.{Entries, estimate_of}
use Rattle.lgm_odds.proofs.FadingLaws.{AreLaid, laid_at, laid_all}
use Rattle.lgm_odds.proofs.fading.fade.Goals as goal

pub loop-place-init : goal.loop-place-init
loop-place-init c = λ scid from. ap (λ (e : Entries). estimate_of e scid from) c.new-left.ensures

pub loop-place-preserved : goal.loop-place-preserved
loop-place-preserved c =
    let lt : c.loop-place.place < length c.args.learnt.now = omega arith in
    laid_at c.args.map.now c.args.time c.args.learnt.now c.loop-place.place c.loop-place.left c.add_faded_at.new.left lt
    c.loop-place.invariant c.in_ok-add_faded_at.ensures

pub returns : goal.returns
returns c =
    let all : take c.loop-place.place c.args.learnt.now ≡ c.args.learnt.now =
    take_all c.loop-place.place c.args.learnt.now (omega (arith, c.loop-place-test.false)) in
    laid_all c.args.map.now c.args.time c.args.learnt.now c.loop-place.left
    (subst (λ (done : Entries). AreLaid c.args.map.now c.args.time c.args.learnt.now done c.loop-place.left) all
    c.loop-place.invariant)
