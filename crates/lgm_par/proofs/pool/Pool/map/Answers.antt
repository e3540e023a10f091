use Rattle.std.proofs.Common.{arith, ◌≡◌, ◌<◌, length, get_or, ◌++◌, ◌∷◌, [], ◌∙◌, sym, subst, Ok, IfOk}
use Rattle.std.specs.Fn.{FnReturnsAt}
use Rattle.std.proofs.lemmas.List.{length_push}
use Rattle.std.proofs.lemmas.Iterator.Adapters.{YieldsList-from_vec}
use Rattle.std.proofs.lemmas.Iterator.Consumers.{YieldsList-turn, YieldsList-end}
use Rattle.lgm_par.specs.inner.Chunks.{piece_of}
use Rattle.lgm_par.specs.Pieces.{GivesAll}
use Rattle.lgm_par.proofs.PieceLaws.{none_given, piece_given, all_given}
use Rattle.lgm_par.proofs.pool.Pool.map.Goals as goal

pub loop-part-init : goal.loop-part-init
loop-part-init g c =
    none_given (FnReturnsAt g.F.Fn c.args.f.now) c.args.items.now c.min-pieces.result
    c.in_ok-answers.answers.items c.in_ok-answers.ensures.items

pub loop-part-preserved : goal.loop-part-preserved
loop-part-preserved g c =
    let parts = c.in_ok-parts.parts.items in
    let gives = c.into_iter-part-iterator.ensures.into_iter_gives in
    let t =
    YieldsList-turn (YieldsList-from_vec {s = c.into_iter-part-iterator.result} parts gives.0
    (gives.1 ∙ c.in_ok-parts.parts.ok.0)) c.loop-part.yielded c.loop-part.part-iterator c.loop-part.yielded_by
    c.next.result c.next.new.self c.in-Some.part c.in-Some.is c.next.ensures.steps in
    let k = length c.loop-part.yielded in
    let many : k < c.min-pieces.result = let l = c.in_ok-parts.ensures.len in let m = c.in_ok-parts.parts.ok.0 in let n = t.0 in omega arith in
    let at = (c.in_ok-parts.ensures.each k c.in-Some.part many).1.met in
    let was = c.in_ok-part.was in
    let is : get_or parts k c.in-Some.part ≡ Ok c.in_ok-part.field-0 = sym t.1 ∙ was in
    piece_given (FnReturnsAt g.F.Fn c.args.f.now) c.args.items.now c.min-pieces.result k
    (length (c.loop-part.yielded ++ c.in-Some.part ∷ [])) c.loop-part.answers.items
    c.in_ok-part.field-0.items c.append.new.self.items
    (length_push c.loop-part.yielded c.in-Some.part)
    c.in_ok-append.ensures.items
    c.loop-part.invariant
    (subst (λ r. IfOk r (λ answers. GivesAll g.F.Fn c.args.f.now (piece_of c.args.items.now c.min-pieces.result k) answers.items)) is at)

pub returns : goal.returns
returns g c =
    let parts = c.in_ok-parts.parts.items in
    let gives = c.into_iter-part-iterator.ensures.into_iter_gives in
    let t =
    YieldsList-end (YieldsList-from_vec {s = c.into_iter-part-iterator.result} parts gives.0
    (gives.1 ∙ c.in_ok-parts.parts.ok.0)) c.loop-part.yielded c.loop-part.part-iterator c.loop-part.yielded_by
    c.next.result c.next.new.self c.in-None.is c.next.ensures.steps in
    all_given (FnReturnsAt g.F.Fn c.args.f.now) c.args.items.now c.args.self.now.workers c.min-pieces.result
    (length c.loop-part.yielded) c.loop-part.answers.items c.args.self.now.some c.min-pieces.ensures
    (t.1 ∙ sym c.in_ok-parts.parts.ok.0 ∙ c.in_ok-parts.ensures.len) c.loop-part.invariant
