use Rattle.std.proofs.Common.{arith, length, ◌∙◌, refl, sym, subst, ap}
use Rattle.std.specs.List.{AllZip}
use Rattle.std.proofs.lemmas.List.{nil_from_length}
use Rattle.std.proofs.lemmas.Result.{err_from_is_err_and}
use Rattle.std.proofs.lemmas.Slice.Zip.{AllZip-long}
use Rattle.lgm_script.specs.declared.grammar.line_form.LineKind.TheVariants.{Item}
use Rattle.lgm_script.specs.Command.{item_in}
use Rattle.lgm_script.specs.Groups.{IsOfKind}
use Rattle.lgm_script.proofs.WrittenTextLaws.{tells_none, onward_first}
use Rattle.lgm_run.specs.inner.CheckedItem.{IsCheckOf, IsItemOf}
use Rattle.lgm_run.proofs.CommandStepLaws.{accepted-le}
use Rattle.lgm_run.proofs.TurnLaws.{next_turn, all_done}
use Rattle.lgm_run.proofs.Zips.{zip_each}
use Rattle.lgm_run.proofs.answer_group.answer_items.Goals as goal

pub returns-in_err-all-clause-written : goal.returns-in_err-all-clause-written
returns-in_err-all-clause-written g c =
    let p = err_from_is_err_and c.from_residual.result c.from_residual.ensures.1 in
    rw (p.1, p.2) (tells_none _ _)

pub returns-in_err-ahead-clause-written : goal.returns-in_err-ahead-clause-written
returns-in_err-ahead-clause-written g c =
    let p = err_from_is_err_and c.from_residual-in_err-ahead.result c.from_residual-in_err-ahead.ensures.1 in
    rw (p.1, p.2) (tells_none _ _)

pub loop-item-init : goal.loop-item-init
loop-item-init g c =
    let chain = c.args.context.now.chain in
    let asked = c.args.group.now.lines.items in
    let all = c.in_ok-all.all in
    let items =
    zip_each (IsOfKind Item) (λ request item. IsCheckOf chain (item_in request) item) (IsItemOf chain)
    (λ request item kind check. record { kind = kind; check = check }) asked all.items c.requires.items c.in_ok-all.ensures in
    let gives = c.into_iter-item-iterator.ensures.into_iter_gives in
    let same = ap length gives.0 in
    let long = AllZip-long (IsItemOf chain) asked all.items items in
    record {
      len = gives.1 ∙ all.ok.0 ∙ sym same;
      number = omega (arith, same, long);
      few = omega (arith, same, long, c.requires.few);
      left = record {
        asked = asked;
        known = subst (AllZip (IsItemOf chain) asked) (sym gives.0) items;
        leads = refl;
        told = onward_first _ _ _ refl;
      };
    }

pub returns-in_err-answer_item-clause-written : goal.returns-in_err-answer_item-clause-written
returns-in_err-answer_item-clause-written g c =
    let turn = next_turn c.loop-item.invariant.left _ _ c.in-Some.ensures.steps.0 in
    let p = err_from_is_err_and c.from_residual-in_err-answer_item.result c.from_residual-in_err-answer_item.ensures.1 in
    rw (p.1, p.2) (turn.stops _ _ _ refl (c.in_err-answer_item.ensures.written turn.request turn.known))

pub overflow_add-number : goal.overflow_add-number
overflow_add-number g c =
    omega (arith, ap length c.in-Some.ensures.steps.0, c.loop-item.invariant.number, c.requires.number)

pub loop-item-preserved : goal.loop-item-preserved
loop-item-preserved g c =
    let inv = c.loop-item.invariant in
    let steps = c.in-Some.ensures.steps in
    let one_less = ap length steps.0 in
    let turn = next_turn inv.left _ _ steps.0 in
    let goes = c.in_ok-answer_item.ensures.state turn.request turn.known in
    record {
      len = omega (arith, steps.1, one_less, inv.len);
      number = omega (arith, one_less, inv.number);
      few = let count_is = ap (λ s. s.accepted) goes in
          omega (
            arith,
            count_is,
            accepted-le c.args.context.now.chain c.loop-item.engine turn.request,
            one_less,
            inv.few,
          );
      left = turn.goes_on _ _ _ goes refl (c.in_ok-answer_item.ensures.written turn.request turn.known);
    }

pub returns-clause-state : goal.returns-clause-state
returns-clause-state g c =
    let inv = c.loop-item.invariant in
    (all_done inv.left (nil_from_length _ (omega (arith, c.in-None.ensures.steps.0, inv.len)))).0

pub returns-clause-written : goal.returns-clause-written
returns-clause-written g c =
    let inv = c.loop-item.invariant in
    (all_done inv.left (nil_from_length _ (omega (arith, c.in-None.ensures.steps.0, inv.len)))).1
