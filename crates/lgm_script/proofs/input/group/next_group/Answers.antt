use Rattle.std.proofs.Common.{◌≡◌, [], ◌∷◌, ◌++◌, ap, ◌∙◌, length, arith}
use Rattle.std.proofs.lemmas.List.{length_push, take_rest}
use Rattle.lgm_script.specs.Groups.{IsOfKind}
use Rattle.lgm_script.proofs.FirstLines.{first_asks, one_more_asks, each-push}
use Rattle.lgm_script.proofs.input.group.next_group.Goals as goal

pub loop-count-init : goal.loop-count-init
loop-count-init c =
    let line = c.of-line.result in
    let items : c.push.new.self.items ≡ line ∷ [] = c.in_ok-push.ensures.items ∙ ap (λ ls. ls ++ line ∷ []) c.new-lines.ensures.items in
    record {
      next =
          rw (items, c.of-line.ensures, c.min-len.ensures)
          (first_asks c.args.buffered.now c.args.first c.requires.within c.requires.short);
      each = rw items (c.kind-kind.ensures, tt);
      count = ap length items;
    }

pub loop-count-preserved : goal.loop-count-preserved
loop-count-preserved c =
    let inv = c.loop-count.invariant in
    let line = c.in-Some.line in
    let next = c.in-Some.ensures in
    let items = c.in_ok-push-2.ensures.items in
    record {
      next =
          rw (items, next.asked, take_rest)
          (one_more_asks c.in-Some.count inv.next (rw take_rest at next.line) (rw take_rest at next.within) next.short);
      each = rw items (each-push (IsOfKind c.kind-kind.result) c.loop-count.lines.items line inv.each next.kind);
      count = ap length items ∙ length_push c.loop-count.lines.items line ∙ omega (arith, inv.count);
    }
