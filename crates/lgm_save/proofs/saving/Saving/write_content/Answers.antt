use Rattle.std.proofs.Common.{refl, arith, subst, [], ◌++◌, List, ℕ}
use Rattle.lgm_save.specs.inner.Filling.{IsFilled}
use Rattle.lgm_save.proofs.SavedLaws.{all_written}
use Rattle.lgm_save.proofs.saving.Saving.write_content.Goals as goal

pub returns : goal.returns
returns c =
    let room = c.args.room.now in
    let start : IsFilled room [] 0 room = record { place = refl; fits = omega arith; bytes = refl } in
    let opened = c.put-at.ensures.filled room [] start in
    let chained = c.put-at-2.ensures.filled room ([] ++ c.opening.result) opened in
    let headed' = c.put-at-3.ensures.filled room (([] ++ c.opening.result) ++ c.args.chain.now.0) chained in
    let whole = c.put_records.ensures room ((([] ++ c.opening.result) ++ c.args.chain.now.0) ++ c.in_eight.result) headed' in
    subst (λ (s : List ℕ). IsFilled room s c.put_records.result c.put_records.new.room)
    (all_written c.args.chain.now c.args.self.now c.self.inside.records.items c.deref.result.now c.opening.result c.in_eight.result c.self.inside.body
    c.opening.ensures c.in_eight.ensures c.self.invariant.body_is c.deref.ensures.value c.self.view_is) whole
