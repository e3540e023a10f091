use Rattle.std.proofs.Common.{◌≡◌, Err, refl, arith, rules, ◌∙◌}
use Rattle.lgm_answers.specs.Outcomes.{outcome_of}
use Rattle.lgm_live.proofs.Items.{accepted_written, refused_written, fold_push}
use Rattle.lgm_live.proofs.writer.WriterResult.offer_item.Goals as goal

pub returns-in_ok-push-in-Ok-clause-written : goal.returns-in_ok-push-in-Ok-clause-written
returns-in_ok-push-in-Ok-clause-written c =
    λ items w. accepted_written c.args.chain.now items c.args.item.now c.args.self.now _ c.in-Ok.op
    (rw c.requires.map at c.in-Ok.ensures.outcome) (search rules) c.in_ok-append_op-in-Ok.ensures.ops w

pub returns-in_ok-push-in-Ok-clause-map : goal.returns-in_ok-push-in-Ok-clause-map
returns-in_ok-push-in-Ok-clause-map c =
    fold_push c.args.map.now c.admit.new.map c.args.self.now.ops.items c.append_op.new.self.ops.items c.in-Ok.op c.in-Ok.ensures.accepted
    c.requires.map c.in_ok-append_op-in-Ok.ensures.ops

pub returns-in_ok-push-in-Err : goal.returns-in_ok-push-in-Err
returns-in_ok-push-in-Err c =
    let is : outcome_of c.args.chain.now c.args.map.now c.args.item.now ≡ Err c.in-Err.refusal = search rules in
    record {
      written =
          λ items w. refused_written c.args.chain.now items c.args.item.now c.args.self.now _ c.in-Err.refusal
          (rw c.requires.map at is) (search rules) refl w;
      map = c.in-Err.ensures.refused ∙ c.requires.map;
      ends = refl;
      grows = (omega arith, omega arith);
      board = refl;
      published = refl;
      appended = c.requires.appended;
    }
