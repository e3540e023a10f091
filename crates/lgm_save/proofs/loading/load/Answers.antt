use Rattle.std.proofs.Common.{rules, refl, ◌≡◌, ◌≢◌, length}
use Rattle.lgm_save.proofs.LoadLaws.{partly_more, shrinks, not_saved_at, loaded_whole}
use Rattle.lgm_save.proofs.loading.load.Goals as goal

pub returns-in_default-next_record-clause-refused : goal.returns-in_default-next_record-clause-refused
returns-in_default-next_record-clause-refused c e =
    let some : length c.records.rest.now ≢ 0 = search rules in
    not_saved_at c.args.chain.now c.args.bytes.now c.in-Some.body.now c.records.rest.now c.records.map c.in-Some.ensures.some
    c.records.invariant some (c.in_default-next_record.ensures.none refl)

pub records-smaller : goal.records-smaller
records-smaller c = shrinks c.records.rest.now c.in-Some-next_record.behind.now c.in-Some-next_record.record c.in-Some-next_record.ensures.some

pub records-preserved : goal.records-preserved
records-preserved c =
    partly_more c.in-Some.body.now c.records.rest.now c.in-Some-next_record.behind.now c.records.map c.absorb.new.self
    c.in-Some-next_record.record c.in_ok-op_of.field-0 c.records.invariant c.in-Some-next_record.ensures.some c.in_ok-op_of.ensures c.in_ok-absorb.ensures.ok

pub returns-clause-loaded : goal.returns-clause-loaded
returns-clause-loaded c =
    let none : length c.records.rest.now ≡ 0 = search rules in
    loaded_whole c.args.chain.now c.args.bytes.now c.in-Some.body.now c.records.rest.now c.records.map c.in-Some.ensures.some c.records.invariant none
