use Rattle.std.proofs.Common.{length, arith, inl, inr, refl}
use Rattle.std.proofs.lemmas.Bool.{cases_lt}
use Rattle.lgm_gossip.proofs.MemoryLaws.{some_record, few_bytes}
use Rattle.lgm_gossip.proofs.optional.records.Goals as goal

pub returns-in-Ok-clause-some : goal.returns-in-Ok-clause-some
returns-in-Ok-clause-some c some = some_record c.in-Ok.records c.args.bytes.now c.in-Ok.ensures.found some

pub returns-in-Err-NoMemory-clause-exact : goal.returns-in-Err-NoMemory-clause-exact
returns-in-Err-NoMemory-clause-exact c =
    elim (cases_lt (length c.args.bytes.now) 2) [
      | inl few ↦ absurd (few_bytes c.args.bytes.now few (rw c.in-Err-NoMemory.field-0-is at (c.in-Err-NoMemory.ensures.memory few)))
      | inr some ↦ inl (omega arith, refl)
    ]
