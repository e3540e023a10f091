use Rattle.std.proofs.Common.{append_assoc}
use Rattle.lgm_payer_state.specs.Arrivals.{arrival_bytes}
use Rattle.lgm_payload.specs.Arrival.{custom_record}
use Rattle.lgm_payer_state.specs.Arrivals.{record_bytes}
use Rattle.lgm_payer_state.proofs.ListLaws.{list_mapped}
use Rattle.lgm_payer_state.proofs.arrivals.ArrivalStored.read.Goals as goal

pub returns-clause-exact : goal.returns-clause-exact
unfolding arrival_bytes
returns-clause-exact c =
    rw (
      c.new.ensures,
      c.in_ok-secret.ensures.exact,
      c.in_ok-total.ensures.exact,
      c.in_ok-metadata.ensures.exact,
      c.in_ok-records.ensures.exact,
      list_mapped custom_record record_bytes c.in_ok-records.records.items,
    ) (simp append_assoc)
