use Rattle.std.proofs.Common.{◌∙◌, ap, Result}
use Rattle.lgm_graph.specs.Estimates.{Entries}
use Rattle.lgm_payer_state.specs.declared.state_fault.StateFault.{StateFault}
use Rattle.lgm_payer_state.specs.Estimates.{learnt_bytes}
use Rattle.lgm_payer_state.specs.reading.EstimatesReading.{learnt_at}
use Rattle.lgm_payer_state.specs.reading.Reading.{made_of}
use Rattle.lgm_payer_state.proofs.EstimateLaws.{distinct_estimates}
use Rattle.lgm_payer_state.proofs.estimates.write_learnt.Goals as goal

pub returns : goal.returns
unfolding learnt_bytes learnt_at
returns c =
    let learnt = c.args.learnt.now in
    let same = c.deref.ensures.value ∙ c.in_ok-entries.ensures in
    let distinct = distinct_estimates learnt c.are_of_distinct_edges.ensures in
    let entries = c.in_ok-write_all.ensures in
    let entries-written = rw same at entries.written in
    let entries-back = rw same at entries.back in
    record {
      written = entries-written;
      back = λ rest. simp (entries-back) (ap (λ (r : Result Entries StateFault). made_of r rest) distinct);
    }
