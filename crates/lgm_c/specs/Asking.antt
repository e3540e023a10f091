-- The messages that answer queries and filters of peers.
use Rattle.std.specs.Prelude.{◌≡◌, ℕ, List, Result, Ok, Err}
use Rattle.lgm_wire.specs.declared.chain_hash.ChainHash.{ChainHash}
use Rattle.lgm_gossip.specs.Memory.{TakesMemory}
use Rattle.lgm_store.specs.Rows.{Rows}
use Rattle.lgm_query.specs.declared.filter.Filter.{Filter}
use Rattle.lgm_query.specs.declared.request.RequestFault.{RequestFault}
use Rattle.lgm_query.specs.declared.request.RequestFault.TheVariants as reasons
use Rattle.lgm_query.specs.Requests.{query_read, replies_to, filter_read}
use Rattle.lgm_query.specs.Backlog.{backlog, news}
use Rattle.lgm_c.specs.declared.fault.Fault.{Fault}
use Rattle.lgm_c.specs.declared.fault.Fault.TheVariants as faults
use Rattle.lgm_c.specs.Status.{number_of, refused}
use Rattle.lgm_c.specs.Writing.{all_framed, IsCramped}

abbrev pub fault_of : RequestFault → Fault
fault_of (reasons.Refused refusal) = refused refusal
fault_of reasons.NotQuery = faults.NotQuery
fault_of reasons.NotFilter = faults.NotFilter

-- the messages that answer a request, each after its length, or why there is no request
abbrev pub framed_answer : {Q : Type 0} → Result Q RequestFault → (Q → List (List ℕ)) → Result (List ℕ) Fault
framed_answer (Ok request) answer = Ok (all_framed (answer request))
framed_answer (Err fault) answer = Err (fault_of fault)

-- the replies to a query of either kind
abbrev pub query_answer : List ℕ → ChainHash → Rows → Result (List ℕ) Fault
query_answer bytes chain rows = framed_answer (query_read bytes) (replies_to chain rows)

-- the messages of a map that pass a filter; below, those that pass in a later map and didn't in an earlier one
abbrev pub backlog_answer : List ℕ → ChainHash → Rows → Result (List ℕ) Fault
backlog_answer bytes chain rows = framed_answer (filter_read chain bytes) (backlog rows)

abbrev pub news_answer : List ℕ → ChainHash → Rows → Rows → Result (List ℕ) Fault
news_answer bytes chain before after = framed_answer (filter_read chain bytes) (news before after)

-- want of room for what passes a filter is told even if memory is short, unless decoding the message allocates, as no filter does
abbrev pub TellsRoom : List ℕ → ChainHash → Rows → List ℕ → ℕ → Type 0
TellsRoom bytes chain rows room status =
    (filter : Filter) → filter_read chain bytes ≡ Ok filter → (TakesMemory bytes → ⊥)
    → IsCramped (all_framed (backlog rows filter)) room → status ≡ number_of faults.Room
