-- What a peer requests, from the bytes of its message.
use Rattle.std.specs.Prelude.{ℕ, nat_eq, List, Result, Ok, Err, codes, if◌then◌else◌}
use Rattle.std.specs.Cmp.Lexicographic.{pointwise}
use Rattle.lgm_wire.specs.reading.Reading.{◌>>=◌}
use Rattle.lgm_wire.specs.declared.chain_hash.ChainHash.{ChainHash}
use Rattle.lgm_gossip.specs.declared.message.Message.{Message}
use Rattle.lgm_gossip.specs.declared.message.Message.TheVariants as messages
use Rattle.lgm_gossip.specs.declared.fault.DecodeFault.{DecodeFault}
use Rattle.lgm_gossip.specs.reading.MessageReading.{message_at}
use Rattle.lgm_check.specs.Refusal.{refusal_of, word_of}
use Rattle.lgm_check.specs.declared.refusal.Refusal.TheVariants as refusals
use Rattle.lgm_store.specs.Rows.{Rows}
use Rattle.lgm_query.specs.declared.filter.Filter.{Filter}
use Rattle.lgm_query.specs.declared.request.Query.{Query}
use Rattle.lgm_query.specs.declared.request.Query.TheVariants as queries
use Rattle.lgm_query.specs.declared.request.RequestFault.{RequestFault}
use Rattle.lgm_query.specs.declared.request.RequestFault.TheVariants.{Refused, NotQuery, NotFilter}
use Rattle.lgm_query.specs.IdsReply.{ids_reply}
use Rattle.lgm_query.specs.RangeReply.{range_reply}

-- the query of a message, if it is one of the two
abbrev pub query_in : Result Message DecodeFault → Result Query RequestFault
query_in (Ok (messages.IdsQuery query)) = Ok (queries.Ids query)
query_in (Ok (messages.RangeQuery query)) = Ok (queries.Range query)
query_in (Ok _) = Err NotQuery
query_in (Err fault) = Err (Refused (refusal_of fault))

abbrev pub query_read : List ℕ → Result Query RequestFault
query_read bytes = query_in (message_at bytes)

-- the messages that answer a query
abbrev pub replies_to : ChainHash → Rows → Query → List (List ℕ)
replies_to chain rows (queries.Ids query) = ids_reply chain rows query
replies_to chain rows (queries.Range query) = range_reply chain rows query

-- the messages that answer the query of these bytes, or why there are none
abbrev pub query_answer : ChainHash → Rows → List ℕ → Result (List (List ℕ)) RequestFault
query_answer chain rows bytes = do
  query ← query_read bytes
  Ok (replies_to chain rows query)

-- the filter of a message, if it is one for this chain
abbrev pub filter_in : ChainHash → Result Message DecodeFault → Result Filter RequestFault
filter_in chain (Ok (messages.FilterMsg filter)) =
    if pointwise nat_eq filter.chain_hash.0 chain.0
    then Ok (record { first = filter.first_timestamp; range = filter.timestamp_range })
    else Err (Refused refusals.Chain)
filter_in chain (Ok _) = Err NotFilter
filter_in chain (Err fault) = Err (Refused (refusal_of fault))

abbrev pub filter_read : ChainHash → List ℕ → Result Filter RequestFault
filter_read chain bytes = filter_in chain (message_at bytes)

-- why there is none, as a word
abbrev pub request_word : RequestFault → List ℕ
request_word (Refused refusal) = word_of refusal
request_word NotQuery = codes "not-query"
request_word NotFilter = codes "not-filter"
