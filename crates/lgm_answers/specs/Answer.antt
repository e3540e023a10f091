-- The text of answers.
use Rattle.std.specs.Prelude.{ℕ, List, ◌++◌, length, Option, Some, None, Result, Ok, Err, codes}
use Rattle.std.specs.List.{flat_map, zip}
use Rattle.lgm_wire.specs.declared.chain_hash.ChainHash.{ChainHash}
use Rattle.lgm_gossip.specs.declared.range_query.RangeQuery.{RangeQuery}
use Rattle.lgm_check.specs.declared.refusal.Refusal.{Refusal}
use Rattle.lgm_check.specs.Refusal.{word_of}
use Rattle.lgm_store.specs.Rows.{Rows}
use Rattle.lgm_query.specs.declared.filter.Filter.{Filter}
use Rattle.lgm_query.specs.declared.request.RequestFault.{RequestFault}
use Rattle.lgm_query.specs.Requests.{request_word}
use Rattle.lgm_query.specs.Backlog.{backlog, news}
use Rattle.lgm_query.specs.RangeReply.{range_reply}
use Rattle.lgm_graph.specs.declared.route.Hop.{Hop}
use Rattle.lgm_route.specs.declared.fault.RouteFault.{RouteFault}
use Rattle.lgm_graph.specs.Route.{sent, expiry}
use Rattle.lgm_route.specs.Words.{route_word}
use Rattle.lgm_payload.specs.Building.{payloads_of}
use Rattle.lgm_script.specs.Text.{word_line, commit_line, message_line, route_line, hop_line}
use Rattle.lgm_answers.specs.declared.answer.Answer.{Answer}
use Rattle.lgm_answers.specs.declared.answer.Answer.TheVariants as answers
use Rattle.lgm_answers.specs.declared.filters.PeerFilter.{PeerFilter}

-- the word for an item that was accepted, or else refused
abbrev pub outcome_word : Option Refusal → List ℕ
outcome_word None = codes "accepted"
outcome_word (Some refusal) = word_of refusal

abbrev pub outcome_text : ℕ → Option Refusal → List ℕ
outcome_text number refusal = word_line number (outcome_word refusal)

-- a query is answered with messages, or why there are none
abbrev pub query_text : ℕ → Result (List (List ℕ)) RequestFault → List ℕ
query_text number (Ok messages) = flat_map (message_line number None) messages
query_text number (Err fault) = word_line number (request_word fault)

-- a query of a range is answered with its replies
abbrev pub range_text : ℕ → ChainHash → Rows → RangeQuery → List ℕ
range_text number chain rows query = query_text number (Ok (range_reply chain rows query))

-- a filter is answered with its word, and then what passes it of these rows, or why it is none
abbrev pub filter_text : ℕ → ℕ → Rows → Result Filter RequestFault → List ℕ
filter_text number peer rows (Ok filter) =
    word_line number (codes "filter") ++ flat_map (message_line number (Some peer)) (backlog rows filter)
filter_text number peer rows (Err fault) = word_line number (request_word fault)

-- the news of a peer in later rows
abbrev pub news_text : ℕ → Rows → Rows → PeerFilter → List ℕ
news_text number before after own =
    flat_map (message_line number (Some own.peer)) (news before after own.filter)

-- a commit is answered with the number of accepted items, and then the news of each peer
abbrev pub commit_text : ℕ → ℕ → Rows → Rows → List PeerFilter → List ℕ
commit_text number accepted before after filters =
    commit_line number accepted ++ flat_map (news_text number before after) filters

-- a line for each hop, with the payload of the node at its end
abbrev pub hops_text : ℕ → List Hop → List (List ℕ) → List ℕ
hops_text number hops payloads = flat_map (λ told. hop_line number told.0.scid told.1) (zip hops payloads)

-- what the payer sends, when it expires and the number of hops, and then each hop
abbrev pub routed_text : ℕ → List Hop → List (List ℕ) → List ℕ
routed_text number hops payloads =
    route_line number (sent hops) (expiry hops) (length hops) ++ hops_text number hops payloads

-- a payment is answered with its route, or why there is none
abbrev pub route_text : ℕ → List ℕ → Result (List Hop) RouteFault → List ℕ
route_text number secret (Ok hops) = routed_text number hops (payloads_of secret hops)
route_text number secret (Err fault) = word_line number (route_word fault)

-- the text of an answer on the rows of a map of the chain, for the line with this number
abbrev pub answer_text : ChainHash → Rows → ℕ → Answer → List ℕ
answer_text chain rows number answers.Bad = word_line number (codes "bad")
answer_text chain rows number (answers.Refused fault) = word_line number (request_word fault)
answer_text chain rows number (answers.Replies messages) = query_text number (Ok messages)
answer_text chain rows number (answers.Range query) = range_text number chain rows query
answer_text chain rows number (answers.Filter own) = filter_text number own.peer rows (Ok own.filter)
answer_text chain rows number (answers.Route secret found) = route_text number secret found
