-- The filters of peers.
use Rattle.std.specs.Prelude.{ℕ, Option, List, Result, Ok, Err}
use Rattle.std.specs.Option.{option_map}
use Rattle.std.specs.List.{filter_map, range_with_len}
use Rattle.std.specs.declared.cmp.Ordering.{Ordering}
use Rattle.std.specs.Ordering.{nat_cmp}
use Rattle.lgm_store.specs.Rows.{put}
use Rattle.lgm_query.specs.declared.filter.Filter.{Filter}
use Rattle.lgm_answers.specs.declared.filters.PeerFilter.{PeerFilter}
use Rattle.lgm_query.specs.declared.request.RequestFault.{RequestFault}

abbrev pub peer_of : PeerFilter → ℕ
peer_of own = own.peer

-- ascending by number of the peer
abbrev pub by_peer : PeerFilter → PeerFilter → Ordering
by_peer a b = nat_cmp (peer_of a) (peer_of b)

-- filters with that of a peer, if it is valid
abbrev pub filters_with : List PeerFilter → ℕ → Result Filter RequestFault → List PeerFilter
filters_with filters peer (Ok filter) = put by_peer filters (record { peer = peer; filter = filter })
filters_with filters peer (Err fault) = filters

-- the filter of a peer, if it has one
abbrev pub peer_filter : (ℕ → Option Filter) → ℕ → Option PeerFilter
peer_filter filter_at peer = option_map (λ filter. record { peer = peer; filter = filter }) (filter_at peer)

-- the filters of this many peers from a number on, ascending
abbrev pub filters_from : (ℕ → Option Filter) → ℕ → ℕ → List PeerFilter
filters_from filter_at first count = filter_map (peer_filter filter_at) (range_with_len first count)
