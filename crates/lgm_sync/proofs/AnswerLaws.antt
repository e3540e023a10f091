-- What is asked of a peer is in its answer.
use Rattle.std.proofs.Common.{◌≡◌, ℕ, zero, suc, ◌<◌, Bool, true, false, not, List, [], ◌∷◌, ◌++◌, length, map, Option, Some, None, refl, sym, ap, subst, ◌∙◌, arith}
use Rattle.std.specs.Prelude.{nat_eq, nat_lt, ◌==◌, slice_index_or}
use Rattle.std.specs.Cmp.Lexicographic.{pointwise, bytes_decides}
use Rattle.std.specs.Int.{bit_at}
use Rattle.std.specs.List.{Contains, flat_map, zip}
use Rattle.std.specs.List.Sorted.{IsStrictlySortedBy}
use Rattle.std.specs.Option.{option_map}
use Rattle.std.specs.declared.cmp.Ordering.TheVariants.{Less}
use Rattle.std.proofs.lemmas.Bool.{lt-ltb}
use Rattle.std.proofs.lemmas.Bool.Decides.{nat_tests}
use Rattle.std.proofs.lemmas.List.Elements.{All-contains, All-from_recursion, Contains-append_left, Contains-append_right}
use Rattle.lgm_wire.specs.declared.chain_hash.ChainHash.{ChainHash}
use Rattle.lgm_check.specs.declared.row.ChannelRow.{ChannelRow}
use Rattle.lgm_check.specs.declared.row.UpdateRow.{UpdateRow}
use Rattle.lgm_check.specs.declared.row.NodeRow.{NodeRow}
use Rattle.lgm_store.specs.declared.channel_info.ChannelInfo.{ChannelInfo}
use Rattle.lgm_store.specs.ChannelInfo.{stored_at}
use Rattle.lgm_store.specs.ChannelWithUpdates.{timestamp_of}
use Rattle.lgm_store.specs.Rows.{Rows, IsAscending, by_id, channel_of, update_of, node_of}
use Rattle.lgm_query.specs.IdsReply.{if_set, chosen_of, chosen, asked_for, messages_asked_for, ids_reply}
use Rattle.lgm_query.specs.Piece.{Piece, channel, update, node, bytes_of, are_of_one_node, with_nodes_once}
use Rattle.lgm_query.specs.RangeReply.{timestamps_of}
use Rattle.lgm_sync.specs.declared.lacking.Lacking.{Lacking}
use Rattle.lgm_sync.specs.Lacking.{flags_beside, flags_lacking}
use Rattle.lgm_sync.specs.Synchronized.{query_for, IsToldLacking, IsAnswered}
use Rattle.lgm_sync.proofs.SyncLaws.{in_map, in_filter, later, less_is_below}

-- ---- what is contained

in_flat_map : {X Y : Type 0} (f : X → List Y) (xs : List X) (x : X) (y : Y) (k : ℕ) → k < length xs → slice_index_or xs k x ≡ x
    → Contains (f x) y → Contains (flat_map f xs) y
in_flat_map f [] x y k within is at = absurd (omega arith)
in_flat_map {X} {Y} f (z ∷ zs) x y zero within is at =
    Contains-append_left (f z) (flat_map f zs) y (subst (λ (w : X). Contains (f w) y) (sym is) at)
in_flat_map f (z ∷ zs) x y (suc k) within is at =
    Contains-append_right (f z) (flat_map f zs) y (in_flat_map f zs x y k (omega arith) is at)

in_zip : (all : List Lacking) (one : Lacking) (k : ℕ) → k < length all → slice_index_or all k one ≡ one
    → Contains (zip (map (λ it. it.scid) all) (map (λ it. it.flags) all)) (one.scid, one.flags)
in_zip [] one k within is = absurd (omega arith)
in_zip (first ∷ others) one zero within is = (zero, omega arith, ap (λ (it : Lacking). (it.scid, it.flags)) is)
in_zip (first ∷ others) one (suc k) within is = later _ _ _ (in_zip others one k (omega arith) is)

same_number : (a b : ℕ) → a ≡ b → (a == b) ≡ true
same_number a b e = grind (arith, nat_tests)

other_number : (a b : ℕ) → nat_lt a b ≡ true → (a == b) ≡ false
other_number a b e = grind (arith, nat_tests)

row_found : (rows : List ChannelRow) (row : ChannelRow) → IsStrictlySortedBy by_id rows → (k : ℕ) → k < length rows
    → slice_index_or rows k row ≡ row → channel_of rows row.message.short_channel_id ≡ Some row
unfolding IsStrictlySortedBy
row_found [] row sorted k within is = absurd (omega arith)
row_found (first ∷ others) row sorted zero within is =
    rw (same_number first.message.short_channel_id row.message.short_channel_id (ap (λ (r : ChannelRow). r.message.short_channel_id) is))
    (ap Some is)
row_found (first ∷ others) row sorted (suc k) within is =
    let less : by_id first row ≡ Less =
    All-contains (λ r. by_id first r ≡ Less) others row (All-from_recursion (λ r. by_id first r ≡ Less) others sorted.0) (k, omega arith, is) in
    rw (other_number first.message.short_channel_id row.message.short_channel_id (less_is_below _ _ less))
    (row_found others row sorted.1 k (omega arith) is)

-- ---- pieces of the answer

kept_once : (pieces : List Piece) (one : Piece) → ((other : Piece) → are_of_one_node other one ≡ false) → (k : ℕ) → k < length pieces
    → slice_index_or pieces k one ≡ one → Contains (with_nodes_once pieces) one
kept_once [] one apart k within is = absurd (omega arith)
kept_once (first ∷ others) one apart zero within is = (zero, omega arith, is)
kept_once (first ∷ others) one apart (suc k) within is =
    let kept = kept_once others one apart k (omega arith) is in
    later first _ one (in_filter (λ other. not (are_of_one_node first other)) (with_nodes_once others) one (ap not (apart first))
    kept.0 kept.1 kept.2)

channel_apart : (row : ChannelRow) (other : Piece) → are_of_one_node other (channel row) ≡ false
channel_apart row (channel a) = refl
channel_apart row (update a) = refl
channel_apart row (node a) = refl

update_apart : (row : UpdateRow) (other : Piece) → are_of_one_node other (update row) ≡ false
update_apart row (channel a) = refl
update_apart row (update a) = refl
update_apart row (node a) = refl

channel_chosen : (nodes : List NodeRow) (flags : ℕ) (stored : ChannelInfo) → flags ≡ 31
    → Contains (chosen_of nodes flags stored) (channel stored.channel)
channel_chosen nodes flags stored all = rw all (zero, omega arith, refl)

-- what is in the second of five parts, or in the third, is in the whole
second_of : {X : Type 0} (a b c d e : List X) (x : X) → Contains b x → Contains ((((a ++ b) ++ c) ++ d) ++ e) x
second_of a b c d e x at =
    Contains-append_left (((a ++ b) ++ c) ++ d) e x (Contains-append_left ((a ++ b) ++ c) d x
    (Contains-append_left (a ++ b) c x (Contains-append_right a b x at)))

third_of : {X : Type 0} (a b c d e : List X) (x : X) → Contains c x → Contains ((((a ++ b) ++ c) ++ d) ++ e) x
third_of a b c d e x at =
    Contains-append_left (((a ++ b) ++ c) ++ d) e x (Contains-append_left ((a ++ b) ++ c) d x (Contains-append_right (a ++ b) c x at))

-- what the flags select of node 1 and of node 2
abbrev node_1 : List NodeRow → ℕ → ChannelInfo → List Piece
node_1 nodes flags stored = if_set flags 3 (option_map node (node_of nodes stored.channel.message.node_id_1))

abbrev node_2 : List NodeRow → ℕ → ChannelInfo → List Piece
node_2 nodes flags stored = if_set flags 4 (option_map node (node_of nodes stored.channel.message.node_id_2))

first_chosen : (nodes : List NodeRow) (flags : ℕ) (stored : ChannelInfo) (row : UpdateRow) → (bit_at flags 1 == 1) ≡ true
    → stored.first ≡ Some row → Contains (chosen_of nodes flags stored) (update row)
first_chosen nodes flags stored row set is =
    let one : Contains (if_set flags 1 (option_map update stored.first)) (update row) = rw (set, is) (zero, omega arith, refl) in
    second_of (if_set flags 0 (Some (channel stored.channel))) (if_set flags 1 (option_map update stored.first))
    (if_set flags 2 (option_map update stored.second)) (node_1 nodes flags stored) (node_2 nodes flags stored) (update row) one

second_chosen : (nodes : List NodeRow) (flags : ℕ) (stored : ChannelInfo) (row : UpdateRow) → (bit_at flags 2 == 1) ≡ true
    → stored.second ≡ Some row → Contains (chosen_of nodes flags stored) (update row)
second_chosen nodes flags stored row set is =
    let one : Contains (if_set flags 2 (option_map update stored.second)) (update row) = rw (set, is) (zero, omega arith, refl) in
    third_of (if_set flags 0 (Some (channel stored.channel))) (if_set flags 1 (option_map update stored.first))
    (if_set flags 2 (option_map update stored.second)) (node_1 nodes flags stored) (node_2 nodes flags stored) (update row) one

-- ---- flags

first_flag : (own peer : Rows) (id : ℕ)
    → nat_lt (timestamp_of (update_of own.updates id false)) (timestamp_of (update_of peer.updates id false)) ≡ true
    → (bit_at (flags_lacking own id (timestamps_of peer id)) 1 == 1) ≡ true
first_flag own peer id newer =
    by (channel_of own.channels id)
    (nat_lt (timestamp_of (update_of own.updates id true)) (timestamp_of (update_of peer.updates id true))) refl
  where
    by : (found : Option ChannelRow) (b : Bool)
        → nat_lt (timestamp_of (update_of own.updates id true)) (timestamp_of (update_of peer.updates id true)) ≡ b
        → (bit_at (flags_beside found own id (timestamps_of peer id)) 1 == 1) ≡ true
    by None b e = refl
    by (Some row) true e = rw (newer, e) refl
    by (Some row) false e = rw (newer, e) refl

second_flag : (own peer : Rows) (id : ℕ)
    → nat_lt (timestamp_of (update_of own.updates id true)) (timestamp_of (update_of peer.updates id true)) ≡ true
    → (bit_at (flags_lacking own id (timestamps_of peer id)) 2 == 1) ≡ true
second_flag own peer id newer =
    by (channel_of own.channels id)
    (nat_lt (timestamp_of (update_of own.updates id false)) (timestamp_of (update_of peer.updates id false))) refl
  where
    by : (found : Option ChannelRow) (b : Bool)
        → nat_lt (timestamp_of (update_of own.updates id false)) (timestamp_of (update_of peer.updates id false)) ≡ b
        → (bit_at (flags_beside found own id (timestamps_of peer id)) 2 == 1) ≡ true
    by None b e = refl
    by (Some row) true e = rw (newer, e) refl
    by (Some row) false e = rw (newer, e) refl

-- ---- the answer

-- a piece that is chosen is sent, unless it may repeat the announcement of a node
piece_sent : (chain : ChainHash) (own peer : Rows) (asked : List Lacking) (row : ChannelRow) (one : Piece)
    → IsStrictlySortedBy by_id peer.channels → Contains peer.channels row → IsToldLacking own peer asked row.message.short_channel_id
    → ((other : Piece) → are_of_one_node other one ≡ false)
    → Contains (chosen_of peer.nodes (flags_lacking own row.message.short_channel_id (timestamps_of peer row.message.short_channel_id))
    (stored_at peer row)) one
    → Contains (ids_reply chain peer (query_for chain asked)) (bytes_of one)
piece_sent chain own peer asked row one sorted held told apart at =
    let id = row.message.short_channel_id in
    let flags = flags_lacking own id (timestamps_of peer id) in
    let query = query_for chain asked in
    let found : channel_of peer.channels id ≡ Some row = row_found peer.channels row sorted held.0 held.1 held.2 in
    let picked : Contains (chosen peer (id, flags)) one = rw found at in
    let given = in_zip asked told.entry told.given.0 told.given.1 told.given.2 in
    let place : (told.entry.scid, told.entry.flags) ≡ (id, flags) =
    ap (λ (n : ℕ). (n, told.entry.flags)) told.channel ∙ ap (λ (n : ℕ). (id, n)) told.flags in
    let pair : Contains (zip query.ids (map (λ it. it.flags) asked)) (id, flags) =
    subst (λ (p : ℕ × ℕ). Contains (zip (map (λ it. it.scid) asked) (map (λ it. it.flags) asked)) p) place given in
    let piece : Contains (asked_for peer query) one = in_flat_map (chosen peer) _ (id, flags) one pair.0 pair.1 pair.2 picked in
    let kept = kept_once (asked_for peer query) one apart piece.0 piece.1 piece.2 in
    let sent = in_map bytes_of (with_nodes_once (asked_for peer query)) one kept.0 kept.1 kept.2 in
    let same : pointwise nat_eq chain.0 chain.0 ≡ true = (bytes_decides chain.0 chain.0).1 refl in
    rw same (Contains-append_left (messages_asked_for peer query) _ _ sent)

pub answered : (chain : ChainHash) (own peer : Rows) (asked : List Lacking) (row : ChannelRow) → IsAscending peer
    → Contains peer.channels row → IsToldLacking own peer asked row.message.short_channel_id
    → IsAnswered own peer (ids_reply chain peer (query_for chain asked)) row
answered chain own peer asked row ascend held told =
    let id = row.message.short_channel_id in
    let flags = flags_lacking own id (timestamps_of peer id) in
    let stored = stored_at peer row in
    record {
      channel = λ none.
          piece_sent chain own peer asked row (channel row) ascend.channels held told (channel_apart row)
          (channel_chosen peer.nodes flags stored (ap (λ (f : Option ChannelRow). flags_beside f own id (timestamps_of peer id)) none));
      first = λ one is newer.
          let later_one = subst (λ (u : Option UpdateRow). timestamp_of (update_of own.updates id false) < timestamp_of u) (sym is) newer in
          piece_sent chain own peer asked row (update one) ascend.channels held told (update_apart one)
          (first_chosen peer.nodes flags stored one (first_flag own peer id (lt-ltb _ _ later_one)) is);
      second = λ one is newer.
          let later_one = subst (λ (u : Option UpdateRow). timestamp_of (update_of own.updates id true) < timestamp_of u) (sym is) newer in
          piece_sent chain own peer asked row (update one) ascend.channels held told (update_apart one)
          (second_chosen peer.nodes flags stored one (second_flag own peer id (lt-ltb _ _ later_one)) is);
    }
