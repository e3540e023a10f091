-- Pieces that are sent one after the other.
use Rattle.std.proofs.Common.{◌≡◌, ℕ, Bool, true, false, ◌||◌, cond, List, [], ◌∷◌, ◌++◌, map, refl, sym, ap, ◌∙◌, append_assoc, arith}
use Rattle.std.specs.List.{list_any}
use Rattle.std.specs.Prelude.{Option, Some, None, Result, Ok, Err, OnOk}
use Rattle.std.specs.Option.{option_map, option_to_list}
use Rattle.std.proofs.lemmas.List.{append-nil, map-append}
use Rattle.std.proofs.lemmas.List.Folds.{list_any-append}
use Rattle.lgm_wire.specs.declared.point.Point.{Point}
use Rattle.lgm_check.specs.declared.row.ChannelRow.{ChannelRow}
use Rattle.lgm_check.specs.declared.row.UpdateRow.{UpdateRow}
use Rattle.lgm_check.specs.declared.row.NodeRow.{NodeRow}
use Rattle.lgm_store.specs.declared.channel_info.ChannelInfo.{ChannelInfo}
use Rattle.lgm_store.specs.Rows.{is_point, node_of}
use Rattle.lgm_store.proofs.Points.{same_point}
use Rattle.std.proofs.Math.Bool.{or-false}
use Rattle.lgm_query.specs.Piece.{Piece, channel, update, node, bytes_of, are_of_one_node, with_nodes_once}
use Rattle.lgm_query.specs.IdsReply.{if_set, chosen_of}
use Rattle.lgm_query.specs.inner.Sent.{Sent, is_of_node, Sends}
use Rattle.lgm_query.proofs.Pieces.{comes_again, with_nodes_once-push}

-- nothing more
pub Sends-none : (sent : Sent) → Sends [] sent sent
Sends-none sent pieces are = rw append-nil are

-- some pieces, and then others
pub Sends-then : (first second : List Piece) (a b c : Sent) → Sends first a b → Sends second b c → Sends (first ++ second) a c
Sends-then first second a b c to_b to_c pieces are =
    let all : (pieces ++ first) ++ second ≡ pieces ++ (first ++ second) = append_assoc pieces first second in
    rw all at (to_c (pieces ++ first) (to_b pieces are))

-- a piece that announces no node
plain : (piece : Piece) (old new : Sent) → ((pieces : List Piece) → comes_again pieces piece ≡ false) → ((p : Point) → is_of_node p piece ≡ false)
    → new.messages ≡ old.messages ++ bytes_of piece ∷ [] → new.nodes ≡ old.nodes → Sends (piece ∷ []) old new
plain piece old new no_node other_nodes message same pieces are = record {
  messages = message ∙ ap (λ (ms : List (List ℕ)). ms ++ bytes_of piece ∷ []) are.messages
      ∙ sym (map-append bytes_of (with_nodes_once pieces) (piece ∷ []))
      ∙ ap (map bytes_of) (sym (with_nodes_once-push pieces piece ∙ rw (no_node pieces) refl));
  nodes =
      λ point. ap (list_any (is_point point)) same ∙ are.nodes point
      ∙ sym (list_any-append (is_of_node point) pieces (piece ∷ [])
      ∙ rw (other_nodes point) (or_false (list_any (is_of_node point) pieces)));
}
  where
    or_false : (b : Bool) → (b || (false || false)) ≡ b
    or_false b = grind arith

not_again : (piece : Piece) → ((earlier : Piece) → are_of_one_node earlier piece ≡ false) → (pieces : List Piece) → comes_again pieces piece ≡ false
not_again piece apart [] = refl
not_again piece apart (earlier ∷ pieces) = rw (apart earlier, not_again piece apart pieces) refl

pub Sends-channel : (row : ChannelRow) (old new : Sent) → new.messages ≡ old.messages ++ row.raw ∷ []
    → new.nodes ≡ old.nodes → Sends (channel row ∷ []) old new
Sends-channel row old new message same = plain (channel row) old new (not_again (channel row) apart) (λ p. refl) message same
  where
    apart : (earlier : Piece) → are_of_one_node earlier (channel row) ≡ false
    apart (channel r) = refl
    apart (update r) = refl
    apart (node r) = refl

pub Sends-update : (row : UpdateRow) (old new : Sent) → new.messages ≡ old.messages ++ row.raw ∷ []
    → new.nodes ≡ old.nodes → Sends (update row ∷ []) old new
Sends-update row old new message same = plain (update row) old new (not_again (update row) apart) (λ p. refl) message same
  where
    apart : (earlier : Piece) → are_of_one_node earlier (update row) ≡ false
    apart (channel r) = refl
    apart (update r) = refl
    apart (node r) = refl

-- a node whose announcement was sent before
again : (row : NodeRow) (pieces : List Piece) → comes_again pieces (node row) ≡ list_any (is_of_node row.message.node_id) pieces
again row [] = refl
again row (channel r ∷ pieces) = again row pieces
again row (update r ∷ pieces) = again row pieces
again row (node r ∷ pieces) = ap (λ (b : Bool). is_point r.message.node_id row.message.node_id || b) (again row pieces)

-- the node is in the set after it
known : (row : NodeRow) (old new : Sent)
    → ((q : Point) → list_any (is_point q) new.nodes
    ≡ cond (is_point row.message.node_id q) true (list_any (is_point q) old.nodes))
    → (pieces : List Piece) → ((q : Point) → list_any (is_point q) old.nodes ≡ list_any (is_of_node q) pieces)
    → (q : Point) → list_any (is_point q) new.nodes ≡ list_any (is_of_node q) (pieces ++ node row ∷ [])
known row old new inserts pieces are q =
    inserts q
    ∙ by (is_point row.message.node_id q) refl (list_any (is_of_node q) pieces) (are q)
    ∙ sym (list_any-append (is_of_node q) pieces (node row ∷ []))
  where
    by : (b : Bool) → is_point row.message.node_id q ≡ b → (d : Bool) → list_any (is_point q) old.nodes ≡ d
        → cond (is_point row.message.node_id q) true (list_any (is_point q) old.nodes) ≡ (d || (b || false))
    by true is true old_is = rw is refl
    by true is false old_is = rw is refl
    by false is true old_is = rw (is, old_is) refl
    by false is false old_is = rw (is, old_is) refl

-- the row that is found at a point is that node's
found_node : (nodes : List NodeRow) (point : Point) (row : NodeRow) → node_of nodes point ≡ Some row → row.message.node_id ≡ point
found_node [] point row is = absurd cc
found_node (r ∷ rs) point row is = by (found_node rs point row) (is_point r.message.node_id point) refl is
  where
    by : (node_of rs point ≡ Some row → row.message.node_id ≡ point) → (b : Bool) → is_point r.message.node_id
        point ≡ b → cond (is_point r.message.node_id point) (Some r) (node_of rs point) ≡ Some row
        → row.message.node_id ≡ point
    by others true test is =
        let same : Some r ≡ Some row = rw test at is in
        let own : r ≡ row = cc in
        ap (λ (x : NodeRow). x.message.node_id) (sym own) ∙ same_point r.message.node_id point test
    by others false test is = others (rw test at is)

-- the announcement of a node that wasn't sent yet
Sends-new_node : (nodes : List NodeRow) (row : NodeRow) (point : Point) (keys : List Point) (old new : Sent)
    → Some row ≡ node_of nodes point → old.nodes ≡ keys
    → list_any (is_point point) keys ≡ false
    → ((q : Point) → list_any (is_point q) new.nodes ≡ cond (is_point point q) true (list_any (is_point q) keys))
    → new.messages ≡ old.messages ++ row.raw ∷ [] → Sends (option_to_list (option_map node (node_of nodes point))) old new
Sends-new_node nodes row point keys old new stored were absent inserts message =
    let own : row.message.node_id ≡ point = found_node nodes point row (sym stored) in
    let absent' : list_any (is_point row.message.node_id) old.nodes ≡ false = rw (were, own) absent in
    let inserts' : (q : Point) → list_any (is_point q) new.nodes
    ≡ cond (is_point row.message.node_id q) true (list_any (is_point q) old.nodes) =
    λ q. rw (were, own) (inserts q) in
    rw (← stored) (λ pieces are. record {
      messages = message ∙ ap (λ (ms : List (List ℕ)). ms ++ row.raw ∷ []) are.messages
          ∙ sym (map-append bytes_of (with_nodes_once pieces) (node row ∷ []))
          ∙ ap (map bytes_of) (sym (with_nodes_once-push pieces (node row) ∙ rw (again row pieces, ← are.nodes row.message.node_id, absent') refl));
      nodes = known row old new inserts' pieces are.nodes;
    })

-- that of one that was, if it is in the map
pub Sends-known_node : (nodes : List NodeRow) (point : Point) (keys : List Point) (old new : Sent)
    → old.nodes ≡ keys → list_any (is_point point) keys ≡ true → new ≡ old
    → Sends (option_to_list (option_map node (node_of nodes point))) old new
Sends-known_node nodes point keys old new were present same = rw same (by (node_of nodes point) refl)
  where
    here : list_any (is_point point) old.nodes ≡ true
    here = rw were present

    none_more : (row : NodeRow) (pieces : List Piece) → list_any (is_of_node row.message.node_id) pieces
        ≡ true → (q : Point) (b : Bool) → is_point row.message.node_id q ≡ b
        → list_any (is_of_node q) pieces ≡ (list_any (is_of_node q) pieces || (is_point row.message.node_id q || false))
    none_more row pieces sent q true is =
        let same : row.message.node_id ≡ q = same_point row.message.node_id q is in
        let there : list_any (is_of_node q) pieces ≡ true = rw (← same) sent in
        rw (there) refl
    none_more row pieces sent q false is = rw is (sym (or-false (list_any (is_of_node q) pieces)))

    by : (o : Option NodeRow) → node_of nodes point ≡ o → Sends (option_to_list (option_map node o)) old old
    by None is = Sends-none old
    by (Some row) is =
        let own : row.message.node_id ≡ point = found_node nodes point row is in
        λ pieces are.
        let sent : list_any (is_of_node row.message.node_id) pieces ≡ true = sym (are.nodes row.message.node_id) ∙ rw own here in
        record {
          messages =
              are.messages ∙ ap (map bytes_of) (sym (with_nodes_once-push pieces (node row)
              ∙ rw (again row pieces, sent) (append-nil (with_nodes_once pieces))));
          nodes =
              λ q. are.nodes q ∙ none_more row pieces sent q (is_point row.message.node_id q) refl
              ∙ sym (list_any-append (is_of_node q) pieces (node row ∷ []));
        }

-- a message that is appended
pub OnOk-channel : {E : Type 0} (r : Result (Unit {0}) E) (row : ChannelRow) (raw : List ℕ) (old new : Sent) → raw ≡ row.raw
    → OnOk r (new.messages ≡ old.messages ++ raw ∷ []) → OnOk r (new.nodes ≡ old.nodes) → OnOk r (Sends (channel row ∷ []) old new)
OnOk-channel (Ok u) row raw old new is message same = Sends-channel row old new (rw is at message) same
OnOk-channel (Err e) row raw old new is message same = tt

pub OnOk-update : {E : Type 0} (r : Result (Unit {0}) E) (raw : List ℕ) (found : Option UpdateRow)
    (old new : Sent) → Some raw ≡ option_map (λ (row : UpdateRow). row.raw) found
    → OnOk r (new.messages ≡ old.messages ++ raw ∷ []) → OnOk r (new.nodes ≡ old.nodes)
    → OnOk r (Sends (option_to_list (option_map update found)) old new)
OnOk-update (Ok u) raw None old new stored message same = absurd cc
OnOk-update (Ok u) raw (Some row) old new stored message same = let is : raw ≡ row.raw = cc in Sends-update row old new (rw is at message) same
OnOk-update (Err e) raw found old new stored message same = tt

pub OnOk-node : {E : Type 0} (r : Result (Unit {0}) E) (nodes : List NodeRow) (row : NodeRow) (raw : List ℕ)
    (point : Point) (keys inserted : List Point) (old mid new : Sent) → Some row ≡ node_of nodes point
    → raw ≡ row.raw
    → old.nodes ≡ keys → list_any (is_point point) keys ≡ false
    → ((q : Point) → list_any (is_point q) inserted ≡ cond (is_point point q) true (list_any (is_point q) keys))
    → mid.messages ≡ old.messages → mid.nodes ≡ inserted → OnOk r (new.messages ≡ mid.messages ++ raw ∷ []) → OnOk r (new.nodes ≡ mid.nodes)
    → OnOk r (Sends (option_to_list (option_map node (node_of nodes point))) old new)
OnOk-node (Ok u) nodes row raw point keys inserted old mid new stored is were absent inserts kept with message same =
    Sends-new_node nodes row point keys old new stored were absent (λ q. ap (list_any (is_point q)) (same ∙ with) ∙ inserts q)
    ((rw is at message) ∙ ap (λ (ms : List (List ℕ)). ms ++ row.raw ∷ []) kept)
OnOk-node (Err e) nodes row raw point keys inserted old mid new stored is were absent inserts kept with message same = tt

-- what the five bits select
pub Sends-chosen : (nodes : List NodeRow) (flags : ℕ) (stored : ChannelInfo) (a b c d e f : Sent)
    → Sends (if_set flags 0 (Some (channel stored.channel))) a b
    → Sends (if_set flags 1 (option_map update stored.first)) b c
    → Sends (if_set flags 2 (option_map update stored.second)) c d
    → Sends (if_set flags 3 (option_map node (node_of nodes stored.channel.message.node_id_1))) d e
    → Sends (if_set flags 4 (option_map node (node_of nodes stored.channel.message.node_id_2))) e f
    → Sends (chosen_of nodes flags stored) a f
Sends-chosen nodes flags stored a b c d e f announcement update_1 update_2 node_1 node_2 =
    Sends-then _ _ a e f (Sends-then _ _ a d e (Sends-then _ _ a c d (Sends-then _ _ a b c announcement update_1) update_2) node_1) node_2
