-- What is requested, index by index.
use Rattle.std.proofs.Common.{◌≡◌, ℕ, ◌+◌, ◌≤◌, ◌<◌, List, [], ◌∷◌, ◌++◌, length, take, get_or, Option, Some, None, refl, ap, ◌∙◌, arith}
use Rattle.std.specs.List.{flat_map, zip}
use Rattle.std.specs.Option.{ForSome}
use Rattle.std.proofs.lemmas.List.{append-nil, length-map, take_all, take_more}
use Rattle.std.proofs.lemmas.Grind.{flat_map-append}
use Rattle.std.proofs.lemmas.Slice.Zip.{length-zip, get_or-zip}
use Rattle.lgm_gossip.specs.IdsQuery.{Query}
use Rattle.lgm_store.specs.Rows.{Rows}
use Rattle.lgm_query.specs.IdsReply.{chosen, flags_of, messages_asked_for}
use Rattle.lgm_query.specs.inner.Sent.{Sent, AreSent, Sends}

-- there are as many flags as ids
pub length-flags_of : (query : Query) → ForSome query.flags (λ flags. length flags ≡ length query.ids) → length (flags_of query) ≡ length query.ids
length-flags_of query one_each = by query.flags refl
  where
    by : (flags : Option (List ℕ)) → query.flags ≡ flags → length (flags_of query) ≡ length query.ids
    by None is = rw is (length-map query.ids (λ id. 31))
    by (Some flags) is = rw is (one_each flags is)

-- one more index
pub AreSent-more : (rows : Rows) (query : Query) (i id flags : ℕ) (old new : Sent) → i < length query.ids → length (flags_of query) ≡ length query.ids
    → id ≡ get_or query.ids i 0 → flags ≡ get_or (flags_of query) i 0
    → AreSent (flat_map (chosen rows) (take i (zip query.ids (flags_of query)))) old → Sends (chosen rows (id, flags)) old new
    → AreSent (flat_map (chosen rows) (take (i + 1) (zip query.ids (flags_of query)))) new
AreSent-more rows query i id flags old new within same_len id_is flags_is are sends =
    let within_zip : i < length (zip query.ids (flags_of query)) = omega (arith, length-zip query.ids (flags_of query)) in
    let within_flags : i < length (flags_of query) = omega arith in
    let place : get_or (zip query.ids (flags_of query)) i (0, 0) ≡ (id, flags) =
    get_or-zip query.ids (flags_of query) i (0, 0) within within_flags ∙ rw (id_is, flags_is) refl in
    let more : flat_map (chosen rows) (take (i + 1) (zip query.ids (flags_of query)))
    ≡ flat_map (chosen rows) (take i (zip query.ids (flags_of query))) ++ chosen rows (id, flags) =
    ap (flat_map (chosen rows)) (take_more (zip query.ids (flags_of query)) i (0, 0) within_zip)
    ∙ flat_map-append (chosen rows) (take i (zip query.ids (flags_of query))) (get_or (zip query.ids (flags_of query)) i (0, 0) ∷ [])
    ∙ ap (λ (place : ℕ × ℕ). flat_map (chosen rows) (take i (zip query.ids (flags_of query))) ++ (chosen rows place ++ [])) place
    ∙ ap (λ (last : _). flat_map (chosen rows) (take i (zip query.ids (flags_of query))) ++ last) (append-nil (chosen rows (id, flags))) in
    rw more (sends _ are)

-- all indices
pub messages-all : (rows : Rows) (query : Query) (i : ℕ) (sent : Sent) → length query.ids ≤ i
    → AreSent (flat_map (chosen rows) (take i (zip query.ids (flags_of query)))) sent → sent.messages ≡ messages_asked_for rows query
messages-all rows query i sent all are =
    let whole : take i (zip query.ids (flags_of query)) ≡ zip query.ids (flags_of query) =
    take_all i (zip query.ids (flags_of query)) (omega (arith, length-zip query.ids (flags_of query))) in
    rw whole at are.messages
