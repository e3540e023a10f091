-- The news of pairs.
use Rattle.std.proofs.Common.{◌≡◌, ℕ, List, [], ◌∷◌, ◌++◌, ap, ◌∙◌, append_assoc, append-nil}
use Rattle.std.specs.List.{flat_map}
use Rattle.std.proofs.lemmas.List.Concat.{flat_map-append}
use Rattle.lgm_store.specs.Rows.{Rows}
use Rattle.lgm_query.specs.declared.filter.Filter.{Filter}
use Rattle.lgm_query.specs.declared.pairs.ChannelPair.{ChannelPair}
use Rattle.lgm_query.specs.KeyNews.{news_of_channel}
use Rattle.lgm_query.specs.inner.Pairs.{news_of_channel_pair}

-- one more pair gives what was left to its id
pub one_more_pair : (f : Filter) (before after : Rows) (pairs : List ChannelPair) (pair : ChannelPair) (id : ℕ) (ids : List ℕ)
    → news_of_channel_pair f pair ≡ news_of_channel f before after id
    → flat_map (news_of_channel_pair f) (pairs ++ pair ∷ []) ++ flat_map (news_of_channel f before after) ids
    ≡ flat_map (news_of_channel_pair f) pairs ++ flat_map (news_of_channel f before after) (id ∷ ids)
one_more_pair f before after pairs pair id ids same =
    let told = flat_map (news_of_channel_pair f) pairs in
    let left = flat_map (news_of_channel f before after) ids in
    let more : List (List ℕ) → List (List ℕ) = λ messages. (told ++ messages) ++ left in
    ap (λ (messages : List (List ℕ)). messages ++ left) (flat_map-append (news_of_channel_pair f) pairs (pair ∷ []))
    ∙ ap more (append-nil (news_of_channel_pair f pair) ∙ same)
    ∙ append_assoc told (news_of_channel f before after id) left

-- in any lists: one more element gives what was left to its key
pub one_more : {P K : Type 0} (told : P → List (List ℕ)) (left : K → List (List ℕ)) (pairs : List P) (pair : P) (key : K) (keys : List K)
    → told pair ≡ left key
    → flat_map told (pairs ++ pair ∷ []) ++ flat_map left keys ≡ flat_map told pairs ++ flat_map left (key ∷ keys)
one_more told left pairs pair key keys same =
    let more : List (List ℕ) → List (List ℕ) = λ messages. (flat_map told pairs ++ messages) ++ flat_map left keys in
    ap (λ (messages : List (List ℕ)). messages ++ flat_map left keys) (flat_map-append told pairs (pair ∷ []))
    ∙ ap more (append-nil (told pair) ∙ same)
    ∙ append_assoc (flat_map told pairs) (left key) (flat_map left keys)

-- and a key to which nothing was left needs none
pub none_more : {P K : Type 0} (told : P → List (List ℕ)) (left : K → List (List ℕ)) (pairs : List P) (key : K) (keys : List K)
    → [] ≡ left key → flat_map told pairs ++ flat_map left keys ≡ flat_map told pairs ++ flat_map left (key ∷ keys)
none_more told left pairs key keys none = ap (λ (messages : List (List ℕ)). flat_map told pairs ++ (messages ++ flat_map left keys)) none
