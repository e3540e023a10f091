-- Where signatures stand.
use Rattle.std.proofs.Common.{◌≡◌, ℕ, ◌+◌, List, [], ◌∷◌, ◌++◌, length, take, drop, refl, sym, ap, ◌∙◌, append_assoc, arith}
use Rattle.std.specs.List.{flat_map}
use Rattle.std.specs.Int.{w16, to_be_bytes}
use Rattle.std.proofs.lemmas.List.{take_at, drop_at, take-append-drop, length-append}
use Rattle.lgm_gossip.specs.declared.message.Message.{Message}
use Rattle.lgm_gossip.specs.declared.message.Message.TheVariants as messages
use Rattle.lgm_gossip.specs.Message.{Wire}
use Rattle.lgm_sync.specs.SignedMessage.{signatures_of, IsSigned}

-- two bytes, some of a length, and the rest
parts : (type signed rest : List ℕ) (k : ℕ) (b : List ℕ) → length type ≡ 2 → length signed ≡ k → b ≡ type ++ (signed ++ rest)
    → b ≡ take 2 b ++ (signed ++ drop (2 + k) b)
parts type signed rest k b two long whole =
    let front : take 2 b ≡ type = ap (take 2) whole ∙ take_at type (signed ++ rest) 2 two in
    let len : length (type ++ signed) ≡ 2 + k = omega (arith, length-append type signed) in
    let apart : b ≡ (type ++ signed) ++ rest = whole ∙ sym (append_assoc type signed rest) in
    let back : drop (2 + k) b ≡ rest = ap (drop (2 + k)) apart ∙ drop_at (type ++ signed) rest (2 + k) len in
    cc

-- one signature, and four
one_whole : (type a body rest b : List ℕ) → b ≡ type ++ body → body ≡ a ++ rest
    → b ≡ type ++ (flat_map (λ signature. signature) (a ∷ []) ++ rest)
one_whole type a body rest b whole at = whole ∙ ap (λ xs. type ++ xs) at ∙ simp append_assoc

one_long : (a : List ℕ) → length a ≡ 64 → length (flat_map (λ signature. signature) (a ∷ [])) ≡ 64
one_long a long = omega (arith, length-append a [])

four_long : (a b c d : List ℕ) → length a ≡ 64 → length b ≡ 64 → length c ≡ 64 → length d ≡ 64
    → length (flat_map (λ signature. signature) (a ∷ b ∷ c ∷ d ∷ [])) ≡ 256
four_long a b c d la lb lc ld =
    omega (arith, length-append a (b ++ (c ++ (d ++ []))), length-append b (c ++ (d ++ [])), length-append c (d ++ []), length-append d [])

four_whole : (type a b c d rest : List ℕ) (bytes body behind_a behind_b behind_c : List ℕ) → bytes ≡ type ++ body
    → body ≡ a ++ behind_a → behind_a ≡ b ++ behind_b → behind_b ≡ c ++ behind_c → behind_c ≡ d ++ rest
    → bytes ≡ type ++ (flat_map (λ signature. signature) (a ∷ b ∷ c ∷ d ∷ []) ++ rest)
four_whole type a b c d rest bytes body behind_a behind_b behind_c whole ea eb ec ed =
    whole ∙ ap (λ xs. type ++ xs) (ea ∙ ap (λ xs. a ++ xs) (eb ∙ ap (λ xs. b ++ xs) (ec ∙ ap (λ xs. c ++ xs) ed))) ∙ simp append_assoc

none : (bytes : List ℕ) → bytes ≡ take 2 bytes ++ ([] ++ drop 2 bytes)
none bytes = sym (take-append-drop 2 bytes)

pub signed : (message : Message) (bytes : List ℕ) → Wire message bytes → IsSigned message bytes
signed (messages.Announce m) bytes wire =
    let f1 = wire.fields in
    let f2 = f1.back_is in
    let f3 = f2.back_is in
    let f4 = f3.back_is in
    let long = four_long m.node_signature_1 m.node_signature_2 m.bitcoin_signature_1 m.bitcoin_signature_2
    f1.front_is.1 f2.front_is.1 f3.front_is.1 f4.front_is.1 in
    let whole = four_whole (to_be_bytes w16 256) m.node_signature_1 m.node_signature_2 m.bitcoin_signature_1 m.bitcoin_signature_2 f4.back
    bytes wire.body f1.back f2.back f3.back wire.whole
    (f1.whole ∙ ap (λ xs. xs ++ f1.back) f1.front_is.0) (f2.whole ∙ ap (λ xs. xs ++ f2.back) f2.front_is.0)
    (f3.whole ∙ ap (λ xs. xs ++ f3.back) f3.front_is.0) (f4.whole ∙ ap (λ xs. xs ++ f4.back) f4.front_is.0) in
    record {
      whole = parts (to_be_bytes w16 256) (flat_map (λ signature. signature) (signatures_of (messages.Announce m))) f4.back 256 bytes refl long whole;
      long = (f1.front_is.1, (f2.front_is.1, (f3.front_is.1, (f4.front_is.1, tt))));
      count = refl;
    }
signed (messages.NodeAnnounce m) bytes wire =
    let f = wire.fields in
    let whole = one_whole (to_be_bytes w16 257) m.signature wire.body f.back bytes wire.whole
    (f.whole ∙ ap (λ xs. xs ++ f.back) f.front_is.0) in
    record {
      whole = parts (to_be_bytes w16 257) (flat_map (λ signature. signature) (m.signature ∷ [])) f.back 64 bytes refl (one_long m.signature f.front_is.1) whole;
      long = (f.front_is.1, tt);
      count = refl;
    }
signed (messages.ChannelUpdate m) bytes wire =
    let f = wire.fields in
    let whole = one_whole (to_be_bytes w16 258) m.signature wire.body f.back bytes wire.whole
    (f.whole ∙ ap (λ xs. xs ++ f.back) f.front_is.0) in
    record {
      whole = parts (to_be_bytes w16 258) (flat_map (λ signature. signature) (m.signature ∷ [])) f.back 64 bytes refl (one_long m.signature f.front_is.1) whole;
      long = (f.front_is.1, tt);
      count = refl;
    }
signed (messages.IdsQuery m) bytes wire = record { whole = none bytes; long = tt; count = refl }
signed (messages.IdsEnd m) bytes wire = record { whole = none bytes; long = tt; count = refl }
signed (messages.RangeQuery m) bytes wire = record { whole = none bytes; long = tt; count = refl }
signed (messages.RangeReply m) bytes wire = record { whole = none bytes; long = tt; count = refl }
signed (messages.FilterMsg m) bytes wire = record { whole = none bytes; long = tt; count = refl }
