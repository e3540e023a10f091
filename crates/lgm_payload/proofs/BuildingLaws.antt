-- The payloads of a route: all but the last depend on the next hop.
use Rattle.std.proofs.Common.{◌≡◌, ℕ, suc, ◌+◌, ◌-◌, ◌<◌, ◌≤◌, List, [], ◌∷◌, ◌++◌, length, get_or, take, drop, map}
use Rattle.std.proofs.Common.{refl, sym, ap, ◌∙◌, arith}
use Rattle.std.proofs.lemmas.List.{take_more, take_all, map-append, length-drop}
use Rattle.lgm_graph.specs.declared.route.Hop.{Hop}
use Rattle.lgm_payload.specs.HopPayload.{payload_bytes}
use Rattle.lgm_payload.specs.Arrival.{ArrivalParts, whole_arrival, arrival_for, payload_with}
use Rattle.lgm_payload.specs.Building.{forward, arrival, payloads_of, payloads_for}

abbrev pub forwarded : List Hop → List (List ℕ)
forwarded hops = map (λ next. payload_bytes (forward next)) hops

-- one more hop
pub forwarded_more : (hops : List Hop) (i : ℕ) (d : Hop) (texts after : List (List ℕ)) (text : List ℕ)
    → i < length hops → texts ≡ forwarded (take i hops) → text ≡ payload_bytes (forward (get_or hops i d))
    → after ≡ texts ++ text ∷ [] → after ≡ forwarded (take (i + 1) hops)
forwarded_more hops i d texts after text lt so_far is made =
    made ∙ rw (so_far, is) (sym (ap forwarded (take_more hops i d lt)
    ∙ map-append (λ next. payload_bytes (forward next)) (take i hops) (get_or hops i d ∷ [])))

-- the payloads before the last one, and the last one
payloads_for_is : (arrival : ArrivalParts) (hops : List Hop) (d : Hop) → 1 ≤ length hops
    → payloads_for arrival hops
    ≡ forwarded (drop 1 hops) ++ payload_with (arrival_for arrival (get_or hops (length hops - 1) d)) arrival.records ∷ []
payloads_for_is arrival [] d some = absurd (omega arith)
payloads_for_is arrival (hop ∷ []) d some = refl
payloads_for_is arrival (hop ∷ next ∷ hops) d some =
    let place : length (hop ∷ next ∷ hops) - 1 ≡ suc (length (next ∷ hops) - 1) = omega arith in
    ap (λ (l : List (List ℕ)). payload_bytes (forward next) ∷ l) (payloads_for_is arrival (next ∷ hops) d (omega arith)) ∙ rw place refl

-- and the last one is written behind the others
pub payloads_all : (arrival : ArrivalParts) (hops : List Hop) (i : ℕ) (d : Hop) (texts after : List (List ℕ)) (text : List ℕ) → 1 ≤ length hops
    → length (take (length hops - 1) (drop 1 hops)) ≤ i → texts ≡ forwarded (take i (take (length hops - 1) (drop 1 hops)))
    → text ≡ payload_with (arrival_for arrival (get_or hops (length hops - 1) d)) arrival.records
    → after ≡ texts ++ text ∷ [] → after ≡ payloads_for arrival hops
payloads_all arrival hops i d texts after text some le so_far is made =
    let behind : take (length hops - 1) (drop 1 hops) ≡ drop 1 hops = take_all (length hops - 1) (drop 1 hops) (omega (arith, length-drop 1 hops)) in
    let all : take i (take (length hops - 1) (drop 1 hops)) ≡ drop 1 hops = take_all i (take (length hops - 1) (drop 1 hops)) le ∙ behind in
    made ∙ rw (so_far, is, all) (sym (payloads_for_is arrival hops d some))

-- ---- a payment in one part

pub payloads_for-whole : (secret : List ℕ) (hops : List Hop) (last d : Hop) → 1 ≤ length hops → last ≡ get_or hops (length hops - 1) d
    → payloads_for (whole_arrival secret last) hops ≡ payloads_of secret hops
payloads_for-whole secret [] last d some is = absurd (omega arith)
payloads_for-whole secret (hop ∷ []) last d some is = rw is refl
payloads_for-whole secret (hop ∷ next ∷ hops) last d some is =
    let place : length (hop ∷ next ∷ hops) - 1 ≡ suc (length (next ∷ hops) - 1) = omega arith in
    let here : last ≡ get_or (next ∷ hops) (length (next ∷ hops) - 1) d = is ∙ ap (λ n. get_or (hop ∷ next ∷ hops) n d) place in
    ap (λ (l : List (List ℕ)). payload_bytes (forward next) ∷ l) (payloads_for-whole secret (next ∷ hops) last d (omega arith) here)
