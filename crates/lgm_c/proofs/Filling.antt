-- Buffers that are filled from the front, and payloads that fit them.
use Rattle.std.proofs.Common.{◌≡◌, ◌∙◌, ℕ, ◌+◌, ◌<◌, ◌≤◌, suc, zero, List, [], ◌∷◌, ◌++◌, length, take, drop, get_or, sym, ap, append_assoc, arith, length-append, length-drop}
use borrow.Rule.Slice.PartMut.{put_mid}
use Rattle.std.specs.Prelude.{set, min, map, ◌-◌}
use Rattle.std.specs.List.{zip}
use Rattle.std.proofs.lemmas.List.{set_at, take_at, drop_at, drop_more, drop-drop, drop_all, take_rest, append-nil, length_push, length-map, length-take-le, map-append, flat_map_more, take_more}
use Rattle.std.proofs.lemmas.Slice.Zip.{length-zip}
use Rattle.lgm_graph.specs.declared.route.Hop.{Hop}
use Rattle.lgm_payload.specs.Building.{onion_len}
use Rattle.lgm_c.specs.Routing.{c_hop, c_hops, all_payloads}
use Rattle.lgm_c.specs.declared.routes.LgmLengths.{LgmLengths}
use Rattle.lgm_c.specs.Writing.{in_front}
use Rattle.lgm_c.proofs.Hops.{first_hops}

-- one more item is in front
pub put_more : {A : Type 0} (xs room : List A) (n : ℕ) (x d : A) → length xs ≡ n → n < length room
    → set (in_front xs room) n x ≡ in_front (xs ++ x ∷ []) room
put_more xs room n x d is fits =
    let rest = drop (length xs + 1) room in
    let within : length xs < length room = omega (arith, is) in
    ap (λ all. set (xs ++ all) n x) (drop_more room (length xs) d within)
    ∙ set_at xs (get_or room (length xs) d) rest x n is
    ∙ sym (append_assoc xs (x ∷ []) rest)
    ∙ ap (λ m. (xs ++ x ∷ []) ++ drop m room) (sym (length_push xs x))

-- more items are
pub copy_more : {A : Type 0} (xs ys room : List A) (n : ℕ) → length xs ≡ n
    → take n (in_front xs room) ++ in_front ys (drop n (in_front xs room)) ≡ in_front (xs ++ ys) room
copy_more xs ys room n is =
    let rest = drop (length xs) room in
    ap (λ first. first ++ in_front ys (drop n (in_front xs room))) (take_at xs rest n is)
    ∙ ap (λ all. xs ++ in_front ys all) (drop_at xs rest n is)
    ∙ ap (λ all. xs ++ (ys ++ all)) (drop-drop (length ys) (length xs) room)
    ∙ sym (append_assoc xs ys (drop (length xs + length ys) room))
    ∙ ap (λ m. (xs ++ ys) ++ drop m room) (sym (length-append xs ys))

-- they were copied to the rest of a buffer, behind those in front
pub fill_more : {A : Type 0} (xs ys room now : List A) (n : ℕ) → length xs ≡ n → now ≡ in_front xs room
    → put_mid n (length now - n) now (in_front ys (take (length now - n) (drop n now))) ≡ in_front (xs ++ ys) room
fill_more xs ys room now n is written =
    let none : drop (length now - n) (drop n now) ≡ [] = drop_all (length now - n) (drop n now) (omega (arith, length-drop n now)) in
    ap (λ mid. take n now ++ (in_front ys mid ++ drop (length now - n) (drop n now))) (take_rest now n)
    ∙ ap (λ last. take n now ++ (in_front ys (drop n now) ++ last)) none
    ∙ ap (λ all. take n now ++ all) (append-nil (in_front ys (drop n now)))
    ∙ ap (λ all. take n all ++ in_front ys (drop n all)) written
    ∙ copy_more xs ys room n is

-- the first payloads have no more bytes than all
pub first_fit : (n : ℕ) (payloads : List (List ℕ)) → length (all_payloads (take n payloads)) ≤ length (all_payloads payloads)
first_fit zero payloads = omega arith
first_fit (suc n) [] = omega arith
first_fit (suc n) (payload ∷ payloads) =
    omega (arith, length-append payload (all_payloads (take n payloads)), length-append payload (all_payloads payloads), first_fit n payloads)

-- payloads have no more bytes than they take in an onion packet
pub onion_fits : (payloads : List (List ℕ)) → length (all_payloads payloads) ≤ onion_len payloads
onion_fits [] = omega arith
onion_fits (payload ∷ payloads) = omega (arith, length-append payload (all_payloads payloads), onion_fits payloads)

-- one more payload
pub one_more_payload : (payloads : List (List ℕ)) (n : ℕ) (payload : List ℕ) → n < length payloads → payload ≡ get_or payloads n payload
    → all_payloads (take (n + 1) payloads) ≡ all_payloads (take n payloads) ++ payload
one_more_payload payloads n payload within is =
    ap all_payloads (take_more payloads n payload within ∙ ap (λ p. take n payloads ++ p ∷ []) (sym is))
    ∙ sym (flat_map_more (λ (p : List ℕ). p) [] (take n payloads) payload)

-- there are as many hops as payloads and channels
pub hops_length : (hops : List Hop) (payloads : List (List ℕ)) → length (c_hops hops payloads) ≡ min (length hops) (length payloads)
hops_length hops payloads =
    length-map (zip hops payloads) (λ (pair : Hop × List ℕ). c_hop pair.0 pair.1) ∙ length-zip hops payloads

-- the first hops are as many
pub first_length : (hops : List Hop) (payloads : List (List ℕ)) (count : ℕ) → count ≤ length hops → count ≤ length payloads
    → length (first_hops hops payloads count) ≡ count
first_length hops payloads count in_hops in_payloads =
    length-map (take count (zip hops payloads)) (λ (pair : Hop × List ℕ). c_hop pair.0 pair.1)
    ∙ length-take-le count (zip hops payloads) (omega (arith, length-zip hops payloads))

pub first_mapped : {A B : Type 0} (f : A → B) (xs : List A) (count : ℕ) → count ≤ length xs → length (map f (take count xs)) ≡ count
first_mapped f xs count within = length-map (take count xs) f ∙ length-take-le count xs within

-- one more, mapped
pub one_more_mapped : {A B : Type 0} (f : A → B) (xs : List A) (place : ℕ) (x : A) → place < length xs → x ≡ get_or xs place x
    → map f (take place xs) ++ f x ∷ [] ≡ map f (take (place + 1) xs)
one_more_mapped f xs place x within is =
    sym (ap (map f) (take_more xs place x within ∙ ap (λ h. take place xs ++ h ∷ []) (sym is))
    ∙ map-append f (take place xs) (x ∷ []))

pub same_lengths : (hops payloads hops' payloads' : ℕ) → hops ≡ hops' → payloads ≡ payloads'
    → let one : LgmLengths = record { hops = hops; payloads = payloads } in
    let other : LgmLengths = record { hops = hops'; payloads = payloads' } in one ≡ other
same_lengths hops payloads hops' payloads' one two =
    ap (λ n. let it : LgmLengths = record { hops = n; payloads = payloads } in it) one
    ∙ ap (λ n. let it : LgmLengths = record { hops = hops'; payloads = n } in it) two
