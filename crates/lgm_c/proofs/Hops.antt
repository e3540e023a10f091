-- Hops with their payloads.
use Rattle.std.proofs.Common.{◌≡◌, ℕ, ◌+◌, ◌<◌, List, [], ◌∷◌, ◌++◌, length, take, get_or, sym, ap, ◌∙◌, arith}
use Rattle.std.specs.Prelude.{map, min}
use Rattle.std.specs.List.{zip}
use Rattle.std.proofs.lemmas.List.{map-append, take_more}
use Rattle.std.proofs.lemmas.Slice.Zip.{length-zip, get_or-zip}
use Rattle.std.proofs.Math.Seq.{take-length}
use Rattle.lgm_graph.specs.declared.route.Hop.{Hop}
use Rattle.lgm_c.specs.declared.routes.LgmHop.{LgmHop}
use Rattle.lgm_c.specs.Routing.{c_hop}

abbrev c_pair : Hop × List ℕ → LgmHop
c_pair pair = c_hop pair.0 pair.1

-- the first hops, each with its payload
abbrev pub first_hops : List Hop → List (List ℕ) → ℕ → List LgmHop
first_hops hops payloads count = map (λ (pair : Hop × List ℕ). c_hop pair.0 pair.1) (take count (zip hops payloads))

-- one more
pub one_more_hop : (hops : List Hop) (payloads : List (List ℕ)) (place : ℕ) (hop : Hop) (payload : List ℕ)
    → place < length hops → place < length payloads
    → hop ≡ get_or hops place hop → payload ≡ get_or payloads place payload
    → first_hops hops payloads (place + 1) ≡ first_hops hops payloads place ++ c_hop hop payload ∷ []
one_more_hop hops payloads place hop payload in_hops in_payloads hop_is payload_is =
    let pairs = zip hops payloads in
    let within : place < length pairs = omega (arith, length-zip hops payloads) in
    let pair : get_or pairs place (hop, payload) ≡ (hop, payload) = get_or-zip hops payloads place (hop, payload) in_hops in_payloads ∙ cc in
    ap (map c_pair) (take_more pairs place (hop, payload) within ∙ ap (λ p. take place pairs
    ++ p ∷ []) pair) ∙ map-append c_pair (take place pairs) ((hop, payload) ∷ [])

-- all of them
pub all_hops : (hops : List Hop) (payloads : List (List ℕ)) (count : ℕ) → count
    ≡ min (length hops) (length payloads) → first_hops hops payloads count ≡ map c_pair (zip hops payloads)
all_hops hops payloads count is =
    ap (map c_pair) (ap (λ n. take n (zip hops payloads)) (is ∙ sym (length-zip hops payloads))
    ∙ take-length (zip hops payloads))
