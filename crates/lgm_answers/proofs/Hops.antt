-- Hops beside their payloads.
use Rattle.std.proofs.Common.{◌≡◌, ℕ, zero, suc, ◌+◌, ◌<◌, ◌≤◌, List, [], ◌∷◌, ◌++◌, length, drop, get_or, refl, add-one, arith}
use Rattle.std.specs.Prelude.{min}
use Rattle.lgm_graph.specs.declared.route.Hop.{Hop}
use Rattle.lgm_script.specs.Text.{hop_line}
use Rattle.lgm_answers.specs.Answer.{hops_text}

-- the text for the hops from a place on
abbrev pub hops_from : ℕ → List Hop → List (List ℕ) → ℕ → List ℕ
hops_from number hops payloads place = hops_text number (drop place hops) (drop place payloads)

hop_next : (number place : ℕ) (hops : List Hop) (payloads : List (List ℕ)) (hop : Hop) (payload : List ℕ)
    → place < length hops → place < length payloads
    → hop ≡ get_or hops place hop → payload ≡ get_or payloads place payload
    → hops_from number hops payloads place ≡ hop_line number hop.scid payload ++ hops_from number hops payloads (suc place)
hop_next number place [] payloads hop payload in_hops in_payloads hop_is payload_is = absurd (omega (arith, in_hops))
hop_next number place (h ∷ hs) [] hop payload in_hops in_payloads hop_is payload_is = absurd (omega (arith, in_payloads))
hop_next number zero (h ∷ hs) (p ∷ ps) hop payload in_hops in_payloads hop_is payload_is = rw (hop_is, payload_is) refl
hop_next number (suc place) (h ∷ hs) (p ∷ ps) hop payload in_hops in_payloads hop_is payload_is =
    hop_next number place hs ps hop payload (omega (arith, in_hops)) (omega (arith, in_payloads)) hop_is payload_is

-- the hop at a place, and those behind it
pub hop_there : (number place : ℕ) (hops : List Hop) (payloads : List (List ℕ)) (hop : Hop)
    (payload sent : List ℕ) → place < length hops → place < length payloads
    → hop ≡ get_or hops place hop → payload ≡ get_or payloads place payload → sent ≡ payload
    → hops_from number hops payloads place ≡ hop_line number hop.scid sent ++ hops_from number hops payloads (place + 1)
hop_there number place hops payloads hop payload sent in_hops in_payloads hop_is payload_is same =
    rw (add-one, same) (hop_next number place hops payloads hop payload in_hops in_payloads hop_is payload_is)

no_payloads : (number : ℕ) (hops : List Hop) → hops_text number hops [] ≡ []
no_payloads number [] = refl
no_payloads number (hop ∷ hops) = refl

pub hops_end : (number place : ℕ) (hops : List Hop) (payloads : List (List ℕ))
    → min (length hops) (length payloads) ≤ place → hops_from number hops payloads place ≡ []
hops_end number zero [] payloads past = refl
hops_end number (suc place) [] payloads past = refl
hops_end number zero (h ∷ hs) [] past = refl
hops_end number (suc place) (h ∷ hs) [] past = no_payloads number (drop place hs)
hops_end number zero (h ∷ hs) (p ∷ ps) past = absurd (omega (arith, past))
hops_end number (suc place) (h ∷ hs) (p ∷ ps) past = hops_end number place hs ps (omega (arith, past))
