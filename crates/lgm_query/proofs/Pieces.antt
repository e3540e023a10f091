-- Lists of pieces with each node once.
use Rattle.std.proofs.Common.{◌≡◌, Bool, true, false, not, ◌||◌, List, [], ◌∷◌, ◌++◌, filter, refl, ap, ◌∙◌}
use Rattle.std.specs.Prelude.{if◌then◌else◌}
use Rattle.std.specs.List.{list_any}
use Rattle.std.proofs.lemmas.List.Elements.{filter-append}
use Rattle.lgm_query.specs.Piece.{Piece, are_of_one_node, with_nodes_once}

-- whether a piece announces the node of an earlier one
abbrev pub comes_again : List Piece → Piece → Bool
comes_again pieces piece = list_any (λ earlier. are_of_one_node earlier piece) pieces

-- a piece at the end: it is left out if its node's announcement came before
pub with_nodes_once-push : (pieces : List Piece) (piece : Piece)
    → with_nodes_once (pieces ++ piece ∷ []) ≡ with_nodes_once pieces ++ (if comes_again pieces piece then [] else piece ∷ [])
with_nodes_once-push [] piece = refl
with_nodes_once-push (first ∷ pieces) piece =
    ap (λ (rest : List Piece). first ∷ filter (λ other. not (are_of_one_node first other)) rest) (with_nodes_once-push pieces piece)
    ∙ ap (λ (rest : List Piece). first ∷ rest)
    (filter-append (λ other. not (are_of_one_node first other)) (with_nodes_once pieces) (if comes_again pieces piece then [] else piece ∷ [])
    ∙ ap (λ (rest : List Piece). filter (λ other. not (are_of_one_node first other)) (with_nodes_once pieces)
    ++ rest) (by (are_of_one_node first piece) refl (comes_again pieces piece)))
  where
    by : (b : Bool) → are_of_one_node first piece ≡ b → (d : Bool)
        → filter (λ other. not (are_of_one_node first other)) (if d then [] else piece ∷ [])
        ≡ (if are_of_one_node first piece || d then [] else piece ∷ [])
    by true is true = rw is refl
    by true is false = rw is refl
    by false is true = rw is refl
    by false is false = rw is refl
