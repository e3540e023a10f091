-- Lists that nodes have of their own, or that are lent to them.
use Rattle.std.proofs.Common.{◌≡◌, ℕ, ◌-◌, ◌<◌, ◌≤◌, true, false, List, length, map, get_or, zero, suc}
use Rattle.std.proofs.Common.{refl, sym, ap, ◌∙◌, arith}
use Rattle.std.specs.Prelude.{unwrap_or, nat_lt}
use Rattle.std.proofs.lemmas.List.{length-map}
use Rattle.std.proofs.lemmas.Bool.{ltb-true, ltb-false}
use Rattle.std.proofs.lemmas.Option.{unwrap_or-slice_get, slice_get_past}
use Rattle.lgm_graph.specs.declared.edge.Edge.{Edge}
use Rattle.lgm_graph.specs.declared.overlay_view.lists.Edges.{Edges}
use Rattle.lgm_graph.specs.inner.Overlaying.{edges_in, list_or}
use Rattle.lgm_graph.proofs.Places.{get_map}

pub own_list : (own : List Edges) (place : ℕ) (lent : List Edge) (list : Edges) → (place ≡ 0 → ⊥) → true ≡ nat_lt (place - 1) (length own)
    → list ≡ get_or own (place - 1) list → list_or (map edges_in own) place lent ≡ edges_in list
own_list own zero lent list some lt is = absurd (some refl)
own_list own (suc k) lent list some lt is =
    let here : suc k - 1 ≡ k = omega arith in
    let within : k < length own = rw here at (ltb-true (suc k - 1) (length own) (sym lt)) in
    unwrap_or-slice_get (map edges_in own) k lent ∙ get_map edges_in own k list lent within
    ∙ ap edges_in (ap (λ n. get_or own n list) (sym here) ∙ sym is)

pub lent_list : (own : List Edges) (place : ℕ) (lent : List Edge) → false ≡ nat_lt (place - 1) (length own) → list_or (map edges_in own) place lent ≡ lent
lent_list own zero lent past = refl
lent_list own (suc k) lent past =
    let here : suc k - 1 ≡ k = omega arith in
    let le : length own ≤ k = rw here at (ltb-false (suc k - 1) (length own) (sym past)) in
    let long : length (map edges_in own) ≤ k = omega (arith, le, length-map own edges_in) in
    ap (λ o. unwrap_or o lent) (slice_get_past (map edges_in own) k long)
