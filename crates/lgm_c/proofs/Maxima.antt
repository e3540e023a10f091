-- Edges that carry nothing, as C says them and as an overlay has them.
use Rattle.std.proofs.Common.{◌≡◌, ◌||◌, List, [], ◌∷◌, refl, ap}
use Rattle.std.specs.Prelude.{map, nat_eq}
use Rattle.std.specs.List.{list_any}
use Rattle.lgm_graph.specs.Overlay.{extra_edge}
use Rattle.lgm_c.specs.declared.overlay.LgmEdge.{LgmEdge}
use Rattle.lgm_c.specs.Attempts.{extra_given, lacks_maximum}

pub maxima : (edges : List LgmEdge)
    → list_any (λ edge. nat_eq edge.htlc_maximum_msat 0) edges ≡ list_any lacks_maximum (map (λ edge. extra_edge (extra_given edge)) edges)
maxima [] = refl
maxima (edge ∷ edges) = ap (λ b. nat_eq edge.htlc_maximum_msat 0 || b) (maxima edges)
