-- `of` takes over the box of a `RawBox`.
use Rattle.lgm_c.proofs.Walks.{◌≡◌, [], ◌∷◌, refl, List, ◌++◌, true, Val, SProp, emp, ‵, raw, ◌⊛◌, ◌$◌, ◌∵◌, !, qed, by, keep, split, use0, fpack, prop, move, fsplit, fjoin, regoal, no_more, and_then, returns, enter, stop, fld, of_opd, true_lit, alloc_all, pass_all, free_all, look_at, sets, get, get_in, agg, sub, whole, fact, fact_i, tables, owns, types_at, plain, ptr_val, nothing, alive, Stays, walk_of, stay_dropped, Some, proved_at, leaves, words, words_good, handle_in, both, ptr_typed, OwnedBox, ptr_good, held_out, WpFn, Goes-blank, Global, ghosts, box_owns}
use Rattle.lgm_c.specs.contracts.chain_map.ChainMap.{the_row as R}
use Rattle.lgm_c.specs.contracts.map_handle.LgmMapHandle.of.{ended, clauses}
use Rattle.lgm_c.specs.contracts.map_handle.LgmMapHandle.of.Key.{name as #self}
use Rattle.lgm_c.proofs.map_handle.LgmMapHandle.of.Statement.{statement}
use Rattle.lgm_c.proofs.map_handle.LgmMapHandle.of.Code as code

pub of_spec : {M : Type 1} → statement M
of_spec 𝓤 𝓛 𝓜 𝓡 wired =
    let H = 𝓛.H in let 𝓣 = tables 𝓤 H 𝓜 𝓡 𝓡.env in let c = clauses 𝓛 𝓜.mem 𝓡.returns in let fn = code.function in
    let hs : Stays ended.signature.params ended.kept = (stay_dropped (plain (λ _. OwnedBox R)) ended.kept.0, tt) in
    proved_at 𝓛 ended hs c 𝓜 𝓡 (Goes-blank 𝓛 0 (plain (λ _. OwnedBox R)) ended.kept.0 (λ κs x f. tt), tt) #self fn
    (code.unfolded 𝓤 H 𝓜 𝓡 wired) (λ z are. let v = z.0.3.0 in
    let Post : Val → SProp 𝓤 = (walk_of 𝓛 ended hs c).post z in
    qed 𝓛 ((raw (alive 𝓛 ended.signature z.0.0 z.0.1) ⊛ ‵ (owns (types_at ended.signature.params z.0.0) z.0.3
    z.0.4)) ∷ raw ((c z.0.0 z.0.3).requires z.1) ∷ []) ∵ split ! $ move ! (1 ∷ []) $ fsplit ! $
    held_out R ! v z.0.4.0 (λ h ws fits.
    regoal ! (λ (us : List Val). prop (WpFn 𝓤 H 𝓣.C 𝓣.Λ fn us Post)) (λ i. ws i ++ []) refl $
    enter ! 𝓣.C 𝓣.Λ fn (both (ptr_val v.at) h ∷ []) Post $ alloc_all ! (λ l. pass_all ! refl (ptr_good v.at h fits, tt) $
    sets ! (of_opd ! (get_in ! (fld ! refl (stop !)) (sub ! 0 refl (whole !)))) refl (ptr_typed v.at) $
    sets ! (of_opd ! (get ! refl)) refl (ptr_typed v.at) $
    sets ! (agg ! (and_then ! (true_lit !) (and_then ! (get ! refl) (no_more !)))) refl (words_good true v.at) $
    fpack ! Global (λ a. box_owns (ghosts.dealloc_token a) R v.at v.value) v.alloc $ handle_in R ! true v.at (Some v.value) $
    use0 𝓛 (raw (fact 𝓤 (Some v.value ≡ Some v.value))) (fact_i 𝓤 (Some v.value ≡ Some v.value) (emp 𝓤) refl) $ nothing ! $ nothing ! $ fjoin ! $
    returns ! (look_at ! 0 refl) $ free_all ! refl $ keep ! (5 ∷ 0 ∷ 2 ∷ 1 ∷ []) $
    by ! (leaves 𝓛 ended hs c z (words true v.at) (record { is_open = true; at = v.at; value = Some v.value; sound = refl }) (tt, tt) (tt, tt)))))
