-- `into_loose` gives the box back.
use Rattle.lgm_c.proofs.Walks.{◌≡◌, [], ◌∷◌, refl, List, ◌++◌, sym, Val, SProp, emp, id⊢, ‵, raw, ◌⊛◌, ◌$◌, ◌∵◌, !, qed, by, keep, split, use0, prop, move, fsplit, fjoin, regoal, fpick, use1, rewrite, no_more, and_then, returns, enter, stop, fld, of_opd, alloc_all, pass_all, free_all, look_at, sets, get, get_in, agg, sub, whole, fact, fact_i, tables, owns, types_at, plain, ptr_val, nothing, heard, alive, Stays, walk_of, stay_dropped, Some, proved_at, leaves, words, words_good, both, ptr_typed, ptr_good, state_in, some_of, at_heap, Z, handle_out, WpFn, Goes-blank, handle_tells, ghosts, box_owns, Option, owns_box, is_some, true}
use Rattle.lgm_c.specs.contracts.chain_map.ChainMap.{the_row as R}
use Rattle.lgm_c.specs.contracts.map_handle.LgmMap.{the_row as Handle}
use Rattle.lgm_c.specs.contracts.map_handle.LgmMapHandle.into_loose.{ended, clauses}
use Rattle.lgm_c.specs.contracts.map_handle.LgmMapHandle.into_loose.Key.{name as #self}
use Rattle.lgm_c.proofs.map_handle.LgmMapHandle.into_loose.Statement.{statement}
use Rattle.lgm_c.proofs.map_handle.LgmMapHandle.into_loose.Code as code

pub into_loose_spec : {M : Type 1} → statement M
into_loose_spec 𝓤 𝓛 𝓜 𝓡 wired =
    let H = 𝓛.H in let 𝓣 = tables 𝓤 H 𝓜 𝓡 𝓡.env in let c = clauses 𝓛 𝓜.mem 𝓡.returns in let fn = code.function in
    let hs : Stays ended.signature.params ended.kept =
    (stay_dropped (plain (λ _. Handle)) ended.kept.0, (stay_dropped (plain (λ _. Z)) ended.kept.1.0, tt)) in
    proved_at 𝓛 ended hs c 𝓜 𝓡 (
      Goes-blank 𝓛 0 (plain (λ _. Handle)) ended.kept.0 (λ κs x f. tt),
      (Goes-blank 𝓛 0 (plain (λ _. Z)) ended.kept.1.0 (λ κs x f. tt), tt),
    ) #self fn (code.unfolded 𝓤 H 𝓜 𝓡 wired) (λ z are. let v = z.0.3.0 in let a = z.0.3.1.0 in
    let Post : Val → SProp 𝓤 = (walk_of 𝓛 ended hs c).post z in
    qed 𝓛 ((raw (alive 𝓛 ended.signature z.0.0 z.0.1) ⊛ ‵
    (owns (types_at ended.signature.params z.0.0) z.0.3 z.0.4)) ∷ raw ((c z.0.0 z.0.3).requires z.1) ∷ [])
    ∵ move ! (1 ∷ []) $ heard ! (is_some v.value ≡ true) (λ is. let x = (some_of v.value is).0 in
    let e = (some_of v.value is).1 in split ! $ move ! (1 ∷ []) $ fsplit ! $
    handle_out R ! v.is_open v.at v.value z.0.4.0 (λ ws. rewrite ! 0 (λ (o : Option R.Denot). ‵ (owns_box R v.at o)) e refl $
    fpick ! (λ a'. move ! (1 ∷ []) $ fsplit ! $ handle_tells (at_heap R) ! a z.0.4.1.0 (λ h ea fits.
    regoal ! (λ (us : List Val). prop (WpFn 𝓤 H 𝓣.C 𝓣.Λ fn us Post)) (λ i. ws i ++ (ea i ++ [])) refl $
    enter ! 𝓣.C 𝓣.Λ fn (words v.is_open v.at ∷ h ∷ []) Post $ alloc_all ! (λ l. pass_all ! refl (words_good v.is_open v.at, (fits, tt)) $
    sets ! (of_opd ! (get_in ! (fld ! refl (stop !)) (sub ! 1 refl (whole !)))) refl (ptr_typed v.at) $
    sets ! (of_opd ! (get ! refl)) refl (ptr_typed v.at) $
    sets ! (agg ! (and_then ! (get ! refl) (and_then ! (get ! refl) (no_more !)))) refl (ptr_good v.at h fits) $
    move ! (2 ∷ 0 ∷ []) $ use1 𝓛 (‵ (box_owns (ghosts.dealloc_token a) R v.at x)) (id⊢ 𝓤 _) $ state_in R ! v.at h a x $
    use0 𝓛 (raw (fact 𝓤 (Some x ≡ v.value))) (fact_i 𝓤 (Some x ≡ v.value) (emp 𝓤) (sym e)) $ nothing ! $ nothing ! $ fjoin ! $ nothing ! $ fjoin ! $
    returns ! (look_at ! 0 refl) $ free_all ! refl $ keep ! (4 ∷ 0 ∷ 2 ∷ 1 ∷ []) $
    by ! (leaves 𝓛 ended hs c z (both (ptr_val v.at) h) (record { at = v.at; alloc = a; value = x }) (tt, (tt, tt)) (tt, (tt, tt)))))))))
