-- `is_open` reads a field.
use Rattle.lgm_c.proofs.Walks.{◌≡◌, ℕ, [], List, ◌∷◌, refl, full_share, ftrue, flft, Val, vbool, named, tables, ‵, ◌⊛◌, ◌$◌, ◌∵◌, !, qed, done, move, keep, split, join, fsplit3, feq_i, rewrite, suffices, frame, group, raw, use0, fact, fact_i, emp, is_some, enter, of_opd, load, stop, fld, returns, whole, sub, look_in, alloc_all, pass_all, free_all, look_at, through, sets, cell_at, MutRef, mut_vals, mut_Tells, plain, nothing, opens, closes, Stays, walk_of, stay_ref, Goes-ref, ends_at, proved, words, handle_out, handle_in}
use Rattle.lgm_payer.specs.contracts.payer.Payer.{the_row as R}
use Rattle.lgm_c.specs.contracts.payer_handle.LgmPayer.{the_row as Handle}
use Rattle.lgm_c.specs.contracts.payer_handle.LgmPayerHandle.is_open.{ended, clauses}
use Rattle.lgm_c.specs.contracts.payer_handle.LgmPayerHandle.is_open.Key.{name as #self}
use Rattle.lgm_c.proofs.payer_handle.LgmPayerHandle.is_open.Statement.{statement}
use Rattle.lgm_c.proofs.payer_handle.LgmPayerHandle.is_open.Code as code

pub is_open_spec : {M : Type 1} → statement M
is_open_spec 𝓤 𝓛 𝓜 𝓡 wired =
    let 𝓣 = tables 𝓤 𝓛.H 𝓜 𝓡 𝓡.env in let c = clauses 𝓛 𝓜.mem 𝓡.returns in
    let hs : Stays ended.signature.params ended.kept = (stay_ref (0 ∷ []) tt (plain (λ _. Handle)), tt) in
    proved 𝓛 ended hs c 𝓜 𝓡 (Goes-ref 𝓛 1 0 tt (plain (λ _. Handle)), tt) #self code.function (code.unfolded 𝓤 𝓛.H 𝓜 𝓡 wired)
    (λ κs. (mut_vals, tt)) (λ κs. (mut_Tells (named 0) κs.0 Handle, tt)) (λ κs qs bounds a _ are.
    let b : ℕ = a.0.ref_ptr.0 in let o : ℕ = a.0.ref_ptr.1 in let h = a.0.now in let vs = mut_vals a.0 in
    let z : (walk_of 𝓛 ended hs c).Ghost = ((κs, qs, bounds, a, (vs, tt)), tt) in
    qed 𝓛 (((‵ (flft κs.0 qs.0) ⊛ ‵ ftrue) ⊛ ‵ ((MutRef (named 0) κs.0 Handle).own_val a.0 vs) ⊛ ‵ ftrue) ∷ ‵ ftrue ∷ [])
    ∵ split ! $ split ! $ move ! (2 ∷ []) $ split ! $ keep ! (0 ∷ 2 ∷ []) $
    enter ! _ _ _ _ _ $ alloc_all ! (λ l. pass_all ! refl ((tt, tt), tt) $
    fsplit3 ! $ move ! (1 ∷ 2 ∷ 3 ∷ []) $ opens ! tt Handle b o (λ us. move ! (1 ∷ []) $
    handle_out R ! h.is_open h.at h.value us (λ e.
    rewrite ! 1 (λ (ws : List Val). ‵ (cell_at full_share Handle.mir ws b o)) e refl $
    sets ! (of_opd ! (load ! (through ! refl (fld ! refl (stop !))) (look_in ! 1 (sub ! 0 refl (whole !))))) refl (tt, tt) $
    handle_in R ! h.is_open h.at h.value $ move ! (1 ∷ []) $ closes ! tt Handle h (words h.is_open h.at ∷ []) b o $
    returns ! (look_at ! 0 refl) $ free_all ! refl $ move ! (3 ∷ []) $
    suffices ! _ (ends_at 𝓛 ended hs c z (vbool h.is_open) h.is_open (h, tt) (tt, tt)) $
    group ! 3 $ nothing ! $ move ! (1 ∷ 0 ∷ []) $ join ! $ nothing ! $ move ! (2 ∷ 0 ∷ []) $ join ! $
    feq_i ! _ (vbool h.is_open ∷ []) _ refl $ move ! (1 ∷ 2 ∷ 0 ∷ []) $ group ! 3 $ frame ! $
    use0 𝓛 (raw (fact 𝓤 (h.is_open ≡ is_some h.value))) (fact_i 𝓤 (h.is_open ≡ is_some h.value) (emp 𝓤) h.sound) $
    use0 𝓛 (raw (fact 𝓤 (h.value ≡ h.value))) (fact_i 𝓤 (h.value ≡ h.value) (emp 𝓤) refl) $ done !))))
