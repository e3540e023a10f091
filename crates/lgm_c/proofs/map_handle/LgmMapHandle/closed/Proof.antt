-- `closed` owns nothing.
use Rattle.lgm_c.proofs.Walks.{◌≡◌, [], ◌∷◌, refl, false, Val, SProp, emp, ‵, raw, ◌⊛◌, ◌$◌, ◌∵◌, !, qed, by, keep, split, use0, no_more, and_then, returns, enter, lit, false_lit, alloc_all, pass_all, free_all, look_at, sets, agg, fact, fact_i, tables, owns, types_at, null_ptr, nothing, alive, Stays, walk_of, None, proved_at, leaves, words, words_good, handle_in}
use Rattle.lgm_c.specs.contracts.chain_map.ChainMap.{the_row as R}
use Rattle.lgm_c.specs.contracts.map_handle.LgmMapHandle.closed.{ended, clauses}
use Rattle.lgm_c.specs.contracts.map_handle.LgmMapHandle.closed.Key.{name as #self}
use Rattle.lgm_c.proofs.map_handle.LgmMapHandle.closed.Statement.{statement}
use Rattle.lgm_c.proofs.map_handle.LgmMapHandle.closed.Code as code

pub closed_spec : {M : Type 1} → statement M
closed_spec 𝓤 𝓛 𝓜 𝓡 wired =
    let H = 𝓛.H in let 𝓣 = tables 𝓤 H 𝓜 𝓡 𝓡.env in let c = clauses 𝓛 𝓜.mem 𝓡.returns in let fn = code.function in
    let hs : Stays ended.signature.params ended.kept = tt in
    proved_at 𝓛 ended hs c 𝓜 𝓡 tt #self fn (code.unfolded 𝓤 H 𝓜 𝓡 wired) (λ z are.
    let Post : Val → SProp 𝓤 = (walk_of 𝓛 ended hs c).post z in
    qed 𝓛 ((raw (alive 𝓛 ended.signature z.0.0 z.0.1) ⊛ ‵ (owns (types_at ended.signature.params z.0.0) z.0.3
    z.0.4)) ∷ raw ((c z.0.0 z.0.3).requires z.1) ∷ []) ∵ split ! $
    enter ! 𝓣.C 𝓣.Λ fn [] Post $ alloc_all ! (λ l. pass_all ! refl tt $
    sets ! (agg ! (and_then ! (false_lit !) (and_then ! (lit ! tt) (no_more !)))) refl (words_good false null_ptr) $ nothing ! $
    handle_in R ! false null_ptr None $
    use0 𝓛 (raw (fact 𝓤 (None ≡ None))) (fact_i 𝓤 (None ≡ None) (emp 𝓤) refl) $ nothing ! $
    returns ! (look_at ! 0 refl) $ free_all ! refl $ keep ! (3 ∷ 0 ∷ 2 ∷ 1 ∷ []) $
    by ! (leaves 𝓛 ended hs c z (words false null_ptr) (record { is_open = false; at = null_ptr; value = None; sound = refl }) tt tt)))
