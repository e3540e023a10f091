-- What was learnt is the fold of all reports.
use Rattle.std.proofs.Common.{◌≡◌, ◌∙◌, ℕ, List, [], ◌∷◌, ◌++◌, refl, sym, ap}
use Rattle.std.specs.Prelude.{fold}
use Rattle.std.proofs.lemmas.List.Sums.{fold_push}
use Rattle.lgm_wire.specs.declared.point.Point.{Point}
use Rattle.lgm_graph.specs.declared.estimate.Estimate.{Estimate}
use Rattle.lgm_graph.specs.Estimates.{Entries, estimate_of}
use Rattle.lgm_odds.specs.Lessons.{AreTaught}
use Rattle.lgm_payer.specs.Payers.{PayerState}
use Rattle.lgm_payer.specs.History.{Report, reported, IsRun, still, begun, sent, failed, fulfilled, faded, abandoned, forgotten, LearntIsReported}

-- what a run has taught
taught : List Report → ℕ → Point → Estimate → Estimate
taught reports scid from estimate = fold (reported scid from) estimate reports

-- a call that teaches nothing
unmoved : (reports : List Report) (old learnt new : Entries) → AreTaught (taught reports) old learnt → new ≡ learnt
    → AreTaught (taught reports) old new
unmoved reports old learnt new before same = λ scid from. ap (λ (e : Entries). estimate_of e scid from) same ∙ before scid from

-- a call that is told something
moved : (reports : List Report) (report : Report) (old learnt new : Entries) → AreTaught (taught reports) old learnt
    → AreTaught (λ scid from estimate. reported scid from estimate report) learnt new
    → AreTaught (taught (reports ++ report ∷ [])) old new
unfolding taught
moved reports report old learnt new before more = λ scid from.
    more scid from ∙ ap (λ (e : Estimate). reported scid from e report) (before scid from)
    ∙ sym (fold_push (reported scid from) (estimate_of old scid from) reports report)

run_taught : (old new : PayerState) (reports : List Report) → IsRun old reports new
    → AreTaught (taught reports) old.learnt new.learnt
unfolding taught
run_taught _ _ _ (still payer) = λ scid from. refl
run_taught _ _ _ (begun old payer new reports number invoice hints metadata records bounds run begins) =
    unmoved reports old.learnt payer.learnt new.learnt (run_taught old payer reports run) (ap (λ (p : PayerState). p.learnt) begins.begins)
run_taught _ _ _ (sent old payer new reports seen payment sending run sends) =
    unmoved reports old.learnt payer.learnt new.learnt (run_taught old payer reports run) (ap (λ (p : PayerState). p.learnt) sends.sends)
run_taught _ _ _ (failed old payer new reports payment part ending run ends) =
    moved reports _ old.learnt payer.learnt new.learnt (run_taught old payer reports run) ends.learnt
run_taught _ _ _ (fulfilled old payer new reports payment run pays) =
    moved reports _ old.learnt payer.learnt new.learnt (run_taught old payer reports run) pays.learnt
run_taught _ _ _ (faded old payer new reports rows time run fades) =
    moved reports _ old.learnt payer.learnt new.learnt (run_taught old payer reports run) fades.learnt
run_taught _ _ _ (abandoned old payer new reports payment run leaves) =
    unmoved reports old.learnt payer.learnt new.learnt (run_taught old payer reports run) (ap (λ (p : PayerState). p.learnt) leaves.others)
run_taught _ _ _ (forgotten old payer new reports payment run leaves) =
    unmoved reports old.learnt payer.learnt new.learnt (run_taught old payer reports run) (ap (λ (p : PayerState). p.learnt) leaves.others)

pub learnt_is_reported : LearntIsReported
unfolding taught
learnt_is_reported old new reports run = run_taught old new reports run
