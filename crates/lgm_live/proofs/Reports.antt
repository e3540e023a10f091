-- The report on the work of both sides.
use Rattle.std.proofs.Common.{◌≡◌, ◌≤◌, ℕ, List, [], ◌∷◌, length, Option, Result, Ok, Err, IfOk, ap, subst, sym, ◌∙◌}
use Rattle.std.specs.Prelude.{All, MatchResult}
use Rattle.std.specs.List.{AllZip}
use Rattle.std.specs.Global.{Vec}
use Rattle.logbook.specs.Pages.{Book}
use Rattle.lgm_par.proofs.PlacewiseLaws.{zip_weaker}
use Rattle.lgm_wire.specs.declared.chain_hash.ChainHash.{ChainHash}
use Rattle.lgm_check.specs.declared.refusal.Refusal.{Refusal}
use Rattle.lgm_script.specs.declared.grammar.item.Item.{Item}
use Rattle.lgm_store.specs.declared.op.Op.{Op}
use Rattle.lgm_route.specs.declared.request.Request.{Request}
use Rattle.lgm_board.specs.Handles.{Sight}
use Rattle.lgm_live.specs.declared.fault.LiveFault.{LiveFault}
use Rattle.lgm_live.specs.declared.report.LiveAnswer.{LiveAnswer}
use Rattle.lgm_live.specs.declared.report.LiveReport.{LiveReport}
use Rattle.lgm_live.specs.declared.worker.WorkerResult.{WorkerResult}
use Rattle.lgm_live.specs.declared.writer.WriterResult.{WriterResult}
use Rattle.lgm_live.specs.Answers.{AreAnsweredBy, NeverFall, IsAtEnd}
use Rattle.lgm_live.specs.Running.{IsReport}
use Rattle.lgm_live.specs.inner.WorkerResult.{HasWorked, AreOf, HaveWorked, IsTied, IsOfWriter}
use Rattle.lgm_live.specs.inner.WriterResult.{ArePublished}
use Rattle.lgm_live.proofs.Answers.{zip_second}

-- eyes of one board with the same known features
pub are_of : (book : Book) (known : Option (List ℕ)) (eyes : List Sight) → All (λ (eye : Sight). eye.board
    ≡ book) eyes → All (λ (eye : Sight). eye.known ≡ known) eyes → AreOf book known eyes
are_of book known eyes boards knowns = λ k d below. (boards k d below, knowns k d below)

-- the workers' eyes are of the board
pub boards_stay : (book : Book) (known : Option (List ℕ)) (eyes : List Sight) (lists : List (List Request))
    (works : Result (Vec WorkerResult) LiveFault) → AreOf book known eyes
    → IfOk works (λ ws. HaveWorked eyes lists ws.items) → IfOk works (λ ws. All (λ (worked : WorkerResult). worked.eye.board ≡ book) ws.items)
boards_stay book known eyes lists (Ok ws) are have =
    zip_second (HasWorked book known) (λ (worked : WorkerResult). worked.eye.board ≡ book)
    (λ requests worked done. done.board) lists ws.items (have book known are)
boards_stay book known eyes lists (Err fault) are have = tt

-- what a list's answers are
pub record IsReported (known : Option (List ℕ)) (published : List Op) (ends : List ℕ)
    (requests : List Request) (answers : Vec LiveAnswer) : Type 0 where
  pub answered : AreAnsweredBy known published requests answers.items
  pub at_ends : All (IsAtEnd ends) answers.items
  pub rising : NeverFall answers.items

zip_through : {A B C : Type 0} (R : A → B → Type 0) (Q : B → C → Type 0) (S : A → C → Type 0)
    → ((x : A) (y : B) (z : C) → R x y → Q y z → S x z) → (xs : List A) (ys : List B) (zs : List C)
    → AllZip R xs ys → AllZip Q ys zs → AllZip S xs zs
zip_through R Q S gives [] [] [] first second = tt
zip_through R Q S gives [] [] (z ∷ zs) first second = absurd second
zip_through R Q S gives [] (y ∷ ys) zs first second = absurd first
zip_through R Q S gives (x ∷ xs) [] zs first second = absurd first
zip_through R Q S gives (x ∷ xs) (y ∷ ys) [] first second = absurd second
zip_through R Q S gives (x ∷ xs) (y ∷ ys) (z ∷ zs) first second = (gives x y z first.0 second.0, zip_through R Q S gives xs ys zs first.1 second.1)

is_reported : (book : Book) (known : Option (List ℕ)) (published : List Op) (ends : List ℕ)
    (requests : List Request) (worked : WorkerResult) (answers : Vec LiveAnswer)
    → HasWorked book known requests worked
    → IsTied published ends worked answers → IsReported known published ends requests answers
is_reported book known published ends requests worked answers done tied = record {
  answered = tied.answered known requests done.answered;
  at_ends = tied.at_ends;
  rising = subst NeverFall (sym tied.same) done.rising;
}

-- what is known of both sides
abbrev pub AreReported : Option (List ℕ) → List Op → List (List Request) → LiveReport → Type 0
AreReported known published lists report = AllZip (IsReported known published report.ends.items) lists report.answers.items

pub are_reported : (book : Book) (known : Option (List ℕ)) (eyes : List Sight) (lists : List (List Request))
    (published : List Op) (works : Result (Vec WorkerResult) LiveFault) (report : Result LiveReport LiveFault)
    → AreOf book known eyes → IfOk works (λ ws. HaveWorked eyes lists ws.items)
    → IfOk report (λ r. MatchResult works (λ ws. AllZip (IsTied published r.ends.items) ws.items r.answers.items) (λ _. ⊥))
    → IfOk report (AreReported known published lists)
are_reported book known eyes lists published (Ok ws) (Ok r) are have tied =
    zip_through (HasWorked book known) (IsTied published r.ends.items)
    (IsReported known published r.ends.items) (is_reported book known published r.ends.items) lists
    ws.items r.answers.items (have book known are) tied
are_reported book known eyes lists published (Err fault) (Ok r) are have tied = absurd tied
are_reported book known eyes lists published works (Err fault) are have tied = tt

-- what the writer published bounds where batches end
pub ends_within : (chain : ChainHash) (batches : List (List Item)) (published : List Op)
    (written : Result WriterResult LiveFault) → IfOk written (ArePublished chain batches published)
    → IfOk written (λ w. All (λ end. end ≤ length published) w.ends.items)
ends_within chain batches published (Ok w) done =
    subst (λ (ops : List Op). All (λ end. end ≤ length ops) w.ends.items) (sym done.shown) done.within
ends_within chain batches published (Err fault) done = tt

-- the report on the work of both sides is as promised
pub reported : (chain : ChainHash) (known : Option (List ℕ)) (batches : List (List Item))
    (lists : List (List Request)) (published : List Op) (written : Result WriterResult LiveFault)
    (report : Result LiveReport LiveFault) → IfOk report (λ r. MatchResult written (IsOfWriter r) (λ _. ⊥))
    → IfOk written (ArePublished chain batches published) → IfOk report (AreReported known published lists)
    → IfOk report (IsReport chain known batches lists)
reported chain known batches lists published (Ok w) (Ok r) of done all =
    let ops : published ≡ r.ops.items = done.shown ∙ sym (ap (λ (ops : Vec Op). ops.items) of.ops) in
    record {
      outcomes = ap (λ (outcomes : Vec (Option Refusal)). outcomes.items) of.outcomes ∙ done.items.outcomes;
      ops = ap (λ (ops : Vec Op). ops.items) of.ops ∙ done.items.ops;
      ends = ap (λ (ends : Vec ℕ). ends.items) of.ends ∙ done.ends;
      answers =
          zip_weaker (IsReported known published r.ends.items)
          (λ (requests : List Request) (answers : Vec LiveAnswer).
          AreAnsweredBy known r.ops.items requests answers.items)
          (λ requests answers done. subst (λ ops. AreAnsweredBy known ops requests answers.items) ops done.answered)
          lists r.answers.items all;
      at_ends =
          zip_second (IsReported known published r.ends.items)
          (λ (answers : Vec LiveAnswer). All (IsAtEnd r.ends.items) answers.items)
          (λ requests answers done. done.at_ends) lists r.answers.items all;
      rising =
          zip_second (IsReported known published r.ends.items)
          (λ (answers : Vec LiveAnswer). NeverFall answers.items) (λ requests answers done. done.rising) lists
          r.answers.items all;
    }
reported chain known batches lists published (Err fault) (Ok r) of done all = absurd of
reported chain known batches lists published written (Err fault) of done all = tt
