-- The results of workers.
use Rattle.std.specs.Prelude.{◌≡◌, ℕ, List, All, Option}
use Rattle.std.specs.List.{AllZip}
use Rattle.std.specs.Global.{Vec}
use Rattle.logbook.specs.Pages.{Book}
use Rattle.lgm_route.specs.declared.request.Request.{Request}
use Rattle.lgm_board.specs.Handles.{Sight}
use Rattle.lgm_store.specs.declared.op.Op.{Op}
use Rattle.lgm_live.specs.declared.worker.WorkerResult.{WorkerResult}
use Rattle.lgm_live.specs.declared.report.LiveAnswer.{LiveAnswer}
use Rattle.lgm_live.specs.declared.report.LiveReport.{LiveReport}
use Rattle.lgm_live.specs.declared.writer.WriterResult.{WriterResult}
use Rattle.lgm_live.specs.Answers.{AreAnsweredBy, NeverFall, IsAtEnd}

-- a list is answered by what an eye of a board has observed
pub record HasWorked (book : Book) (known : Option (List ℕ)) (requests : List Request)
    (worked : WorkerResult) : Type 0 where
  pub board : worked.eye.board ≡ book
  pub answered : AreAnsweredBy known worked.eye.ops requests worked.answers.items
  pub rising : NeverFall worked.answers.items

-- the eyes are of one board
abbrev pub AreOf : Book → Option (List ℕ) → List Sight → Type 0
AreOf board known eyes = All (λ eye. (eye.board ≡ board) × (eye.known ≡ known)) eyes

-- each list is answered by an eye of its own, if all are of one board
abbrev pub HaveWorked : List Sight → List (List Request) → List WorkerResult → Type 0
HaveWorked eyes lists works =
    (board : Book) (known : Option (List ℕ)) → AreOf board known eyes
    → AllZip (HasWorked board known) lists works

-- a worker's answers are those on the published operations
pub record IsTied (published : List Op) (ends : List ℕ) (worked : WorkerResult)
    (answers : Vec LiveAnswer) : Type 0 where
  pub same : answers.items ≡ worked.answers.items
  pub at_ends : All (IsAtEnd ends) answers.items
  pub answered : (known : Option (List ℕ)) (requests : List Request)
      → AreAnsweredBy known worked.eye.ops requests worked.answers.items
      → AreAnsweredBy known published requests answers.items

-- a report has what the writer stored
pub record IsOfWriter (report : LiveReport) (written : WriterResult) : Type 0 where
  pub outcomes : report.outcomes ≡ written.outcomes
  pub ops : report.ops ≡ written.ops
  pub ends : report.ends ≡ written.ends
