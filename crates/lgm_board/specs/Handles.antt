-- What contracts see of a told list, of an eye or a guard, and of a pen.
use Rattle.std.specs.Prelude.{ℕ, List, Option, refl}
use Rattle.std.specs.Coded.{Coded, code_by, coded×, coded_list, coded_option, coded_ℕ}
use Rattle.logbook.specs.Pages.{Book, book_coded}
use Rattle.lgm_store.specs.declared.op.Op.{Op}
use Rattle.lgm_store.specs.contracts.op.Op.{the_row}

-- a list of operations that a board has reached
pub record History : Type 0 where
  -- the board's name
  pub board : Book
  pub ops : List Op

abbrev pub history_code : Coded History
history_code =
    code_by (Book × List Op) (coded× book_coded (coded_list the_row.coded)) (λ h. (h.board, h.ops))
    (λ p. record { board = p.0; ops = p.1 }) (λ _. refl)

abbrev pub history : Book → List Op → History
history board ops = record { board = board; ops = ops }

-- what a reader of a board has observed or sees
pub record Sight : Type 0 where
  -- the board's name
  pub board : Book
  -- the known feature bits of nodes, or none if all are known
  pub known : Option (List ℕ)
  pub ops : List Op

abbrev pub sight_code : Coded Sight
sight_code =
    code_by (Book × (Option (List ℕ) × List Op)) (coded× book_coded (coded×
    (coded_option (coded_list coded_ℕ)) (coded_list the_row.coded))) (λ s. (s.board, (s.known, s.ops)))
    (λ p. record { board = p.0; known = p.1.0; ops = p.1.1 }) (λ _. refl)

-- the writer of a board
pub record Writing : Type 0 where
  -- the board's name
  pub board : Book
  pub published : List Op
  -- after the published ones, in the order in which they were appended
  pub pending : List Op

abbrev pub writing_code : Coded Writing
writing_code =
    code_by (Book × (List Op × List Op)) (coded× book_coded (coded× (coded_list the_row.coded)
    (coded_list the_row.coded))) (λ w. (w.board, (w.published, w.pending)))
    (λ p. record { board = p.0; published = p.1.0; pending = p.1.1 }) (λ _. refl)
