-- The exchange that extends the history preserves the rule of the book.
use Rattle.std.proofs.Common.{◌≡◌, ℕ, ◌<◌, ◌==◌, Bool, true, false, List, [], ◌∷◌, ◌++◌, length, refl, ap, sym, ◌∙◌, subst, arith, inl, None}
use Rattle.std.proofs.lemmas.List.{append-nil}
use Rattle.std.proofs.lemmas.Bool.Decides.{nat_tests}
use mathlib.Core.List.{IsPrefix}
use prog.Atomic.{either}
use Rattle.logbook.specs.Pages.{Cell, cell, keeps, no_nib, step, Moves, Goes}
use Rattle.lgm_store.specs.declared.op.Op.{Op}
use Rattle.lgm_board.specs.Lists.{joined}
use Rattle.lgm_board.specs.inner.Book.{IsKept, Extends}
use Rattle.lgm_board.proofs.Beginnings.{prefix_whole, joined_prefix, joined_append}

abbrev pub shown : List (List Op) → List (List Op)
shown log = []

abbrev pub moved : List (List Op) → List (List Op) → ℕ → Type 0
moved xs ys n = Unit {0}

module _ (v : List (List Op)) (ask : List Op) (old new : ℕ) where
  abbrev Goes_on : List Cell → List (List Op) → Type 0
  Goes_on = Goes IsKept shown moved 0 (v, (no_nib, None)) (λ n. either (n == old) new n) (Extends (step 0 old new ask) (v, (no_nib, None)))

  pub extends_goes : (log : List (List Op)) → length (joined v) ≡ old → length ask ≡ new → IsPrefix (joined v) ask → IsPrefix v log
      → (b : Bool) → (length (joined log) == old) ≡ b
      → Goes_on ((length (joined log), true) ∷ (0, true) ∷ []) log
  extends_goes log len all more pre true is =
      let here : length (joined log) ≡ old = grind (arith, nat_tests) in
      let same : joined v ≡ joined log = prefix_whole (joined v) (joined log) (joined_prefix v log pre) (omega arith) in
      let whole : joined (log ++ more.0 ∷ []) ≡ ask =
      joined_append log (more.0 ∷ []) ∙ (ap (λ w. joined log ++ w) (append-nil more.0) ∙ (ap (λ w. w ++ more.0) (sym same) ∙ more.1)) in
      let n : either (length (joined log) == old) new (length (joined log))
      ≡ length (joined (log ++ more.0 ∷ [])) =
      rw is (sym all ∙ sym (ap length whole)) in (
        keeps,
        more.0 ∷ [],
        None,
        tt,
        ap (λ (k : ℕ). (k, true) ∷ (0, true) ∷ []) n,
        inl (refl, refl),
        rw is whole,
      )
  extends_goes log len all more pre false is =
      let n : either (length (joined log) == old) new (length (joined log)) ≡ length (joined (log ++ [])) =
      rw is (ap (λ w. length (joined w)) (sym (append-nil log))) in (
        keeps,
        [],
        None,
        tt,
        ap (λ (k : ℕ). (k, true) ∷ (0, true) ∷ []) n,
        inl (refl, refl),
        rw is tt,
      )

  -- whatever the book is, the exchange extends it to the requested operations, or finds that it has more
  pub extends_moves : length (joined v) ≡ old → length ask ≡ new → IsPrefix (joined v) ask
      → Moves IsKept shown moved 0 (v, (no_nib, None)) (λ n. either (n == old) new n) (Extends (step 0 old new ask) (v, (no_nib, None)))
  extends_moves len all more cs log kept pre away =
      let P : List Cell → Type 0 = λ c. (0 < length c) × ((cell c 0).1 ≡ true) × Goes_on c log in
      subst P (sym kept) (omega arith, refl, extends_goes log len all more pre (length (joined log) == old) refl)
