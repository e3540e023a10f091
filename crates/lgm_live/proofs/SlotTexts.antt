-- The texts of line answers, one after the other.
use Rattle.std.proofs.Common.{◌≡◌, inl, inr, ℕ, zero, suc, ◌+◌, ◌-◌, ◌<◌, Bool, cond, List, [], ◌∷◌, ◌++◌, length, get_or}
use Rattle.std.proofs.Common.{take, codes, refl, sym, ap, subst, ◌∙◌, append_assoc, add-one, arith}
use Rattle.std.specs.Prelude.{count_by}
use Rattle.std.specs.Fmt.{decimal}
use Rattle.std.proofs.lemmas.List.{append-nil, take_more}
use Rattle.std.proofs.lemmas.Bool.{cases_lt}
use Rattle.std.proofs.lemmas.List.Sums.{sum_by-append}
use Rattle.lgm_script.specs.declared.output.SendFault.{SendFault}
use Rattle.lgm_script.specs.Output.{OutputState, Tells, TellsPart}
use Rattle.lgm_script.specs.Text.{word_line}
use Rattle.lgm_script.proofs.WrittenTextLaws.{tells_both, tells_part_behind, tells_part_more}
use Rattle.lgm_live.specs.declared.report.LiveReport.{LiveReport}
use Rattle.lgm_live.specs.declared.parsed_script.LineAnswer.{LineAnswer}
use Rattle.lgm_live.specs.declared.parsed_script.LineAnswer.TheVariants as line_answers
use Rattle.lgm_live.specs.declared.report_place.ReportPlace.{ReportPlace}
use Rattle.lgm_live.specs.Text.{at_line}
use Rattle.lgm_live.specs.inner.Telling.{IsFreshThere, AreFreshThere}
use Rattle.lgm_live.specs.inner.Telling.{is_item, is_end, is_payment, place_behind, place_passed, slot_text, slots_before}

-- ---- the line of a version

pub version_line : (number version : ℕ) (word : List ℕ) → word ≡ 97 ∷ 116 ∷ 32 ∷ (decimal version
    ++ 32 ∷ 115 ∷ 97 ∷ 109 ∷ 101 ∷ []) → word_line number word ≡ at_line number version (codes "same")
version_line number version word is =
    ap (word_line number) (is ∙ ap (λ (l : List ℕ). 97 ∷ 116 ∷ 32 ∷ l) (sym (append_assoc (decimal version) (codes " ") (codes "same"))))

-- ---- places

count_push : {X : Type 0} (p : X → Bool) (xs : List X) (x : X) → count_by p (xs ++ x ∷ []) ≡ count_by p xs + cond (p x) 1 0
count_push p xs x = omega (arith, sum_by-append (λ x. cond (p x) 1 0) xs (x ∷ []))

place_push : (before : List LineAnswer) (line_answer : LineAnswer) → place_passed (place_behind before) line_answer ≡ place_behind (before ++ line_answer ∷ [])
place_push before line_answer = rw (count_push is_item before line_answer, count_push is_end before line_answer, count_push is_payment before line_answer) (by_slot line_answer)
  where
    same : (place : ReportPlace) → place ≡ record { items = place.items + 0; ends = place.ends + 0; payments = place.payments + 0 }
    same place =
        let items : place.items + 0 ≡ place.items = omega arith in
        let ends : place.ends + 0 ≡ place.ends = omega arith in
        let payments : place.payments + 0 ≡ place.payments = omega arith in
        rw (items, ends, payments) refl

    by_slot : (line_answer : LineAnswer) → place_passed (place_behind before) line_answer ≡ record {
      items = count_by is_item before + cond (is_item line_answer) 1 0;
      ends = count_by is_end before + cond (is_end line_answer) 1 0;
      payments = count_by is_payment before + cond (is_payment line_answer) 1 0;
    }
    by_slot line_answers.Quiet = same (place_behind before)
    by_slot line_answers.Bad = same (place_behind before)
    by_slot line_answers.Item = ap (λ (place : ReportPlace). record place { items = count_by is_item before + 1 }) (same (place_behind before))
    by_slot line_answers.Commit = ap (λ (place : ReportPlace). record place { ends = count_by is_end before + 1 }) (same (place_behind before))
    by_slot line_answers.NotLive = same (place_behind before)
    by_slot (line_answers.Payment secret) = ap (λ (place : ReportPlace). record place { payments = count_by is_payment before + 1 }) (same (place_behind before))

pub place_more : (all : List LineAnswer) (k : ℕ) → k < length all
    → place_passed (place_behind (take k all)) (get_or all k line_answers.Quiet) ≡ place_behind (take (k + 1) all)
place_more all k below = place_push (take k all) (get_or all k line_answers.Quiet) ∙ ap place_behind (sym (take_more all k line_answers.Quiet below))

-- ---- texts

-- the text of the line answer at an index
abbrev pub text_at : ℕ → LiveReport → List LineAnswer → ℕ → List ℕ
text_at workers report all k = slot_text workers report (k + 1) (place_behind (take k all)) (get_or all k line_answers.Quiet)

text_suc : (workers : ℕ) (report : LiveReport) (all : List LineAnswer) (k : ℕ) → slots_before workers report all
    (suc k) ≡ slots_before workers report all k ++ text_at workers report all k
unfolding slots_before
text_suc workers report all k = refl

text_more : (workers : ℕ) (report : LiveReport) (all : List LineAnswer) (k : ℕ) → slots_before workers report all (k
    + 1) ≡ slots_before workers report all k ++ text_at workers report all k
text_more workers report all k =
    subst (λ n. slots_before workers report all n ≡ slots_before workers report all k
    ++ text_at workers report all k) (sym (add-one k)) (text_suc workers report all k)

pub no_text : (workers : ℕ) (report : LiveReport) (all : List LineAnswer) → slots_before workers report all 0 ≡ []
unfolding slots_before
no_text workers report all = refl

text_behind : (workers : ℕ) (report : LiveReport) (all : List LineAnswer) (k n : ℕ)
    → (more : List ℕ) × (slots_before workers report all (k + n) ≡ slots_before workers report all k ++ more)
text_behind workers report all k zero =
    let same : k + zero ≡ k = omega arith in
    ([], rw same (sym (append-nil (slots_before workers report all k))))
text_behind workers report all k (suc n) =
    let others = text_behind workers report all k n in
    let next : k + suc n ≡ k + n + 1 = omega arith in (
      others.0 ++ text_at workers report all (k + n),
      ap (slots_before workers report all) next ∙ text_more workers report all (k + n)
          ∙ ap (λ (t : List ℕ). t ++ text_at workers report all (k + n)) others.1
          ∙ append_assoc (slots_before workers report all k) others.0 (text_at workers report all (k + n)),
    )

-- the same, by the number of line answers before and the place after them
pub text_here : (workers : ℕ) (report : LiveReport) (all : List LineAnswer) (k number : ℕ) (place : ReportPlace) → number ≡ k → place ≡ place_behind (take k all)
    → slot_text workers report (number + 1) place (get_or all k line_answers.Quiet) ≡ text_at workers report all k
text_here workers report all k number place number_is place_is =
    ap (λ (n : ℕ). slot_text workers report (n + 1) place (get_or all k line_answers.Quiet)) number_is
    ∙ ap (λ (p : ReportPlace). slot_text workers report (k + 1) p (get_or all k line_answers.Quiet)) place_is

-- one more line answer was written
pub one_more : (workers : ℕ) (report : LiveReport) (all : List LineAnswer) (k : ℕ) (old mid new : OutputState)
    → Tells old mid (slots_before workers report all k) → Tells mid new (text_at workers report all k)
    → Tells old new (slots_before workers report all (k + 1))
one_more workers report all k old mid new so_far told =
    subst (Tells old new) (sym (text_more workers report all k)) (tells_both old mid new
    (slots_before workers report all k) (text_at workers report all k) so_far told)

-- a part of it, and then a fault
pub stops : (workers : ℕ) (report : LiveReport) (all : List LineAnswer) (k : ℕ) (old mid new : OutputState)
    (fault : SendFault) → k < length all → Tells old mid (slots_before workers report all k)
    → TellsPart mid new (text_at workers report all k) fault → TellsPart old new (slots_before workers report all (length all)) fault
stops workers report all k old mid new fault below so_far part =
    let behind = tells_part_behind old mid new (slots_before workers report all k) (text_at workers report all k) fault so_far part in
    let others = text_behind workers report all (k + 1) (length all - (k + 1)) in
    let end : k + 1 + (length all - (k + 1)) ≡ length all = omega (arith, below) in
    subst (λ (t : List ℕ). TellsPart old new t fault)
    (sym (ap (λ (t : List ℕ). t ++ others.0) (text_more workers report all k)) ∙ sym others.1 ∙ ap (slots_before workers report all) end)
    (tells_part_more old new (slots_before workers report all k ++ text_at workers report all k) others.0 fault behind)

-- ---- on which maps payments are answered

-- and one line more
pub one_more_fresh : (workers : ℕ) (report : LiveReport) (all : List LineAnswer) (n : ℕ)
    → AreFreshThere workers report all n
    → IsFreshThere workers report (place_behind (take n all)) (get_or all n line_answers.Quiet)
    → AreFreshThere workers report all (n + 1)
one_more_fresh workers report all n so_far here = λ k below. elim (cases_lt k n) [
  | inl lt ↦ so_far k lt
  | inr le ↦ let same : n ≡ k = omega (arith, below, le) in
      subst (λ i. IsFreshThere workers report (place_behind (take i all)) (get_or all i line_answers.Quiet)) same here
]
