-- The texts of commands, by their line answers.
use Rattle.std.proofs.Common.{◌≡◌, ℕ, zero, suc, ◌+◌, ◌<◌, ◌≤◌, Bool, cond, List, [], ◌∷◌, ◌++◌, length, map}
use Rattle.std.proofs.Common.{get_or, take, Option, Some, None, codes, refl, sym, ap, subst, ◌∙◌, arith}
use Rattle.std.specs.Prelude.{is_some, IfSome, count_by, slice_get}
use Rattle.std.specs.List.{filter_map, cons_option}
use Rattle.std.proofs.lemmas.List.{length-map, take-map}
use Rattle.std.proofs.lemmas.Option.{slice_get_within}
use Rattle.std.proofs.Math.ListN.{get_or-map}
use Rattle.std.proofs.lemmas.List.Sums.{sum_by-cons}
use Rattle.lgm_script.specs.declared.grammar.route_parameters.RouteParameters.{RouteParameters}
use Rattle.lgm_script.specs.declared.grammar.command.Command.{Command}
use Rattle.lgm_script.specs.declared.grammar.command.Command.TheVariants as requests
use Rattle.lgm_answers.specs.Answer.{outcome_text, route_text}
use Rattle.lgm_script.specs.Text.{commit_line}
use Rattle.lgm_script.specs.Command.{item_in}
use Rattle.lgm_answers.specs.Script.{items_of, is_commit}
use Rattle.lgm_live.specs.declared.report.LiveAnswer.{LiveAnswer}
use Rattle.lgm_live.specs.declared.report.LiveReport.{LiveReport}
use Rattle.lgm_live.specs.declared.parsed_script.LineAnswer.{LineAnswer}
use Rattle.lgm_live.specs.declared.parsed_script.LineAnswer.TheVariants as line_answers
use Rattle.lgm_live.specs.ParsedScript.{payment_in, payments_of}
use Rattle.lgm_live.specs.inner.Gathered.{line_answer_of}
use Rattle.lgm_live.specs.Text.{answer_at, at_line, replay_word, payment_text, live_text_for, live_text_before, live_text, AreSame}
use Rattle.lgm_live.specs.inner.Telling.{is_item, is_end, is_payment, place_behind, same_text, slot_text, slots_before, IsThere, AreThere}
use Rattle.lgm_live.specs.inner.Telling.{IsFreshThere, AreFreshThere}
use Rattle.lgm_live.specs.Freshness.{HasBatches, IsFresh, AreFresh}

pub count_by-cons : {X : Type 0} (p : X → Bool) (x : X) (xs : List X) → count_by p (x ∷ xs) ≡ cond (p x) 1 0 + count_by p xs
count_by-cons p x xs = sum_by-cons (λ y. cond (p y) 1 0) x xs

-- ---- counts

as_one : Bool → ℕ
as_one b = cond b 1 0

one_found : {Y : Type 0} (o : Option Y) (found : List Y) (p : LineAnswer → Bool) (line_answer : LineAnswer) (all : List LineAnswer)
    → is_some o ≡ p line_answer → length found ≡ count_by p all
    → length (cons_option o found) ≡ count_by p (line_answer ∷ all)
unfolding as_one
one_found None found p line_answer all same count = omega (arith, count, count_by-cons p line_answer all, ap as_one same)
one_found (Some y) found p line_answer all same count = omega (arith, count, count_by-cons p line_answer all, ap as_one same)

-- what is found in commands, counted by their line answers
found_count : {Y : Type 0} (h : Command → Option Y) (p : LineAnswer → Bool) → ((r : Command) → is_some (h r)
    ≡ p (line_answer_of r)) → (asked : List Command) → length (filter_map h asked) ≡ count_by p (map line_answer_of asked)
found_count h p same [] = refl
found_count h p same (r ∷ asked) = one_found (h r) (filter_map h asked) p (line_answer_of r) (map line_answer_of asked) (same r) (found_count h p same asked)

offers : (r : Command) → is_some (item_in r) ≡ is_item (line_answer_of r)
offers requests.Quiet = refl
offers _ = refl

pays : (r : Command) → is_some (payment_in r) ≡ is_payment (line_answer_of r)
pays requests.Quiet = refl
pays _ = refl

commits : (r : Command) → is_commit r ≡ is_end (line_answer_of r)
commits requests.Quiet = refl
commits _ = refl

items_count : (asked : List Command) → length (items_of asked) ≡ count_by is_item (map line_answer_of asked)
items_count asked = found_count item_in is_item offers asked

payments_count : (asked : List Command) → length (payments_of asked) ≡ count_by is_payment (map line_answer_of asked)
payments_count asked = found_count payment_in is_payment pays asked

commits_count : (asked : List Command) → count_by is_commit asked ≡ count_by is_end (map line_answer_of asked)
unfolding as_one
commits_count [] = refl
commits_count (r ∷ asked) =
    omega (arith, commits_count asked, count_by-cons is_commit r asked, count_by-cons is_end (line_answer_of r) (map line_answer_of asked), ap as_one (commits r))

one_before : {Y : Type 0} (o : Option Y) (found before : List Y) (y : Y) → slice_get found (length before)
    ≡ Some y → slice_get (cons_option o found) (length (cons_option o before)) ≡ Some y
one_before None found before y is = is
one_before (Some x) found before y is = is

-- what is found at an index comes after what is found before
found_at : {Y : Type 0} (h : Command → Option Y) (asked : List Command) (k : ℕ) (y : Y) → k < length asked
    → h (get_or asked k requests.Quiet) ≡ Some y
    → slice_get (filter_map h asked) (length (filter_map h (take k asked))) ≡ Some y
found_at h [] k y below is = absurd (omega (arith, below))
found_at h (r ∷ asked) zero y below is = ap (λ o. slice_get (cons_option o (filter_map h asked)) 0) is
found_at h (r ∷ asked) (suc k) y below is =
    one_before (h r) (filter_map h asked) (filter_map h (take k asked)) y
    (found_at h asked k y (omega (arith, below)) is)

-- ---- the text

-- a payment after these has an answer, and the replay gives the same
abbrev IsPaid : ℕ → Option (List ℕ) → LiveReport → List Command → Command → Type 0
IsPaid workers known report before request = (payment : RouteParameters) → request ≡ requests.Route payment
    → (answer : LiveAnswer) × (answer_at workers report.answers.items (length (payments_of before))
    ≡ Some answer) × (replay_word known report.ops.items payment answer ≡ codes "same")

paid_text : (workers : ℕ) (known : Option (List ℕ)) (report : LiveReport) (number : ℕ) (before : List Command)
    (payment : RouteParameters) (answer : LiveAnswer)
    → answer_at workers report.answers.items (length (payments_of before)) ≡ Some answer
    → replay_word known report.ops.items payment answer ≡ codes "same"
    → live_text_for workers known report number before (requests.Route payment)
    ≡ slot_text workers report number (place_behind (map line_answer_of before)) (line_answers.Payment payment.secret)
paid_text workers known report number before payment answer at same =
    ap (payment_text known report.ops.items number payment) at
    ∙ ap (λ (word : List ℕ). at_line number answer.version word ++ route_text number payment.secret answer.result) same
    ∙ sym (ap (same_text number payment.secret) at)
    ∙ ap (λ (place : ℕ). same_text number payment.secret (answer_at workers report.answers.items place)) (payments_count before)

one_told : (workers : ℕ) (known : Option (List ℕ)) (report : LiveReport) (number : ℕ) (before : List Command)
    (request : Command) → IsPaid workers known report before request
    → live_text_for workers known report number before request ≡ slot_text workers report number (place_behind (map line_answer_of before)) (line_answer_of request)
one_told workers known report number before (requests.Offer item) paid =
    ap (λ (place : ℕ). outcome_text number (get_or report.outcomes.items place None)) (items_count before)
one_told workers known report number before requests.Commit paid =
    ap (λ (place : ℕ). commit_line number (get_or report.ends.items place 0)) (commits_count before)
one_told workers known report number before (requests.Route payment) paid =
    let has = paid payment refl in paid_text workers known report number before payment has.0 has.1 has.2
one_told workers known report number before _ paid = refl

paid_at : (workers : ℕ) (known : Option (List ℕ)) (report : LiveReport) (asked : List Command) (k : ℕ)
    → AreSame workers known report (payments_of asked) → k < length asked
    → IsPaid workers known report (take k asked) (get_or asked k requests.Quiet)
paid_at workers known report asked k same below =
    λ payment is. same (length (payments_of (take k asked))) payment
    (found_at payment_in asked k payment below (ap payment_in is))

text_before : (workers : ℕ) (known : Option (List ℕ)) (report : LiveReport) (asked : List Command) (k : ℕ)
    → AreSame workers known report (payments_of asked) → k ≤ length asked
    → live_text_before workers known report asked k ≡ slots_before workers report (map line_answer_of asked) k
unfolding live_text_before slots_before
text_before workers known report asked zero same within = refl
text_before workers known report asked (suc k) same within =
    let below : k < length asked = omega (arith, within) in
    let request = get_or asked k requests.Quiet in
    ap (λ (text : List ℕ). text ++ live_text_for workers known report (k + 1) (take k asked) request)
    (text_before workers known report asked k same (omega (arith, within)))
    ∙ ap (λ (text : List ℕ). slots_before workers report (map line_answer_of asked) k ++ text)
    (one_told workers known report (k + 1) (take k asked) request (paid_at workers known report asked k same below)
    ∙ ap (λ (before : List LineAnswer). slot_text workers report (k + 1) (place_behind before) (line_answer_of request)) (sym (take-map line_answer_of k asked))
    ∙ ap (slot_text workers report (k + 1) (place_behind (take k (map line_answer_of asked)))) (sym (get_or-map line_answer_of asked k requests.Quiet)))

-- the text of a script is that of its line answers
pub text_is : (workers : ℕ) (known : Option (List ℕ)) (report : LiveReport) (asked : List Command)
    (all : List LineAnswer) → AreSame workers known report (payments_of asked) → all ≡ map line_answer_of asked
    → live_text workers known report asked ≡ slots_before workers report all (length all)
text_is workers known report asked all same is =
    rw is (text_before workers known report asked (length asked) same (omega arith)
    ∙ ap (slots_before workers report (map line_answer_of asked)) (sym (length-map asked line_answer_of)))

-- ---- what is written is in the report

count_take : {X : Type 0} (p : X → Bool) (xs : List X) (k : ℕ) → count_by p (take k xs) ≤ count_by p xs
count_take p [] k = none k
  where
    none : (k : ℕ) → count_by p (take k []) ≤ 0
    none zero = omega arith
    none (suc k) = omega arith
count_take p (x ∷ xs) zero = omega arith
count_take p (x ∷ xs) (suc k) = omega (arith, count_take p xs k, count_by-cons p x xs, count_by-cons p x (take k xs))

-- a report has an outcome for each item, and an end for each batch
pub record IsFull (report : LiveReport) (asked : List Command) : Type 0 where
  pub outcomes : length report.outcomes.items ≡ length (items_of asked)
  pub ends : length report.ends.items ≡ count_by is_commit asked + 1

there_at : (workers : ℕ) (known : Option (List ℕ)) (report : LiveReport) (asked : List Command) (k : ℕ)
    (request : Command) → IsFull report asked → AreSame workers known report (payments_of asked)
    → k < length asked
    → get_or asked k requests.Quiet ≡ request → IsThere workers report (place_behind (map line_answer_of (take k asked))) (line_answer_of request)
there_at workers known report asked k (requests.Offer item) full same below is =
    let within = slice_get_within (items_of asked) (length (items_of (take k asked))) item (found_at item_in asked k item below (ap item_in is)) in
    omega (arith, within, items_count (take k asked), full.outcomes)
there_at workers known report asked k requests.Commit full same below is =
    omega (arith, count_take is_commit asked k, commits_count (take k asked), full.ends)
there_at workers known report asked k (requests.Route payment) full same below is =
    let has = same (length (payments_of (take k asked))) payment (found_at payment_in asked k payment below (ap payment_in is)) in
    ap is_some (ap (answer_at workers report.answers.items) (sym (payments_count (take k asked))) ∙ has.1)
there_at workers known report asked k _ full same below is = tt

pub all_there : (workers : ℕ) (known : Option (List ℕ)) (report : LiveReport) (asked : List Command)
    (all : List LineAnswer) → IsFull report asked → AreSame workers known report (payments_of asked)
    → all ≡ map line_answer_of asked
    → AreThere workers report all
all_there workers known report asked all full same is = rw is (λ k below.
    let within : k < length asked = omega (arith, below, length-map asked line_answer_of) in
    let here = there_at workers known report asked k (get_or asked k requests.Quiet) full same within refl in
    subst (λ (before : List LineAnswer). IsThere workers report (place_behind before)
    (get_or (map line_answer_of asked) k line_answers.Quiet)) (sym (take-map line_answer_of k asked))
    (subst (IsThere workers report (place_behind (map line_answer_of (take k asked)))) (sym (get_or-map line_answer_of asked k requests.Quiet)) here))

-- ---- on which maps payments are answered

fresh_for : (workers : ℕ) (report : LiveReport) (before : List Command) (request : Command)
    → IsFreshThere workers report (place_behind (map line_answer_of before)) (line_answer_of request)
    → IsFresh workers report before request
fresh_for workers report before (requests.Route payment) fresh =
    subst (λ batches. IfSome (answer_at workers report.answers.items (length (payments_of before))) (HasBatches report batches)) (sym (commits_count before))
    (subst (λ place. IfSome (answer_at workers report.answers.items place)
    (HasBatches report (count_by is_end (map line_answer_of before)))) (sym (payments_count before)) fresh)
fresh_for workers report before _ fresh = tt

pub all_fresh : (workers : ℕ) (report : LiveReport) (asked : List Command) (all : List LineAnswer)
    → all ≡ map line_answer_of asked → AreFreshThere workers report all (length all) → AreFresh workers report asked
all_fresh workers report asked all is fresh = λ k below.
    let within : k < length all = omega (arith, below, ap length is, length-map asked line_answer_of) in
    let here = subst (λ all. IsFreshThere workers report (place_behind (take k all)) (get_or all k line_answers.Quiet)) is (fresh k within) in
    fresh_for workers report (take k asked) (get_or asked k requests.Quiet)
    (subst (IsFreshThere workers report (place_behind (map line_answer_of (take k asked)))) (get_or-map line_answer_of asked k requests.Quiet)
    (subst (λ (before : List LineAnswer). IsFreshThere workers report (place_behind before)
    (get_or (map line_answer_of asked) k line_answers.Quiet)) (take-map line_answer_of k asked) here))
