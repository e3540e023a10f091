-- What lines request, all together and line by line.
use Rattle.std.proofs.Common.{◌≡◌, inl, inr, ℕ, ◌+◌, ◌%◌, ◌<◌, ◌≤◌, List, [], ◌∷◌, ◌++◌, length}
use Rattle.std.proofs.Common.{map, get_or, replicate, refl, sym, ap, ◌∙◌, append_assoc, arith}
use Rattle.std.proofs.lemmas.List.{append-nil, length-set, length-replicate, get_or-set_same, get_or-set_other, get_or-replicate}
use Rattle.std.proofs.lemmas.List.FromFn.{fill_by_all}
use Rattle.std.proofs.lemmas.Bool.Decides.{eqb_tells}
use Rattle.lgm_route.specs.declared.request.Request.{Request as RouteRequest}
use Rattle.lgm_script.specs.declared.grammar.route_parameters.RouteParameters.{RouteParameters}
use Rattle.lgm_script.specs.declared.grammar.command.Command.{Command}
use Rattle.lgm_script.specs.declared.grammar.command.Command.TheVariants as requests
use Rattle.lgm_answers.specs.Routing.{asked_route}
use Rattle.lgm_live.specs.ParsedScript.{batches_behind, payments_of, dealt_from, list_for}
use Rattle.lgm_live.specs.inner.Gathered.{Gathered, line_answer_of, appended_to, with_request, with_line, IsParsed}
use Rattle.lgm_live.specs.inner.Reading.{with_lines}
use Rattle.lgm_live.proofs.DealtPaymentLaws.{dealt_here, dealt_there}

-- nothing was requested
abbrev pub nothing_asked : ℕ → Gathered
nothing_asked workers = record { batches = []; batch = []; lists = replicate workers []; payments = 0; line_answers = [] }

-- ---- one more line

pub with_lines-push : (so_far : Gathered) (asked : List Command) (request : Command)
    → with_lines so_far (asked ++ request ∷ []) ≡ with_line (with_lines so_far asked) request
with_lines-push so_far [] request = refl
with_lines-push so_far (r ∷ asked) request = with_lines-push (with_line so_far r) asked request

slots_stay : (so_far : Gathered) (request : Command) → (with_request so_far request).line_answers ≡ so_far.line_answers
slots_stay so_far requests.Commit = refl
slots_stay so_far _ = refl

workers_stay : (so_far : Gathered) (request : Command) → length (with_line so_far request).lists ≡ length so_far.lists
workers_stay so_far (requests.Route payment) = length-set so_far.lists (so_far.payments % length so_far.lists) _
workers_stay so_far _ = refl

payments_grow : (so_far : Gathered) (request : Command) → (with_line so_far request).payments ≤ so_far.payments + 1
payments_grow so_far (requests.Route payment) = omega arith
payments_grow so_far _ = omega arith

-- ---- all lines

pub workers_are : (so_far : Gathered) (asked : List Command) → length (with_lines so_far asked).lists ≡ length so_far.lists
workers_are so_far [] = refl
workers_are so_far (request ∷ asked) = workers_are (with_line so_far request) asked ∙ workers_stay so_far request

pub payments_few : (so_far : Gathered) (asked : List Command) → (with_lines so_far asked).payments ≤ so_far.payments + length asked
payments_few so_far [] = omega arith
payments_few so_far (request ∷ asked) = omega (arith, payments_few (with_line so_far request) asked, payments_grow so_far request)

slots_are : (so_far : Gathered) (asked : List Command) → (with_lines so_far asked).line_answers ≡ so_far.line_answers ++ map line_answer_of asked
slots_are so_far [] = sym (append-nil so_far.line_answers)
slots_are so_far (request ∷ asked) =
    slots_are (with_line so_far request) asked ∙ ap (λ line_answers. line_answers ++ line_answer_of request ∷ [] ++ map line_answer_of asked) (slots_stay so_far request)
    ∙ append_assoc so_far.line_answers (line_answer_of request ∷ []) (map line_answer_of asked)

batches_are : (so_far : Gathered) (asked : List Command) → (with_lines so_far asked).batches
    ++ (with_lines so_far asked).batch ∷ [] ≡ so_far.batches ++ batches_behind so_far.batch asked
batches_are so_far [] = refl
batches_are so_far (requests.Commit ∷ asked) =
    batches_are (with_line so_far requests.Commit) asked ∙ append_assoc so_far.batches (so_far.batch ∷ []) (batches_behind [] asked)
batches_are so_far (request ∷ asked) = batches_are (with_line so_far request) asked

-- what one worker is dealt of payments from a place on
abbrev dealt_on : ℕ → ℕ → ℕ → List RouteParameters → List RouteRequest
dealt_on workers worker place payments = map asked_route (dealt_from workers worker place payments)

appended_own : (lists : List (List RouteRequest)) (worker own : ℕ) (request : RouteRequest)
    (others : List RouteRequest) → worker < length lists → own ≡ worker
    → get_or (appended_to lists own request) worker [] ++ others ≡ get_or lists worker [] ++ (request ∷ others)
appended_own lists worker own request others below is =
    ap (λ (l : List RouteRequest). l ++ others)
    (ap (λ (o : ℕ). get_or (appended_to lists o request) worker []) is ∙ get_or-set_same lists worker (get_or lists worker [] ++ request ∷ []) [] below)
    ∙ append_assoc (get_or lists worker []) (request ∷ []) others

lists_with : (so_far : Gathered) (payment : RouteParameters) (payments : List RouteParameters) (workers worker : ℕ) → length so_far.lists ≡ workers → worker < workers
    → get_or (appended_to so_far.lists (so_far.payments % length so_far.lists) (asked_route payment)) worker []
    ++ dealt_on workers worker (so_far.payments + 1) payments
    ≡ get_or so_far.lists worker [] ++ dealt_on workers worker so_far.payments (payment ∷ payments)
lists_with so_far payment payments workers worker many below =
    let own = so_far.payments % workers in
    let same : so_far.payments % length so_far.lists ≡ own = ap (λ w. so_far.payments % w) many in
    let others = dealt_on workers worker (so_far.payments + 1) payments in
    ap (λ o. get_or (appended_to so_far.lists o (asked_route payment)) worker [] ++ others) same
    ∙ elim (eqb_tells own worker) [
      | inl is ↦ appended_own so_far.lists worker own (asked_route payment) others (omega (arith, many, below)) is.1
          ∙ ap (λ ps. get_or so_far.lists worker [] ++ map asked_route ps) (sym (dealt_here workers worker so_far.payments payment payments is.1))
      | inr not ↦ ap (λ (l : List RouteRequest). l ++ others) (get_or-set_other so_far.lists own worker _ [] (λ e. not.1 (sym e)))
          ∙ ap (λ ps. get_or so_far.lists worker [] ++ map asked_route ps) (sym (dealt_there workers worker so_far.payments payment payments not.1))
    ]

lists_are : (so_far : Gathered) (asked : List Command) (workers worker : ℕ) → length so_far.lists ≡ workers → worker < workers
    → get_or (with_lines so_far asked).lists worker [] ≡ get_or so_far.lists worker [] ++ dealt_on workers worker so_far.payments (payments_of asked)
lists_are so_far [] workers worker many below = sym (append-nil (get_or so_far.lists worker []))
lists_are so_far (requests.Route payment ∷ asked) workers worker many below =
    lists_are (with_line so_far (requests.Route payment)) asked workers worker (workers_stay so_far (requests.Route payment) ∙ many) below
    ∙ lists_with so_far payment (payments_of asked) workers worker many below
lists_are so_far (request ∷ asked) workers worker many below =
    lists_are (with_line so_far request) asked workers worker many below

-- ---- the parsed script

pub agenda_is : (workers : ℕ) (asked : List Command) (last : Gathered) → last ≡ record (with_lines (nothing_asked workers) asked) {
  batches = (with_lines (nothing_asked workers) asked).batches ++ (with_lines (nothing_asked workers) asked).batch ∷ [];
  batch = [];
} → IsParsed workers asked last
agenda_is workers asked last is =
    let first = nothing_asked workers in
    let all = with_lines first asked in
    let many : length first.lists ≡ workers = length-replicate workers [] in
    rw is (record {
      batches = batches_are first asked;
      lists =
          fill_by_all (list_for workers (payments_of asked)) all.lists workers [] (workers_are first asked ∙ many)
          (λ k below. lists_are first asked workers k many below ∙ ap (λ (l : List RouteRequest). l
          ++ dealt_on workers k 0 (payments_of asked)) (get_or-replicate workers k [] [] below));
      line_answers = slots_are first asked;
    })
