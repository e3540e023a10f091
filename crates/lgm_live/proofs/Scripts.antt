-- A report on what a script requests.
use Rattle.std.proofs.Common.{◌≡◌, ℕ, ◌+◌, ◌/◌, ◌%◌, ◌<◌, ◌≤◌, Bool, true, cond, List, [], ◌∷◌, ◌++◌, length, Option}
use Rattle.std.proofs.Common.{Some, None, Result, Ok, Err, codes, refl, sym, ap, subst, ◌∙◌, append_assoc, arith}
use Rattle.std.specs.Prelude.{◌&&◌, MatchOption, count_by, nat_eq, slice_get}
use Rattle.std.specs.Option.{IsSomeAnd, option_map}
use Rattle.std.specs.List.{AllZip, filter_map, cons_option}
use Rattle.std.specs.Result.{result_err}
use Rattle.std.specs.Global.{Vec}
use Rattle.std.specs.Cmp.Lexicographic.{pointwise}
use Rattle.std.proofs.lemmas.Bool.{eq-eqb}
use Rattle.std.proofs.lemmas.List.{length-map}
use Rattle.std.proofs.lemmas.List.FromFn.{length-map-range_with_len, get_or-map-range_with_len}
use Rattle.std.proofs.lemmas.Option.{slice_get-get_or, slice_get-map}
use Rattle.std.proofs.lemmas.Slice.Zip.{AllZip-left}
use Rattle.std.proofs.Math.Nat.{mod-lt}
use Rattle.lgm_wire.specs.declared.chain_hash.ChainHash.{ChainHash}
use Rattle.lgm_live.proofs.Slots.{count_by-cons}
use Rattle.lgm_store.specs.declared.op.Op.{Op}
use Rattle.lgm_store.specs.History.{fold}
use Rattle.lgm_route.specs.declared.request.Request.{Request as RouteRequest}
use Rattle.lgm_graph.specs.declared.route.Hop.{Hop}
use Rattle.lgm_route.specs.declared.fault.RouteFault.{RouteFault}
use Rattle.lgm_route.specs.Words.{route_word}
use Rattle.lgm_script.specs.declared.grammar.item.Item.{Item}
use Rattle.lgm_script.specs.declared.grammar.route_parameters.RouteParameters.{RouteParameters}
use Rattle.lgm_script.specs.declared.grammar.command.Command.{Command}
use Rattle.lgm_script.specs.declared.grammar.command.Command.TheVariants as requests
use Rattle.lgm_answers.specs.Outcomes.{outcome_of, with_outcome, outcomes_behind, outcomes}
use Rattle.lgm_answers.specs.Routing.{asked_route}
use Rattle.lgm_script.specs.Command.{item_in}
use Rattle.lgm_answers.specs.Script.{items_of, is_commit}
use Rattle.lgm_live.specs.declared.report.LiveAnswer.{LiveAnswer}
use Rattle.lgm_live.specs.declared.report.LiveReport.{LiveReport}
use Rattle.lgm_live.specs.ParsedScript.{batches_behind, batches_of, payments_of, dealt_from, list_for, lists_of}
use Rattle.lgm_live.specs.Answers.{IsAnsweredBy, AreAnsweredBy}
use Rattle.lgm_live.specs.Batches.{items_of as all_items, ends_behind}
use Rattle.lgm_live.specs.Running.{IsReportOn}
use Rattle.lgm_live.specs.Text.{same_hop, same_answer, replay_word, AreSame}
use Rattle.lgm_live.proofs.DealtPaymentLaws.{dealt_in_turn}
use Rattle.lgm_live.proofs.Slots.{IsFull}

-- ---- an answer is the same as itself

same_numbers : (xs : List ℕ) → pointwise nat_eq xs xs ≡ true
same_numbers [] = refl
same_numbers (x ∷ xs) = ap (λ b. b && pointwise nat_eq xs xs) (eq-eqb x x refl) ∙ same_numbers xs

hop_is_same : (hop : Hop) → same_hop hop hop ≡ true
hop_is_same hop =
    simp (
      eq-eqb hop.scid hop.scid refl,
      same_numbers hop.from.0,
      same_numbers hop.to.0,
      eq-eqb hop.amount hop.amount refl,
      eq-eqb hop.expiry hop.expiry refl,
    ) refl

hops_are_same : (hops : List Hop) → pointwise same_hop hops hops ≡ true
hops_are_same [] = refl
hops_are_same (hop ∷ hops) = ap (λ b. b && pointwise same_hop hops hops) (hop_is_same hop) ∙ hops_are_same hops

answer_is_same : (answer : Result (List Hop) RouteFault) → same_answer answer answer ≡ true
answer_is_same (Ok hops) = hops_are_same hops
answer_is_same (Err fault) = same_numbers (route_word fault)

replay_is_same : (known : Option (List ℕ)) (ops : List Op) (payment : RouteParameters) (answer : LiveAnswer)
    → IsAnsweredBy known ops (asked_route payment) answer
    → replay_word known ops payment answer ≡ codes "same"
replay_is_same known ops payment answer answered =
    ap (λ (other : Result (List Hop) RouteFault). cond (same_answer answer.result other) (codes "same") (codes "other")) (sym answered.1)
    ∙ ap (λ (b : Bool). cond b (codes "same") (codes "other")) (answer_is_same answer.result)

-- ---- the answer to a payment

zipped : {A B : Type 0} (Q : A → B → Type 0) (xs : List A) (ys : List B) (k : ℕ) (x : A) → AllZip Q xs ys
    → slice_get xs k ≡ Some x → (y : B) × (slice_get ys k ≡ Some y) × Q x y
zipped {A} {B} Q xs ys k x all at =
    found (slice_get ys k) (subst (λ (o : Option A).
    MatchOption o (Unit {0}) (λ x. IsSomeAnd (slice_get ys k) (Q x))) at (AllZip-left Q xs ys all k)) refl
  where
    found : (o : Option B) → IsSomeAnd o (Q x) → slice_get ys k ≡ o → (y : B) × (slice_get ys k ≡ Some y) × Q x y
    found None some is = absurd some
    found (Some y) some is = (y, is, some)

list_at : (workers worker : ℕ) (asked : List Command) → worker < workers
    → slice_get (lists_of workers asked) worker ≡ Some (list_for workers (payments_of asked) worker)
list_at workers worker asked below =
    let f = list_for workers (payments_of asked) in
    slice_get-get_or (lists_of workers asked) worker [] (omega (arith, below, length-map-range_with_len f 0 workers))
    ∙ ap (λ (l : List RouteRequest). Some l) (get_or-map-range_with_len f 0 workers worker worker [] below (omega arith))

request_at : (workers place : ℕ) (payments : List RouteParameters) (payment : RouteParameters) → 0 < workers → slice_get payments place ≡ Some payment
    → slice_get (list_for workers payments (place % workers)) (place / workers) ≡ Some (asked_route payment)
request_at workers place payments payment some at =
    slice_get-map asked_route (dealt_from workers (place % workers) 0 payments) (place / workers)
    ∙ ap (option_map asked_route) (dealt_in_turn workers place payments payment some at)

pub are_same : (chain : ChainHash) (known : Option (List ℕ)) (workers : ℕ) (asked : List Command)
    (report : LiveReport) → 0 < workers → IsReportOn chain known workers asked report
    → AreSame workers known report (payments_of asked)
are_same chain known workers asked report some is = λ place payment at.
    let worker = place % workers in
    let requests = list_for workers (payments_of asked) worker in
    let ops = report.ops.items in
    let list =
    zipped (λ (requests : List RouteRequest) (answers : Vec LiveAnswer).
    AreAnsweredBy known ops requests answers.items) (lists_of workers asked) report.answers.items worker
    requests is.answers (list_at workers worker asked (mod-lt place some)) in
    let answer =
    zipped (IsAnsweredBy known ops) requests list.0.items (place / workers) (asked_route payment) list.2
    (request_at workers place (payments_of asked) payment some at) in
    (answer.0, ap (λ (o : Option (Vec LiveAnswer)). whole place o) list.1 ∙ answer.1, replay_is_same known ops payment answer.0 answer.2)
  where
    whole : ℕ → Option (Vec LiveAnswer) → Option LiveAnswer
    whole place None = None
    whole place (Some list) = slice_get list.items (place / workers)

-- ---- how much a report has

one_more : {Y : Type 0} (o : Option Y) (found : List Y) (n : ℕ) → length found ≤ n → length (cons_option o found) ≤ n + 1
one_more None found n few = omega (arith, few)
one_more (Some y) found n few = omega (arith, few)

found_few : {Y : Type 0} (h : Command → Option Y) (asked : List Command) → length (filter_map h asked) ≤ length asked
found_few h [] = omega arith
found_few h (r ∷ asked) = let more = one_more (h r) (filter_map h asked) (length asked) (found_few h asked) in omega (arith, more)

items_behind : (items : List Item) (asked : List Command) → all_items (batches_behind items asked) ≡ items ++ items_of asked
items_behind items [] = refl
items_behind items (requests.Offer item ∷ asked) = items_behind (items ++ item ∷ []) asked ∙ append_assoc items (item ∷ []) (items_of asked)
items_behind items (requests.Commit ∷ asked) = ap (λ (l : List Item). items ++ l) (items_behind [] asked)
items_behind items (request ∷ asked) = items_behind items asked

-- a script has no more items than lines
pub items_few : (asked : List Command) → length (all_items (batches_of asked)) ≤ length asked
items_few asked = omega (arith, ap length (items_behind [] asked), found_few item_in asked)

batches_count : (items : List Item) (asked : List Command) → length (batches_behind items asked) ≡ count_by is_commit asked + 1
batches_count items [] = refl
batches_count items (requests.Offer item ∷ asked) =
    omega
    (arith, batches_count (items ++ item ∷ []) asked, count_by-cons is_commit (requests.Offer item) asked)
batches_count items (requests.Commit ∷ asked) = omega (arith, batches_count [] asked, count_by-cons is_commit requests.Commit asked)
batches_count items (request ∷ asked) =
    omega (arith, batches_count items asked, count_by-cons is_commit request asked)

ends_count : (chain : ChainHash) (before : List Item) (batches : List (List Item)) → length (ends_behind chain before batches) ≡ length batches
ends_count chain before [] = refl
ends_count chain before (batch ∷ batches) = omega (arith, ends_count chain (before ++ batch) batches)

outcomes_count : (chain : ChainHash) (history : List Op) (items : List Item) → length (outcomes_behind chain history items) ≡ length items
outcomes_count chain history [] = refl
outcomes_count chain history (item ∷ items) = omega (arith, outcomes_count chain (with_outcome history (outcome_of chain (fold history) item)) items)

pub is_full : (chain : ChainHash) (known : Option (List ℕ)) (workers : ℕ) (asked : List Command)
    (report : LiveReport) → IsReportOn chain known workers asked report → IsFull report asked
is_full chain known workers asked report is = record {
  outcomes =
      ap length is.outcomes ∙ length-map (outcomes chain (all_items (batches_of asked))) result_err
      ∙ outcomes_count chain [] (all_items (batches_of asked))
      ∙ ap length (items_behind [] asked);
  ends = ap length is.ends ∙ ends_count chain [] (batches_of asked) ∙ batches_count [] asked;
}
