-- Answers over lists of operations, one of which is a prefix of another.
use Rattle.std.proofs.Common.{◌≡◌, ℕ, ◌+◌, ◌-◌, ◌<◌, ◌≤◌, List, [], ◌∷◌, ◌++◌, length, length-append}
use Rattle.std.proofs.Common.{take, drop, get_or, Option, refl, inl, inr, sym, ap, subst, ◌∙◌, arith}
use Rattle.std.specs.Prelude.{All}
use Rattle.std.specs.List.{AllZip}
use Rattle.std.proofs.lemmas.List.{take-append-le, take_more}
use Rattle.std.proofs.Math.Seq.{take-length}
use Rattle.std.proofs.lemmas.List.Elements.{All-head, All-tail, All-cons, All-take, All-drop, All-contains}
use Rattle.std.proofs.lemmas.List.Sorted.{IsNonDecreasingBy-push}
use Rattle.std.proofs.lemmas.Slice.Zip.{all_zipped_more}
use mathlib.Core.List.{IsPrefix}
use Rattle.lgm_par.proofs.PlacewiseLaws.{zip_both, zip_weaker}
use Rattle.lgm_store.specs.declared.op.Op.{Op}
use Rattle.lgm_store.specs.History.{fold}
use Rattle.lgm_graph.specs.Edges.{edges_of}
use Rattle.lgm_route.specs.declared.request.Request.{Request}
use Rattle.lgm_route.specs.Choice.{answer_of}
use Rattle.logbook.specs.Pages.{Book}
use Rattle.lgm_board.specs.Handles.{Sight}
use Rattle.lgm_board.specs.Lists.{IsLonger}
use Rattle.lgm_live.specs.declared.report.LiveAnswer.{LiveAnswer}
use Rattle.lgm_live.specs.declared.worker.WorkerResult.{WorkerResult}
use Rattle.lgm_live.specs.Answers.{IsAnsweredBy, AreAnsweredBy, NeverFall, IsAtEnd}
use Rattle.lgm_live.specs.inner.WorkerResult.{HasWorked, AreOf, HaveWorked}

-- the first elements of a list are those of a list that extends it
take_begun : (ops more : List Op) (n : ℕ) → IsPrefix ops more → n ≤ length ops → take n ops ≡ take n more
take_begun ops more n begins le = sym (take-append-le n ops begins.0 le) ∙ ap (take n) begins.1

-- an answer over other operations, of which the first ones are the same
answer_same : (known : Option (List ℕ)) (ops others : List Op) (request : Request) (answer : LiveAnswer)
    → answer.version ≤ length others → take answer.version ops ≡ take answer.version others
    → IsAnsweredBy known ops request answer → IsAnsweredBy known others request answer
answer_same known ops others request answer le same h = (le, h.1 ∙ ap (λ (first : List Op). answer_of (edges_of known (fold first)) request) same)

answer_more : (known : Option (List ℕ)) (ops more : List Op) → IsPrefix ops more → (request : Request)
    (answer : LiveAnswer) → IsAnsweredBy known ops request answer → IsAnsweredBy known more request answer
answer_more known ops more begins request answer h =
    answer_same known ops more request answer
    (omega (arith, h.0, ap length begins.1, length-append ops begins.0))
    (take_begun ops more answer.version begins h.0) h

-- answers stay right while the list grows
answers_more : (known : Option (List ℕ)) (ops more : List Op) (requests : List Request)
    (answers : List LiveAnswer) → IsPrefix ops more → AreAnsweredBy known ops requests answers
    → AreAnsweredBy known more requests answers
answers_more known ops more requests answers begins all =
    zip_weaker (IsAnsweredBy known ops) (IsAnsweredBy known more) (answer_more known ops more begins)
    requests answers all

-- an answer over a whole list
answer_whole : (known : Option (List ℕ)) (ops : List Op) (request : Request) (answer : LiveAnswer)
    → answer.version ≡ length ops → answer.result ≡ answer_of (edges_of known (fold ops)) request
    → IsAnsweredBy known ops request answer
answer_whole known ops request answer version result = (
  omega (arith, version),
  result ∙ ap (λ (first : List Op). answer_of (edges_of known (fold first)) request)
      (sym (ap (λ n. take n ops) version ∙ take-length ops)),
)

-- one more answer, over a list that extends those before
answers_one_more : (known : Option (List ℕ)) (ops more : List Op) (requests : List Request) (i : ℕ)
    (request : Request) (answers pushed : List LiveAnswer) (answer : LiveAnswer)
    → IsPrefix ops more → i < length requests → pushed ≡ answers ++ answer ∷ [] → AreAnsweredBy known ops
    (take i requests) answers → IsAnsweredBy known more (get_or requests i request) answer
    → AreAnsweredBy known more (take (i + 1) requests) pushed
answers_one_more known ops more requests i request answers pushed answer begins below is all own =
    rw (take_more requests i request below, is)
    (all_zipped_more (IsAnsweredBy known more) (take i requests) answers (get_or requests i request)
    answer (answers_more known ops more (take i requests) answers begins all) own)

-- with one more answer a worker's list is answered by what its eye has seen then
pub work_goes_on : (known : Option (List ℕ)) (ops : List Op) (guard own : Sight) (requests : List Request)
    (i : ℕ) (request : Request) (answers pushed : List LiveAnswer) (answer : LiveAnswer)
    → own ≡ guard → guard.known ≡ known → IsPrefix ops guard.ops → i < length requests
    → pushed ≡ answers ++ answer ∷ [] → AreAnsweredBy known ops (take i requests) answers
    → answer.version ≡ length guard.ops → answer.result ≡ answer_of (edges_of guard.known (fold guard.ops)) (get_or requests i request)
    → AreAnsweredBy known own.ops (take (i + 1) requests) pushed
work_goes_on known ops guard own requests i request answers pushed answer left known_is begins below is all version result =
    let answered =
    answer_whole known guard.ops (get_or requests i request) answer version
    (result ∙ ap (λ k. answer_of (edges_of k (fold guard.ops)) (get_or requests i request)) known_is) in
    subst (λ (sight : Sight). AreAnsweredBy known sight.ops (take (i + 1) requests) pushed) (sym left)
    (answers_one_more known ops guard.ops requests i request answers pushed answer begins below is all answered)

-- what holds of each second one of pairs
pub zip_second : {A B : Type 0} (R : A → B → Type 0) (P : B → Type 0) → ((x : A) (y : B) → R x y → P y)
    → (xs : List A) (ys : List B) → AllZip R xs ys → All P ys
zip_second R P gives [] [] zipped = λ k d below. absurd (omega (arith, below))
zip_second R P gives [] (y ∷ ys) zipped = absurd zipped
zip_second R P gives (x ∷ xs) [] zipped = absurd zipped
zip_second R P gives (x ∷ xs) (y ∷ ys) zipped = All-cons P y ys (gives x y zipped.0) (zip_second R P gives xs ys zipped.1)

-- the version of one more answer isn't below those before
pub rising_one_more : (known : Option (List ℕ)) (ops more : List Op) (requests : List Request)
    (answers pushed : List LiveAnswer) (answer : LiveAnswer)
    → IsPrefix ops more → pushed ≡ answers ++ answer ∷ [] → AreAnsweredBy known ops requests answers
    → answer.version ≡ length more → NeverFall answers → NeverFall pushed
rising_one_more known ops more requests answers pushed answer begins is all version rising =
    let within = zip_second (IsAnsweredBy known ops) (λ (a : LiveAnswer). a.version ≤ length ops) (λ r a h. h.0) requests answers all in
    subst NeverFall (sym is) (IsNonDecreasingBy-push (λ (a : LiveAnswer). a.version) answers answer rising
    (λ d some. omega (arith, within (length answers - 1) d (omega (arith, some)), version, ap length begins.1, length-append ops begins.0)))

-- what holds of pairs and of the second ones holds together
zip_and : {A B : Type 0} (R S : A → B → Type 0) (P : B → Type 0) → ((x : A) (y : B) → R x y → P y → S x y)
    → (xs : List A) (ys : List B) → AllZip R xs ys → All P ys → AllZip S xs ys
zip_and R S P both [] [] zipped all = zipped
zip_and R S P both [] (y ∷ ys) zipped all = absurd zipped
zip_and R S P both (x ∷ xs) [] zipped all = absurd zipped
zip_and R S P both (x ∷ xs) (y ∷ ys) zipped all = (both x y zipped.0 (All-head P y ys all), zip_and R S P both xs ys zipped.1 (All-tail P y ys all))

-- an answer at a batch's end is over published operations
at_end_within : (published : List Op) (ends : List ℕ) (answer : LiveAnswer)
    → All (λ end. end ≤ length published) ends → IsAtEnd ends answer → answer.version ≤ length published
at_end_within published ends answer within (inl zero) = omega (arith, zero)
at_end_within published ends answer within (inr stored) = All-contains (λ end. end ≤ length published) ends answer.version within stored

-- what an eye answered on is a prefix of what was published
answer_published : (known : Option (List ℕ)) (longer ops published : List Op) (ends : List ℕ)
    → IsLonger longer ops published → All (λ end. end ≤ length published) ends
    → (request : Request) (answer : LiveAnswer) → IsAnsweredBy known ops request answer → IsAtEnd ends answer
    → IsAnsweredBy known published request answer
answer_published known longer ops published ends (inl own) within request answer h at_end =
    let le = at_end_within published ends answer within at_end in
    answer_same known ops published request answer le (sym (take_begun published ops answer.version own.1 le)) h
answer_published known longer ops published ends (inr told) within request answer h at_end = answer_more known ops published told.1 request answer h

-- a worker's answers, by what was published
pub answers_published : (known : Option (List ℕ)) (longer ops published : List Op) (ends : List ℕ)
    (requests : List Request) (answers : List LiveAnswer) → IsLonger longer ops published
    → All (λ end. end ≤ length published) ends → All (IsAtEnd ends) answers
    → AreAnsweredBy known ops requests answers → AreAnsweredBy known published requests answers
answers_published known longer ops published ends requests answers longest within at_ends all =
    zip_and (IsAnsweredBy known ops) (IsAnsweredBy known published) (IsAtEnd ends)
    (answer_published known longer ops published ends longest within) requests answers all at_ends

-- what the workers of two parts have done
pub parts_worked : (eyes : List Sight) (half : ℕ) (lists near far : List (List Request)) (works others : List WorkerResult) → near ++ far ≡ lists
    → HaveWorked (take half eyes) near works → HaveWorked (drop half eyes) far others → HaveWorked eyes lists (works ++ others)
parts_worked eyes half lists near far works others is first second =
    λ board known all. subst (λ ls. AllZip (HasWorked board known) ls (works ++ others)) is
    (let IsOf = λ (eye : Sight). (eye.board ≡ board) × (eye.known ≡ known) in
    zip_both (HasWorked board known) near works far others (first board known (All-take IsOf half eyes all))
    (second board known (All-drop IsOf half eyes all)))

-- a list of one
pub single : {A : Type 0} (xs : List A) (x : A) → length xs ≡ 1 → xs ≡ get_or xs 0 x ∷ []
single [] x one = absurd (omega (arith, one))
single (y ∷ []) x one = refl
single (y ∷ z ∷ xs) x one = absurd (omega (arith, one))

-- of one eye only the last one is there
last_is_of : (book : Book) (known : Option (List ℕ)) (left : List Sight) (eye : Sight) → length (left
    ++ eye ∷ []) ≡ 1 → AreOf book known (left ++ eye ∷ []) → (eye.board ≡ book) × (eye.known ≡ known)
last_is_of book known [] eye one all = All-head (λ (e : Sight). (e.board ≡ book) × (e.known ≡ known)) eye [] all
last_is_of book known (e ∷ left) eye one all = absurd (omega (arith, one, length-append left (eye ∷ [])))

-- what the only worker has done
pub alone_worked : (eyes left : List Sight) (eye : Sight) (lists : List (List Request))
    (requests : List Request) (works : List WorkerResult) (worked : WorkerResult) → eyes ≡ left ++ eye ∷ []
    → length eyes ≡ 1
    → lists ≡ requests ∷ [] → works ≡ worked ∷ [] → worked.eye.board ≡ eye.board
    → AreAnsweredBy eye.known worked.eye.ops requests worked.answers.items → NeverFall worked.answers.items
    → HaveWorked eyes lists works
alone_worked eyes left eye lists requests works worked eyes_are one lists_are works_are board answered rising = λ book known all.
    let own = last_is_of book known left eye (sym (ap length eyes_are) ∙ one) (subst (AreOf book known) eyes_are all) in
    rw (lists_are, works_are) (
      record {
        board = board ∙ own.0;
        answered =
            subst (λ k. AreAnsweredBy k worked.eye.ops requests worked.answers.items) own.1 answered;
        rising = rising;
      },
      tt,
    )
