-- Answers while a map grows.
use Rattle.std.specs.Prelude.{◌≡◌, ◌⊎◌, ℕ, ◌≤◌, List, length, take, Contains, Option}
use Rattle.std.specs.List.{AllZip}
use Rattle.std.specs.List.Sorted.{IsNonDecreasingBy}
use Rattle.lgm_store.specs.declared.op.Op.{Op}
use Rattle.lgm_store.specs.History.{fold}
use Rattle.lgm_graph.specs.Edges.{edges_of}
use Rattle.lgm_route.specs.declared.request.Request.{Request}
use Rattle.lgm_route.specs.Choice.{answer_of}
use Rattle.lgm_live.specs.declared.report.LiveAnswer.{LiveAnswer}

-- the answer is that on the map of the first operations, as many as its version says
abbrev pub IsAnsweredBy : Option (List ℕ) → List Op → Request → LiveAnswer → Type 0
IsAnsweredBy known ops request answer =
    (answer.version ≤ length ops)
    × (answer.result ≡ answer_of (edges_of known (fold (take answer.version ops))) request)

-- one answer for each request, in order
abbrev pub AreAnsweredBy : Option (List ℕ) → List Op → List Request → List LiveAnswer → Type 0
AreAnsweredBy known ops requests answers = AllZip (IsAnsweredBy known ops) requests answers

-- each answer's version is no lower than those before it
abbrev pub NeverFall : List LiveAnswer → Type 0
NeverFall answers = IsNonDecreasingBy (λ (answer : LiveAnswer). answer.version) answers

-- the answer is on the empty map, or on that of the end of a batch
abbrev pub IsAtEnd : List ℕ → LiveAnswer → Type 0
IsAtEnd ends answer = (answer.version ≡ 0) ⊎ Contains ends answer.version
