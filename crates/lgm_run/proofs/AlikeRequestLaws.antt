-- Requests of one kind: the state after them, and their text.
use Rattle.std.proofs.Common.{◌≡◌, ℕ, ◌+◌, List, [], ◌∷◌, ◌++◌, length, get_or, Result, refl, sym, ap, subst, ◌∙◌, arith}
use Rattle.std.specs.Prelude.{OnOk}
use Rattle.std.proofs.lemmas.List.{append-nil}
use Rattle.std.specs.List.{AllByRecursion}
use Rattle.lgm_wire.specs.declared.chain_hash.ChainHash.{ChainHash}
use Rattle.lgm_script.specs.declared.grammar.line_form.LineKind.{LineKind}
use Rattle.lgm_script.specs.declared.grammar.line_form.LineKind.TheVariants as kinds
use Rattle.lgm_script.specs.declared.grammar.command.Command.{Command}
use Rattle.lgm_script.specs.declared.grammar.command.Command.TheVariants as requests
use Rattle.lgm_script.specs.Groups.{AreAlike, IsOfKind}
use Rattle.lgm_answers.specs.Script.{ScriptState, text_for}
use Rattle.lgm_run.specs.inner.Steps.{state_after, state_from, text_from, state_alone, text_alone}
use Rattle.lgm_run.specs.inner.Questions.{question_text, filters_after, filters_behind, questions_text}

-- ---- questions

question_leaves : (chain : ChainHash) (state : ScriptState) (request : Command) → IsOfKind kinds.Question request
    → record state { filters = filters_after chain state.filters request } ≡ state_after chain state request
question_leaves chain state requests.Quiet kind = absurd kind
question_leaves chain state requests.Commit kind = absurd kind
question_leaves chain state (requests.Offer item) kind = absurd kind
question_leaves chain state _ kind = refl

question_is_told : (chain : ChainHash) (number : ℕ) (state : ScriptState) (request : Command)
    → IsOfKind kinds.Question request
    → question_text chain state.known state.committed number request ≡ text_for chain number state request
question_is_told chain number state requests.Quiet kind = absurd kind
question_is_told chain number state requests.Commit kind = absurd kind
question_is_told chain number state (requests.Offer item) kind = absurd kind
question_is_told chain number state _ kind = refl

-- several
pub questions_leave : (chain : ChainHash) (state : ScriptState) (asked : List Command) → AllByRecursion (IsOfKind kinds.Question) asked
    → record state { filters = filters_behind chain state.filters asked } ≡ state_from chain state asked
questions_leave chain state [] kind = refl
questions_leave chain state (request ∷ asked) kind =
    questions_leave chain (record state { filters = filters_after chain state.filters request }) asked kind.1
    ∙ ap (λ s. state_from chain s asked) (question_leaves chain state request kind.0)

pub questions_are_told : (chain : ChainHash) (number : ℕ) (state : ScriptState) (asked : List Command) → AllByRecursion (IsOfKind kinds.Question) asked
    → questions_text chain state.known state.committed number state.filters asked ≡ text_from chain number state asked
questions_are_told chain number state [] kind = refl
questions_are_told chain number state (request ∷ asked) kind =
    ap (λ text. text ++ questions_text chain state.known state.committed (number + 1) (filters_after chain
    state.filters request) asked) (question_is_told chain number state request kind.0)
    ∙ ap (λ text. text_for chain number state request ++ text)
    (questions_are_told chain (number + 1) (record state { filters = filters_after chain state.filters request }) asked kind.1
    ∙ ap (λ s. text_from chain (number + 1) s asked) (question_leaves chain state request kind.0))

-- ---- lines that are alone in their group

alone_leaves : (chain : ChainHash) (state : ScriptState) (request : Command) → IsOfKind kinds.Other request
    → state_alone state request ≡ state_after chain state request
alone_leaves chain state requests.Quiet kind = refl
alone_leaves chain state requests.Bad kind = refl
alone_leaves chain state requests.Commit kind = refl
alone_leaves chain state _ kind = absurd kind

alone_is_told : (chain : ChainHash) (number : ℕ) (state : ScriptState) (request : Command)
    → IsOfKind kinds.Other request → text_alone number state request ≡ text_for chain number state request
alone_is_told chain number state requests.Quiet kind = refl
alone_is_told chain number state requests.Bad kind = refl
alone_is_told chain number state requests.Commit kind = refl
alone_is_told chain number state _ kind = absurd kind

-- what a line that is alone in its group requests
pub record IsAlone (asked : List Command) (request : Command) : Type 0 where
  pub one : asked ≡ request ∷ []
  pub kind : IsOfKind kinds.Other request

pub is_alone : {kind : LineKind} {asked lines : List Command} {request : Command} → AreAlike kind asked → kind ≡ kinds.Other
    → lines ≡ asked → request ≡ get_or lines 0 request → IsAlone asked request
is_alone {kind} {asked} {lines} {request} alike is same first =
    by asked (alike.alone is) (subst (λ own. AllByRecursion (IsOfKind own) asked) is alike.each) (first ∙ ap (λ l. get_or l 0 request) same)
  where
    by : (asked : List Command) → length asked ≡ 1 → AllByRecursion (IsOfKind kinds.Other) asked → request ≡ get_or asked 0 request
        → IsAlone asked request
    by [] one each first = absurd (omega (arith, one))
    by (own ∷ []) one each first = record { one = ap (λ r. r ∷ []) (sym first); kind = subst (IsOfKind kinds.Other) (sym first) each.0 }
    by (own ∷ other ∷ others) one each first = absurd (omega (arith, one))

-- the state after it, and its text
module _ (chain : ChainHash) (number : ℕ) (state : ScriptState) {asked : List Command} {request : Command}
    (alone : IsAlone asked request) where
  pub other_leaves : {T E : Type 0} (result : Result T E) (new : ScriptState) → OnOk result (new ≡ state_alone state request)
      → OnOk result (new ≡ state_from chain state asked)
  other_leaves result new is =
      subst (λ s. OnOk result (new ≡ s)) (alone_leaves chain state request alone.kind
      ∙ ap (state_from chain state) (sym alone.one)) is

  pub other_is_told : (Told : List ℕ → Type 0) → Told (text_alone number state request)
      → Told (text_from chain number state asked)
  other_is_told Told told =
      subst Told (alone_is_told chain number state request alone.kind
      ∙ sym (append-nil (text_for chain number state request))
      ∙ ap (text_from chain number state) (sym alone.one)) told
