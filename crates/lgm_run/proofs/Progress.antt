-- How far a script was answered.
use Rattle.std.proofs.Common.{◌≡◌, ◌⊎◌, inl, inr, ℕ, suc, ◌+◌, ◌<◌, ◌≤◌, List, [], ◌∷◌, ◌++◌, length, get_or}
use Rattle.std.proofs.Common.{take, drop, Option, Some, None, refl, sym, ap, subst, ◌∙◌, append_assoc, add-one, arith}
use Rattle.std.specs.Prelude.{IfSome, filter, map}
use Rattle.std.specs.List.{AllByRecursion}
use Rattle.std.proofs.lemmas.List.{append-nil, length-append, length-drop, take_all}
use Rattle.std.proofs.lemmas.List.{drop-map, take-map, nil_from_length}
use Rattle.std.proofs.lemmas.List.Elements.{filter-append}
use Rattle.std.proofs.lemmas.Option.{IfSome_then}
use Rattle.lgm_wire.specs.declared.chain_hash.ChainHash.{ChainHash}
use Rattle.lgm_script.specs.declared.input.line_reader.TheConstants.{MAX_LINE}
use Rattle.lgm_script.specs.declared.grammar.command.Command.{Command}
use Rattle.lgm_script.specs.declared.grammar.command.Command.TheVariants as requests
use Rattle.lgm_script.specs.Device.{IsAtEnd}
use Rattle.lgm_script.specs.Lines.{ends_line, lines_of, ahead, IsFirstLine, IsLongerThan}
use Rattle.lgm_script.specs.Groups.{AreFirstLines, AskNext}
use Rattle.lgm_script.specs.Command.{command_of}
use Rattle.lgm_script.specs.Output.{OutputState, Tells, TellsSome}
use Rattle.lgm_script.proofs.Ahead.{left_is}
use Rattle.lgm_script.proofs.FirstLines.{each-push, stands_at}
use Rattle.lgm_script.proofs.FirstWords.{request_is_lawful}
use Rattle.lgm_script.proofs.FirstLineFeedLaws.{next_of}
use Rattle.lgm_script.proofs.WrittenTextLaws.{tells_nothing, tells_both, some_behind}
use Rattle.lgm_answers.specs.declared.run_fault.TheConstants.{MAX_LINES}
use Rattle.lgm_answers.specs.Outcomes.{history_of}
use Rattle.lgm_answers.specs.Script.{commands_of, items_of, ScriptState, state_of, text_for, text_at, text_before}
use Rattle.lgm_answers.proofs.Lines.{has_line}
use Rattle.lgm_run.specs.inner.Steps.{opening, state_after, state_from, text_from}
use Rattle.lgm_run.specs.inner.Progress.{HaveAnswers, HaveBegun}
use Rattle.lgm_run.specs.Running.{IsTold, IsAnswered, IsTooMany, IsTooLong, IsCutShort}
use Rattle.lgm_run.proofs.CommandStepLaws.{opening_is, state_after-request}

-- k lines were read, this is left, and this is the state after them
pub record IsAtLine (chain : ChainHash) (known : Option (List ℕ)) (script : List ℕ) (k : ℕ) (state : ScriptState) (rest : List ℕ) : Type 0 where
  pub front : List ℕ
  pub parts : script ≡ front ++ rest
  pub left : lines_of rest ≡ drop k (lines_of script)
  pub read : (k ≤ length (filter ends_line front)) ⊎ (rest ≡ [])
  pub few : k ≤ length (lines_of script)
  pub short : AllByRecursion (λ line. length line ≤ MAX_LINE) (take k (lines_of script))
  pub state_is : state ≡ state_of chain known (take k (commands_of script))

-- and they were answered
pub record IsSoFar (chain : ChainHash) (known : Option (List ℕ)) (script : List ℕ) (k : ℕ) (state : ScriptState)
    (input : Option (List ℕ)) (old mid : OutputState) : Type 0 where
  pub rest : List ℕ
  pub input_is : input ≡ Some rest
  pub at : IsAtLine chain known script k state rest
  pub text : Tells old mid (text_before chain known (commands_of script) k)

-- if there is a script
abbrev pub SoFar : ChainHash → Option (List ℕ) → Option (List ℕ) → ℕ → ScriptState → Option (List ℕ) → OutputState → OutputState → Type 0
SoFar chain known script k state input old mid = IfSome script (λ s. IsSoFar chain known s k state input old mid)

-- more lines were read, and their text follows
record Steps (chain : ChainHash) (known : Option (List ℕ)) (script : List ℕ) (k n : ℕ) (state : ScriptState) (rest text : List ℕ) : Type 0 where
  pub at : IsAtLine chain known script n state rest
  pub text_is : text_before chain known (commands_of script) n ≡ text_before chain known (commands_of script) k ++ text

-- ---- the lines that are left

nothing_behind : (a b : List ℕ) (n : ℕ) → a ++ b ≡ [] → drop n a ++ b ≡ []
nothing_behind a b n none =
    nil_from_length (drop n a ++ b)
    (omega (arith, ap length none, length-append a b, length-append (drop n a) b, length-drop n a))

nothing_behind_left : (a b : List ℕ) → a ++ b ≡ [] → b ≡ []
nothing_behind_left a b none = nil_from_length b (omega (arith, ap length none, length-append a b))

-- ---- the text of one more line

module _ (chain : ChainHash) (known : Option (List ℕ)) where
  pub starts : (script : Option (List ℕ)) (told : OutputState) → SoFar chain known script 0 (opening known) (ahead [] script) told told
  unfolding text_before
  starts None told = tt
  starts (Some script) told = record {
    rest = script;
    input_is = refl;
    at = record {
      front = [];
      parts = refl;
      left = refl;
      read = inl (omega arith);
      few = omega arith;
      short = tt;
      state_is = opening_is chain known;
    };
    text = tells_nothing told;
  }

  text_before-suc : (asked : List Command) (k : ℕ)
      → text_before chain known asked (suc k) ≡ text_before chain known asked k ++ text_at chain known asked k
  unfolding text_before
  text_before-suc asked k = refl

  text_is : (asked : List Command) (k : ℕ) (state : ScriptState) (request : Command) → state ≡ state_of chain known (take k asked)
      → get_or asked k requests.Quiet ≡ request → text_at chain known asked k ≡ text_for chain (k + 1) state request
  unfolding text_at
  text_is asked k state request s r = rw (s, ← r) refl

  text_more : (asked : List Command) (k : ℕ) (state : ScriptState) (request : Command) → state ≡ state_of chain known (take k asked)
      → get_or asked k requests.Quiet ≡ request
      → text_before chain known asked (k + 1) ≡ text_before chain known asked k ++ text_for chain (k + 1) state request
  text_more asked k state request s r =
      rw add-one (text_before-suc asked k) ∙ ap (λ (t : List ℕ). text_before chain known asked k ++ t) (text_is asked k state request s r)

-- ---- the next lines

-- the line that was found is the next one, and after it one more was read
record NextOf (script : List ℕ) (k len : ℕ) (buffered left front : List ℕ) : Type 0 where
  pub line_here : drop k (lines_of script) ≡ take len buffered ∷ lines_of (drop (len + 1) buffered ++ left)
  pub parts : script ≡ (front ++ take (len + 1) buffered) ++ (drop (len + 1) buffered ++ left)
  pub read : (k + 1 ≤ length (filter ends_line (front ++ take (len + 1) buffered))) ⊎ (drop (len + 1) buffered ++ left ≡ [])

module _ (chain : ChainHash) (known : Option (List ℕ)) (script : List ℕ) where
  next_line_of : (k len : ℕ) (state : ScriptState) (buffered left : List ℕ) → (at : IsAtLine chain known script k state (buffered ++ left))
      → IsFirstLine buffered (Some left) len → NextOf script k len buffered left at.front
  next_line_of k len state buffered left at first =
      let next = next_of buffered left len first in
      let split : buffered ++ left ≡ take (len + 1) buffered ++ (drop (len + 1) buffered ++ left) =
      ap (λ (s : List ℕ). s ++ left) next.parts ∙ append_assoc (take (len + 1) buffered) (drop (len + 1) buffered) left in
      record {
        line_here = sym at.left ∙ next.lines;
        parts =
            at.parts ∙ ap (λ (s : List ℕ). at.front ++ s) split
            ∙ sym (append_assoc at.front (take (len + 1) buffered) (drop (len + 1) buffered ++ left));
        read = elim next.feed [
          | inl feed ↦ elim at.read [
            | inl few ↦ inl (omega (
              arith,
              ap length (filter-append ends_line at.front (take (len + 1) buffered)),
              length-append (filter ends_line at.front) (filter ends_line (take (len + 1) buffered)),
              feed,
              few,
            ))
            | inr none ↦ inr (nothing_behind buffered left (len + 1) none)
          ]
          | inr ended ↦ inr ended
        ];
      }

  -- one line
  line_step : (k : ℕ) (state : ScriptState) (buffered left line : List ℕ) → IsAtLine chain known script k state (buffered ++ left)
      → line ≡ take (length line) buffered → IsFirstLine buffered (Some left) (length line) → length line ≤ MAX_LINE
      → Steps chain known script k (k + 1) (state_after chain state (command_of line))
      (drop (length line + 1) buffered ++ left) (text_for chain (k + 1) state (command_of line))
  line_step k state buffered left line at line_is first small =
      let len = length line in
      let asked = commands_of script in
      let next = next_line_of k len state buffered left at first in
      let others = lines_of (drop (len + 1) buffered ++ left) in
      let here : drop k (lines_of script) ≡ line ∷ others = next.line_here ∙ ap (λ (l : List ℕ). l ∷ others) (sym line_is) in
      let stand = stands_at (lines_of script) k [] line others here in
      let request_here : drop k asked ≡ command_of line ∷ map command_of others =
      drop-map command_of k (lines_of script) ∙ ap (map command_of) here in
      let of = stands_at asked k requests.Quiet (command_of line) (map command_of others) request_here in
      record {
        at = record {
          front = at.front ++ take (len + 1) buffered;
          parts = next.parts;
          left = sym stand.behind;
          read = next.read;
          few = let lt = stand.within in omega arith;
          short =
              subst (λ (ls : List (List ℕ)). AllByRecursion (λ l. length l ≤ MAX_LINE) ls) (sym stand.front)
              (each-push (λ l. length l ≤ MAX_LINE) (take k (lines_of script)) line at.short small);
          state_is =
              ap (λ (x : ScriptState). state_after chain x (command_of line)) at.state_is
              ∙ state_after-request chain known (take k asked) (command_of line) (request_is_lawful line)
              ∙ ap (state_of chain known) (sym of.front);
        };
        text_is = text_more chain known asked k state (command_of line) at.state_is of.here;
      }

  -- several
  lines_step : (k : ℕ) (state : ScriptState) (buffered left rest : List ℕ) (lines : List (List ℕ))
      → IsAtLine chain known script k state (buffered ++ left)
      → AreFirstLines buffered (Some left) lines rest → AllByRecursion (λ line. length line ≤ MAX_LINE) lines
      → Steps chain known script k (k + length (map command_of lines)) (state_from chain state (map command_of lines))
      (rest ++ left) (text_from chain (k + 1) state (map command_of lines))
  lines_step k state buffered left rest [] at first short =
      subst (λ n. Steps chain known script k n state (rest ++ left) []) (omega arith)
      (record {
        at = subst (λ (s : List ℕ). IsAtLine chain known script k state (s ++ left)) (sym first) at;
        text_is = sym (append-nil (text_before chain known (commands_of script) k));
      })
  lines_step k state buffered left rest (line ∷ lines) at first short =
      let one = line_step k state buffered left line at first.0 first.1 short.0 in
      let after = state_after chain state (command_of line) in
      let more = lines_step (k + 1) after (drop (length line + 1) buffered) left rest lines one.at first.2 short.1 in
      let others = text_from chain (k + 1 + 1) after (map command_of lines) in
      subst (λ n. Steps chain known script k n (state_from chain state (map command_of (line ∷ lines)))
      (rest ++ left) (text_from chain (k + 1) state (map command_of (line ∷ lines)))) (omega arith)
      (record {
        at = more.at;
        text_is =
            more.text_is ∙ ap (λ (t : List ℕ). t ++ others) one.text_is
            ∙ append_assoc (text_before chain known (commands_of script) k) (text_for chain (k + 1) state (command_of line)) others;
      })

-- ---- what was answered so far

told_of : {chain : ChainHash} {known : Option (List ℕ)} {script : List ℕ} {k : ℕ} {state : ScriptState} {input : Option (List ℕ)}
    {old mid : OutputState}
    → IsSoFar chain known script k state input old mid → IsTold chain known (Tells old mid) script k
told_of at = record { few = at.at.few; short = at.at.short; text = at.text }

module _ (chain : ChainHash) (known : Option (List ℕ)) (script : Option (List ℕ)) (k : ℕ) (state : ScriptState)
    (input : Option (List ℕ)) (old mid : OutputState) (so_far : SoFar chain known script k state input old mid) where
  -- nothing was written beyond the text so far
  pub told_on : (new : OutputState) → Tells mid new [] → SoFar chain known script k state input old new
  told_on new told = IfSome_then script so_far (λ s at. record {
    rest = at.rest;
    input_is = at.input_is;
    at = at.at;
    text =
        subst (Tells old new) (append-nil (text_before chain known (commands_of s) k))
        (tells_both old mid new (text_before chain known (commands_of s) k) [] at.text told);
  })

  -- all was answered
  pub ends : IsAtEnd input → k ≤ MAX_LINES
      → IfSome script (IsAnswered chain known (Tells old mid) (record { lines = k; accepted = state.accepted }))
  ends ended limit = IfSome_then script so_far (λ s at.
      let rest_is : at.rest ≡ [] = subst IsAtEnd at.input_is ended in
      let none : drop k (lines_of s) ≡ [] = sym at.at.left ∙ ap lines_of rest_is in
      let few = at.at.few in
      let all : k ≡ length (lines_of s) = omega (arith, ap length none, length-drop k (lines_of s)) in
      let whole : take k (commands_of s) ≡ commands_of s =
      take-map command_of k (lines_of s) ∙ ap (map command_of) (take_all k (lines_of s) (omega arith)) in
      record {
        lines = all;
        limit = limit;
        accepted =
            ap (λ (x : ScriptState). x.accepted) at.at.state_is
            ∙ ap (λ (asked : List Command). length (history_of chain (items_of asked))) whole;
        text = told_of at;
      })

  -- the next line is too long
  pub long : k < MAX_LINES → IsLongerThan MAX_LINE input → IfSome script (IsTooLong chain known (Tells old mid))
  long limit longer = IfSome_then script so_far (λ s at.
      let line : IsLongerThan MAX_LINE (Some at.rest) = subst (IsLongerThan MAX_LINE) at.input_is longer in
      let here = stands_at (lines_of s) k [] line.0 line.1 (sym at.at.left ∙ line.2) in
      record {
        place = k;
        limit = limit;
        long = rw here.here line.3;
        text = told_of at;
      })

-- ---- lines that were read ahead

module _ (chain : ChainHash) (known : Option (List ℕ)) (script : Option (List ℕ)) (k : ℕ) (state : ScriptState)
    (buffered : List ℕ) (left : Option (List ℕ)) (old mid : OutputState)
    (so_far : SoFar chain known script k state (ahead buffered left) old mid) where
  -- there are more than the limit
  pub many : k ≡ MAX_LINES → 0 < length buffered → IfSome script (IsTooMany chain known (Tells old mid))
  many full more = IfSome_then script so_far (λ s at.
      let input = left_is buffered left at.rest at.input_is in
      let some = has_line at.rest (omega (arith, ap length input.2, length-append buffered input.0)) in
      record {
        more = omega (arith, ap length at.at.left, length-drop k (lines_of s));
        text = subst (IsTold chain known (Tells old mid) s) full (told_of at);
      })

  -- the steps of the next ones
  next_steps : (s : List ℕ) (at : IsSoFar chain known s k state (ahead buffered left) old mid) (first len : ℕ) (asked : List Command)
      → IsFirstLine buffered left first → AskNext buffered first len asked → (bytes : List ℕ) × (left ≡ Some bytes)
      × Steps chain known s k (k + length asked) (state_from chain state asked)
      (drop len buffered ++ bytes) (text_from chain (k + 1) state asked)
  next_steps s at first len asked line ask =
      let input = left_is buffered left at.rest at.input_is in
      let next = ask.next in
      rw ask.asked_is (
        input.0,
        input.1,
        lines_step chain known s k state buffered input.0 (drop len buffered) ask.lines
            (subst (IsAtLine chain known s k state) input.2 at.at)
            (subst (λ o. AreFirstLines buffered o ask.lines (drop len buffered)) input.1 (next.front left line)) next.short,
      )

  -- they are answered
  pub step : (first count len : ℕ) (state' : ScriptState) (new : OutputState) → IsFirstLine buffered left first
      → HaveAnswers chain (k + 1) state state' buffered first (Tells mid new) count len
      → SoFar chain known script (k + count) state' (ahead (drop len buffered) left) old new
  step first count len state' new line answers = IfSome_then script so_far (λ s at.
      let steps = next_steps s at first len answers.asked line answers.next in
      rw (answers.count_is, answers.state_is) (record {
        rest = drop len buffered ++ steps.0;
        input_is = ap (ahead (drop len buffered)) steps.1;
        at = steps.2.at;
        text =
            subst (Tells old new) (sym steps.2.text_is)
            (tells_both old mid new (text_before chain known (commands_of s) k)
            (text_from chain (k + 1) state answers.asked) at.text answers.text);
      }))

  -- a prefix of the text of lines that were read was written
  cut_at : (s : List ℕ) (at : IsSoFar chain known s k state (ahead buffered left) old mid) (n : ℕ) (state' : ScriptState)
      (read bytes text : List ℕ) (new : OutputState) → left ≡ Some bytes → n ≤ MAX_LINES
      → Steps chain known s k n state' (read ++ bytes) text → TellsSome mid new text → IsCutShort chain known (TellsSome old new) left s
  cut_at s at n state' read bytes text new is limit steps some = record {
    answered = n;
    limit = limit;
    read = record {
      front = steps.at.front ++ read;
      rest = bytes;
      parts = steps.at.parts ∙ sym (append_assoc steps.at.front read bytes);
      left_is = is;
      whole = elim steps.at.read [
        | inl few ↦ inl (omega (
          arith,
          ap length (filter-append ends_line steps.at.front read),
          length-append (filter ends_line steps.at.front) (filter ends_line read),
          few,
        ))
        | inr none ↦ inr (nothing_behind_left read bytes none)
      ];
    };
    text = record {
      few = steps.at.few;
      short = steps.at.short;
      text =
          subst (TellsSome old new) (sym steps.text_is)
          (some_behind old mid new (text_before chain known (commands_of s) k) text at.text some);
    };
  }

  -- no more of them are answered
  pub cut : (new : OutputState) → k ≤ MAX_LINES → TellsSome mid new [] → IfSome script (IsCutShort chain known (TellsSome old new) left)
  cut new limit some = IfSome_then script so_far (λ s at.
      let input = left_is buffered left at.rest at.input_is in
      cut_at s at k state buffered input.0 [] new input.1 limit
      (record {
        at = subst (IsAtLine chain known s k state) input.2 at.at;
        text_is = sym (append-nil (text_before chain known (commands_of s) k));
      }) some)

  -- only a prefix of their answers is written
  pub cut_in : (most first : ℕ) (new : OutputState) → k + most ≤ MAX_LINES → IsFirstLine buffered left first
      → HaveBegun chain (k + 1) most state buffered first (TellsSome mid new)
      → IfSome script (IsCutShort chain known (TellsSome old new) left)
  cut_in most first new within line begun = IfSome_then script so_far (λ s at.
      let asked = begun.asked in
      let steps = next_steps s at first begun.len asked line begun.next in
      cut_at s at (k + length asked) (state_from chain state asked) (drop begun.len buffered) steps.0
      (text_from chain (k + 1) state asked) new steps.1
      (let limit = begun.limit in omega arith) steps.2 begun.text)
