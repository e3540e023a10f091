-- How far a script was read.
use Rattle.std.proofs.Common.{◌≡◌, ℕ, ◌+◌, ◌<◌, ◌≤◌, List, [], ◌∷◌, ◌++◌, length, map}
use Rattle.std.proofs.Common.{take, drop, Option, Some, None, refl, sym, ap, subst, ◌∙◌, arith}
use Rattle.std.specs.Prelude.{◌≢◌, IfSome}
use Rattle.std.specs.List.{AllByRecursion}
use Rattle.std.proofs.lemmas.List.{append-nil, length-append, length-drop, length-take, take_all, map_push, nil_from_length}
use Rattle.std.proofs.lemmas.Option.{IfSome_then}
use Rattle.lgm_script.specs.declared.input.line_reader.TheConstants.{MAX_LINE}
use Rattle.lgm_script.specs.declared.grammar.command.Command.{Command}
use Rattle.lgm_script.specs.declared.input.read.LineFault.{LineFault}
use Rattle.lgm_script.specs.declared.input.read.LineFault.TheVariants as lines
use Rattle.lgm_script.specs.declared.output.SendFault.TheVariants.{Write as SendWrite}
use Rattle.lgm_script.specs.Device.{IsAtEnd, Appends}
use Rattle.lgm_script.specs.Lines.{lines_of, ahead, IsFirstLine, IsLongerThan}
use Rattle.lgm_script.specs.Output.{OutputState, Tells, TellsPart}
use Rattle.lgm_script.specs.Command.{command_of}
use Rattle.lgm_script.proofs.Ahead.{left_is}
use Rattle.lgm_script.proofs.FirstLines.{each-push, stands_at}
use Rattle.lgm_script.proofs.FirstLineFeedLaws.{next_of}
use Rattle.lgm_answers.specs.declared.run_fault.TheConstants.{MAX_LINES}
use Rattle.lgm_answers.proofs.LineFaults.{failed}
use Rattle.lgm_answers.proofs.Lines.{some_bytes, has_line}
use Rattle.lgm_live.specs.Running.{AreShort, HasMoreLines, HasLongLine}
use Rattle.lgm_live.specs.inner.Reading.{IsAsked}

-- this many lines were read, and this is left
pub record IsAt (script : List ℕ) (asked : List Command) (input : Option (List ℕ)) : Type 0 where
  pub rest : List ℕ
  pub input_is : input ≡ Some rest
  pub left : lines_of rest ≡ drop (length asked) (lines_of script)
  pub few : length asked ≤ length (lines_of script)
  pub short : AllByRecursion (λ line. length line ≤ MAX_LINE) (take (length asked) (lines_of script))
  pub asked_is : asked ≡ map command_of (take (length asked) (lines_of script))

-- if the source specifies its bytes
abbrev pub SoFar : Option (List ℕ) → List Command → Option (List ℕ) → Type 0
SoFar script asked input = IfSome script (λ bytes. IsAt bytes asked input)

pub starts : (script : Option (List ℕ)) → SoFar script [] (ahead [] script)
starts None = tt
starts (Some script) = record { rest = script; input_is = refl; left = refl; few = omega arith; short = tt; asked_is = refl }

-- ---- one line

module _ (script : Option (List ℕ)) (asked : List Command) (buffered : List ℕ) (left : Option (List ℕ))
    (so_far : SoFar script asked (ahead buffered left)) where
  pub step : (count : ℕ) → IsFirstLine buffered left count → count ≤ MAX_LINE
      → SoFar script (asked ++ command_of (take count buffered) ∷ []) (ahead (drop (count + 1) buffered) left)
  step count first small = IfSome_then script so_far (λ s at.
      let input = left_is buffered left at.rest at.input_is in
      let k = length asked in
      let all = lines_of s in
      let line = take count buffered in
      let rest = drop (count + 1) buffered ++ input.0 in
      let next = next_of buffered input.0 count (subst (λ o. IsFirstLine buffered o count) input.1 first) in
      let stand = stands_at all k [] line (lines_of rest) (sym at.left ∙ ap lines_of input.2 ∙ next.lines) in
      let more : length (asked ++ command_of line ∷ []) ≡ k + 1 = omega (arith, length-append asked (command_of line ∷ [])) in
      let front : take (length (asked ++ command_of line ∷ [])) all ≡ take k all ++ line ∷ [] = ap (λ n. take n all) more ∙ stand.front in
      record {
        rest = rest;
        input_is = ap (ahead (drop (count + 1) buffered)) input.1;
        left = sym stand.behind ∙ ap (λ n. drop n all) (sym more);
        few = let lt = stand.within in omega (arith, more, lt);
        short =
            subst (λ (ls : List (List ℕ)). AllByRecursion (λ l. length l ≤ MAX_LINE) ls) (sym front)
            (each-push (λ l. length l ≤ MAX_LINE) (take k all) line at.short (omega (arith, small, length-take count buffered)));
        asked_is =
            ap (λ (rs : List Command). rs ++ command_of line ∷ []) at.asked_is
            ∙ sym (map_push command_of (take k all) line) ∙ ap (map command_of) (sym front);
      })

  -- there are more than the limit
  pub many : 0 < length buffered → length asked ≡ MAX_LINES → IfSome script HasMoreLines
  many more full = IfSome_then script so_far (λ s at.
      let input = left_is buffered left at.rest at.input_is in
      let some = has_line at.rest (omega (arith, ap length input.2, length-append buffered input.0)) in
      record {
        more = omega (arith, ap length at.left, length-drop (length asked) (lines_of s), some, full);
        short = subst (AreShort s) full at.short;
      })

-- ---- how it ends

module _ (script : Option (List ℕ)) (asked : List Command) (input : Option (List ℕ)) (so_far : SoFar script asked input) where
  -- all was read
  pub ends : IsAtEnd input → length asked ≤ MAX_LINES → IfSome script (IsAsked asked)
  ends ended limit = IfSome_then script so_far (λ s at.
      let all = lines_of s in
      let rest_is : at.rest ≡ [] = subst IsAtEnd at.input_is ended in
      let none : drop (length asked) all ≡ [] = sym at.left ∙ ap lines_of rest_is in
      let few = at.few in
      let same : length asked ≡ length all = omega (arith, ap length none, length-drop (length asked) all) in
      let whole : take (length asked) all ≡ all = take_all (length asked) all (omega (arith, same)) in
      record {
        limits = record {
          few = omega (arith, same);
          short = subst (λ (ls : List (List ℕ)). AllByRecursion (λ l. length l ≤ MAX_LINE) ls) whole at.short;
        };
        all = at.asked_is ∙ ap (map command_of) whole;
      })

  -- the next line is too long
  pub long : length asked < MAX_LINES → IsLongerThan MAX_LINE input → IfSome script HasLongLine
  long limit longer = IfSome_then script so_far (λ s at.
      let line : IsLongerThan MAX_LINE (Some at.rest) = subst (IsLongerThan MAX_LINE) at.input_is longer in
      let stand = stands_at (lines_of s) (length asked) [] line.0 line.1 (sym at.left ∙ line.2) in
      record { place = length asked; limit = limit; long = rw stand.here line.3; short = at.short })

-- ---- nothing is written

-- after writing no bytes
pub record IsSilent (old new : OutputState) : Type 0 where
  pub writer : new.writer ≡ old.writer
  pub taken : new.sink.taken ≡ old.sink.taken
  pub clear : new.buffered ≡ []

nothing_taken : (old new : Option (List ℕ)) (written : List ℕ) → written ≡ [] → Appends old new written → new ≡ old
nothing_taken None new written none taken = taken
nothing_taken (Some bytes) new written none taken = taken ∙ ap (λ (w : List ℕ). some_bytes (bytes ++ w)) none ∙ ap some_bytes (append-nil bytes)

pub silent : (old new : OutputState) → old.buffered ≡ [] → Tells old new [] → IsSilent old new
silent old new clear told =
    let size = ap length told.whole ∙ ap (λ (g : List ℕ). length (g ++ [])) clear in
    record {
      writer = told.writer;
      taken =
          nothing_taken old.sink.taken new.sink.taken told.written (nil_from_length told.written
          (omega (arith, size, length-append told.written new.buffered))) told.taken;
      clear = nil_from_length new.buffered (omega (arith, size, length-append told.written new.buffered));
    }

silent_part : (old new : OutputState) → old.buffered ≡ [] → TellsPart old new [] SendWrite → IsSilent old new
silent_part old new clear part =
    let size = ap length part.whole ∙ ap (λ (g : List ℕ). length (g ++ [])) clear in
    let parts = length-append (part.written ++ new.buffered) part.lost in
    let fronts = length-append part.written new.buffered in
    record {
      writer = part.writer;
      taken = nothing_taken old.sink.taken new.sink.taken part.written (nil_from_length part.written (omega (arith, size, parts, fronts))) part.taken;
      clear = nil_from_length new.buffered (omega (arith, size, parts, fronts));
    }

-- whatever the fault
pub silent_fault : {T : Type 0} (fault : LineFault) (old new : OutputState) → old.buffered ≡ []
    → (failed {T = T} fault ≢ failed lines.Write → Tells old new [])
    → (failed {T = T} fault ≡ failed lines.Write → TellsPart old new [] SendWrite)
    → IsSilent old new
silent_fault lines.Read old new clear told part = silent old new clear (told (λ e. absurd cc))
silent_fault lines.Write old new clear told part = silent_part old new clear (part refl)
silent_fault lines.TooLong old new clear told part = silent old new clear (told (λ e. absurd cc))
