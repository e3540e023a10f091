-- Text that is written in several writes.
use Rattle.std.proofs.Common.{◌≡◌, ℕ, ◌<◌, Result, Ok, Err, List, [], ◌++◌, length, take, drop}
use Rattle.std.proofs.Common.{refl, sym, ap, subst, ◌∙◌, append_assoc, arith}
use Rattle.std.proofs.lemmas.List.{append-nil, take-append-drop}
use Rattle.std.proofs.Math.Seq.{take-append_seam}
use Rattle.lgm_script.specs.declared.output.SendFault.{SendFault}
use Rattle.lgm_script.specs.declared.output.SendFault.TheVariants.{Write, NoMemory}
use Rattle.lgm_script.specs.Device.{Written, Appends, AppendsSome}
use Rattle.lgm_script.specs.Output.{OutputState, Tells, TellsPart, Writes, TellsSome}
use Rattle.lgm_script.proofs.AppendedBytesLaws.{appends_nothing, appends_both}

-- nothing was written
pub tells_nothing : (told : OutputState) → Tells told told []
tells_nothing told = record {
  writer = refl;
  written = [];
  taken = appends_nothing told.sink.taken;
  whole = sym (append-nil told.buffered);
  well = refl;
}

-- a text after another one
pub tells_both : (old mid new : OutputState) (a b : List ℕ) → Tells old mid a → Tells mid new b → Tells old new (a ++ b)
tells_both old mid new a b first then = record {
  writer = then.writer ∙ first.writer;
  written = first.written ++ then.written;
  taken = appends_both old.sink.taken mid.sink.taken new.sink.taken first.written then.written first.taken then.taken;
  whole =
      append_assoc first.written then.written new.buffered
      ∙ ap (λ (s : List ℕ). first.written ++ s) then.whole
      ∙ sym (append_assoc first.written mid.buffered b)
      ∙ ap (λ (s : List ℕ). s ++ b) first.whole
      ∙ append_assoc old.buffered a b;
  well = then.well ∙ first.well;
}

-- what was written, what is buffered and what was lost of a text after another one
whole_behind : (old mid new : OutputState) (a b one two lost : List ℕ) → one ++ mid.buffered ≡ old.buffered ++ a
    → (two ++ new.buffered) ++ lost ≡ mid.buffered ++ b → ((one ++ two) ++ new.buffered) ++ lost ≡ old.buffered ++ (a ++ b)
whole_behind old mid new a b one two lost first then =
    append_assoc (one ++ two) new.buffered lost
    ∙ append_assoc one two (new.buffered ++ lost)
    ∙ ap (λ (s : List ℕ). one ++ s) (sym (append_assoc two new.buffered lost) ∙ then)
    ∙ sym (append_assoc one mid.buffered b)
    ∙ ap (λ (s : List ℕ). s ++ b) first
    ∙ append_assoc old.buffered a b

-- a prefix of a text after another one
pub tells_part_behind : (old mid new : OutputState) (a b : List ℕ) (fault : SendFault) → Tells old mid a
    → TellsPart mid new b fault → TellsPart old new (a ++ b) fault
tells_part_behind old mid new a b fault first then = record {
  writer = then.writer ∙ first.writer;
  written = first.written ++ then.written;
  lost = then.lost;
  taken = appends_both old.sink.taken mid.sink.taken new.sink.taken first.written then.written first.taken then.taken;
  whole = whole_behind old mid new a b first.written then.written then.lost first.whole then.whole;
  cause = λ e. let rise = then.cause e in let same = first.well in omega arith;
  well = λ e. then.well e ∙ first.well;
  empty = then.empty;
}

-- a prefix of a text is a prefix of a longer one
pub tells_part_more : (old new : OutputState) (a b : List ℕ) (fault : SendFault) → TellsPart old new a fault → TellsPart old new (a ++ b) fault
tells_part_more old new a b fault part = record {
  writer = part.writer;
  written = part.written;
  lost = part.lost ++ b;
  taken = part.taken;
  whole =
      sym (append_assoc (part.written ++ new.buffered) part.lost b)
      ∙ ap (λ (s : List ℕ). s ++ b) part.whole
      ∙ append_assoc old.buffered a b;
  cause = part.cause;
  well = part.well;
  empty = part.empty;
}

-- if memory ran out, nothing was written
pub tells_none : (told : OutputState) (text : List ℕ) → TellsPart told told text NoMemory
tells_none told text = record {
  writer = refl;
  written = [];
  lost = text;
  taken = appends_nothing told.sink.taken;
  whole = refl;
  cause = λ e. absurd cc;
  well = λ e. refl;
  empty = λ e. absurd cc;
}

-- if memory ran out and nothing was buffered, nothing was written
pub tells_same : (writer : ℕ) (sink : Written) (buffered buffered' text : List ℕ) → buffered' ≡ buffered
    → TellsPart (record { writer = writer; sink = sink; buffered = buffered })
    (record { writer = writer; sink = sink; buffered = buffered' }) text NoMemory
tells_same writer sink buffered buffered' text is =
    rw is (tells_none (record { writer = writer; sink = sink; buffered = buffered }) text)

-- a prefix of what was buffered was accepted before the sink failed, and the rest is dropped
pub tells_some : (writer : ℕ) (old new : Written) (buffered bytes buffered' : List ℕ)
    → bytes ≡ buffered → AppendsSome old.taken new.taken bytes → buffered' ≡ [] → old.failures < new.failures
    → TellsPart (record { writer = writer; sink = old; buffered = buffered })
    (record { writer = writer; sink = new; buffered = buffered' }) [] Write
tells_some writer old new buffered bytes buffered' same some dropped rise = record {
  writer = refl;
  written = take some.0 bytes;
  lost = drop some.0 bytes;
  taken = some.1;
  whole =
      ap (λ (s : List ℕ). (take some.0 bytes ++ s) ++ drop some.0 bytes) dropped
      ∙ ap (λ (s : List ℕ). s ++ drop some.0 bytes) (append-nil (take some.0 bytes))
      ∙ take-append-drop some.0 bytes ∙ same ∙ sym (append-nil buffered);
  cause = λ e. rise;
  well = λ e. absurd cc;
  empty = λ e. dropped;
}

-- ---- a text that is written line by line

-- a prefix of the whole text was written, and this is the rest
pub record Onward (old mid : OutputState) (whole rest : List ℕ) : Type 0 where
  pub done : List ℕ
  pub told : Tells old mid done
  pub parts : whole ≡ done ++ rest

-- nothing was written yet
pub onward_first : (told : OutputState) (whole rest : List ℕ) → whole ≡ rest → Onward told told whole rest
onward_first told whole rest same = record { done = []; told = tells_nothing told; parts = same }

-- one more line
pub onward_more : (old mid new : OutputState) (whole rest line others : List ℕ) → Onward old mid whole rest
    → rest ≡ line ++ others → Tells mid new line → Onward old new whole others
onward_more old mid new whole rest line others on is told = record {
  done = on.done ++ line;
  told = tells_both old mid new on.done line on.told told;
  parts = on.parts ∙ ap (λ (s : List ℕ). on.done ++ s) is ∙ sym (append_assoc on.done line others);
}

-- a prefix of one more line, and then a fault
pub onward_stops : (old mid new : OutputState) (whole rest line others : List ℕ) (fault : SendFault) → Onward old mid
    whole rest → rest ≡ line ++ others → TellsPart mid new line fault → TellsPart old new whole fault
onward_stops old mid new whole rest line others fault on is part =
    let so_far = tells_part_more old new (on.done ++ line) others fault (tells_part_behind old mid new on.done line fault on.told part) in
    subst (λ (s : List ℕ). TellsPart old new s fault)
    (append_assoc on.done line others ∙ ap (λ (s : List ℕ). on.done ++ s) (sym is) ∙ sym on.parts) so_far

-- nothing is left
pub onward_ends : (old mid : OutputState) (whole rest : List ℕ) → Onward old mid whole rest → rest ≡ [] → Tells old mid whole
onward_ends old mid whole rest on none =
    subst (Tells old mid) (sym (append-nil on.done) ∙ ap (λ (s : List ℕ). on.done ++ s) (sym none) ∙ sym on.parts) on.told

-- what a call writes after a text
pub written_behind : (result : Result (Unit {0}) SendFault) (old mid new : OutputState) (a b : List ℕ) → Tells old mid a
    → Writes mid new b result → Writes old new (a ++ b) result
written_behind (Ok t) old mid new a b first then = tells_both old mid new a b first then
written_behind (Err fault) old mid new a b first then = tells_part_behind old mid new a b fault first then

-- at a fault too it is the same sink
pub writer_stays : (result : Result (Unit {0}) SendFault) (old new : OutputState) (text : List ℕ) → Writes old new text result
    → new.writer ≡ old.writer
writer_stays (Ok t) old new text told = told.writer
writer_stays (Err fault) old new text part = part.writer

-- ---- a prefix, whatever came then

pub some_of_part : (old new : OutputState) (text : List ℕ) (fault : SendFault) → TellsPart old new text fault → TellsSome old new text
some_of_part old new text fault part = record { written = part.written; lost = part.lost; taken = part.taken; whole = part.whole }

pub some_of_all : (old new : OutputState) (text : List ℕ) → Tells old new text → TellsSome old new text
some_of_all old new text told = record {
  written = told.written;
  lost = [];
  taken = told.taken;
  whole = append-nil (told.written ++ new.buffered) ∙ told.whole;
}

-- if all that is buffered is written at the end, the sink has accepted the text
pub taken_all : (old mid new : OutputState) (text : List ℕ) → old.buffered ≡ [] → Tells old mid text
    → Tells mid new [] → new.buffered ≡ [] → Appends old.sink.taken new.sink.taken text
taken_all old mid new text empty told flushed clear =
    let both = tells_both old mid new text [] told flushed in
    let is : both.written ≡ text =
    sym (append-nil both.written) ∙ ap (λ (s : List ℕ). both.written ++ s) (sym clear) ∙ both.whole
    ∙ ap (λ (s : List ℕ). s ++ (text ++ [])) empty ∙ append-nil text in
    subst (Appends old.sink.taken new.sink.taken) is both.taken

-- or a prefix of it
pub taken_some : (old new : OutputState) (text : List ℕ) → old.buffered ≡ [] → TellsSome old new text → AppendsSome old.sink.taken new.sink.taken text
taken_some old new text empty some =
    let front : take (length some.written) text ≡ some.written =
    ap (λ (s : List ℕ). take (length some.written) s) (ap (λ (s : List ℕ). s ++ text) (sym empty)
    ∙ sym some.whole ∙ append_assoc some.written new.buffered some.lost)
    ∙ take-append_seam some.written (new.buffered ++ some.lost) in
    (length some.written, subst (Appends old.sink.taken new.sink.taken) (sym front) some.taken)

-- a prefix, and then a flush
pub some_flushed : (old mid new : OutputState) (text : List ℕ) → TellsSome old mid text → Tells mid new [] → TellsSome old new text
some_flushed old mid new text some flushed = record {
  written = some.written ++ flushed.written;
  lost = some.lost;
  taken = appends_both old.sink.taken mid.sink.taken new.sink.taken some.written flushed.written some.taken flushed.taken;
  whole =
      ap (λ (s : List ℕ). s ++ some.lost)
      (append_assoc some.written flushed.written new.buffered ∙ ap (λ (s : List ℕ). some.written ++ s) (flushed.whole ∙ append-nil mid.buffered))
      ∙ some.whole;
}

-- a prefix, and then a flush that fails
pub some_flushed_part : (old mid new : OutputState) (text : List ℕ) (fault : SendFault) → TellsSome old mid text
    → TellsPart mid new [] fault → TellsSome old new text
some_flushed_part old mid new text fault some flushed = record {
  written = some.written ++ flushed.written;
  lost = flushed.lost ++ some.lost;
  taken = appends_both old.sink.taken mid.sink.taken new.sink.taken some.written flushed.written some.taken flushed.taken;
  whole =
      sym (append_assoc ((some.written ++ flushed.written) ++ new.buffered) flushed.lost some.lost)
      ∙ ap (λ (s : List ℕ). s ++ some.lost)
      (append_assoc (some.written ++ flushed.written) new.buffered flushed.lost
      ∙ append_assoc some.written flushed.written (new.buffered ++ flushed.lost)
      ∙ ap (λ (s : List ℕ). some.written ++ s) (sym (append_assoc flushed.written new.buffered flushed.lost)
      ∙ flushed.whole ∙ append-nil mid.buffered))
      ∙ some.whole;
}

-- a prefix after a text
pub some_behind : (old mid new : OutputState) (a b : List ℕ) → Tells old mid a → TellsSome mid new b → TellsSome old new (a ++ b)
some_behind old mid new a b first then = record {
  written = first.written ++ then.written;
  lost = then.lost;
  taken = appends_both old.sink.taken mid.sink.taken new.sink.taken first.written then.written first.taken then.taken;
  whole = whole_behind old mid new a b first.written then.written then.lost first.whole then.whole;
}
