-- What was written of a text.
use Rattle.std.proofs.Common.{◌≡◌, ℕ, List, [], Result, Ok, Err}
use Rattle.std.specs.Prelude.{OnErr, MatchResult}
use Rattle.lgm_script.specs.declared.output.SendFault.{SendFault}
use Rattle.lgm_script.specs.declared.output.SendFault.TheVariants.{Write}
use Rattle.lgm_script.specs.Device.{AppendsSome}
use Rattle.lgm_script.specs.Output.{OutputState, Tells, TellsPart}
use Rattle.lgm_script.proofs.WrittenTextLaws.{taken_some, some_of_all, some_of_part, some_flushed, some_flushed_part}

-- a prefix was written, and nothing is written after it
pub part_written : (result : Result (Unit {0}) SendFault) (old mid : OutputState) (text : List ℕ) → old.buffered ≡ []
    → MatchResult result (λ _. Tells old mid text) (λ fault. TellsPart old mid text fault)
    → OnErr result (AppendsSome old.sink.taken mid.sink.taken text)
part_written (Ok t) old mid text clear told = tt
part_written (Err fault) old mid text clear part = taken_some old mid text clear (some_of_part old mid text fault part)

-- and the rest of what is buffered is written
pub part_flushed : (result : Result (Unit {0}) SendFault) (old mid new : OutputState) (text : List ℕ)
    → old.buffered ≡ [] → MatchResult result (λ _. Tells old mid text) (λ fault. TellsPart old mid text fault)
    → Tells mid new [] → OnErr result (AppendsSome old.sink.taken new.sink.taken text)
part_flushed (Ok t) old mid new text clear told flushed = tt
part_flushed (Err fault) old mid new text clear part flushed =
    taken_some old new text clear
    (some_flushed old mid new text (some_of_part old mid text fault part) flushed)

-- or a part of it
pub part_fails : (result : Result (Unit {0}) SendFault) (old mid new : OutputState) (text : List ℕ)
    → old.buffered ≡ [] → MatchResult result (λ _. Tells old mid text) (λ fault. TellsPart old mid text fault)
    → TellsPart mid new [] Write → AppendsSome old.sink.taken new.sink.taken text
part_fails (Ok t) old mid new text clear told flushed =
    taken_some old new text clear
    (some_flushed_part old mid new text Write (some_of_all old mid text told) flushed)
part_fails (Err fault) old mid new text clear part flushed =
    taken_some old new text clear
    (some_flushed_part old mid new text Write (some_of_part old mid text fault part) flushed)
