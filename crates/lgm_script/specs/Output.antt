-- Text for a sink: what the sink accepted, and after it what is buffered for it.
use Rattle.std.specs.Prelude.{◌≡◌, ℕ, ◌<◌, List, [], ◌++◌, Option, Result, MatchResult}
use Rattle.std.specs.Option.{option_map}
use Rattle.lgm_script.specs.declared.output.Output.{Output}
use Rattle.lgm_script.specs.declared.output.SendFault.{SendFault}
use Rattle.lgm_script.specs.declared.output.SendFault.TheVariants.{Write, NoMemory}
use Rattle.lgm_script.specs.Device.{Written, Appends}

-- the name of the reference to the sink, what contracts see of the sink, and the bytes buffered for it
pub record OutputState : Type 0 where
  pub writer : ℕ
  pub sink : Written
  pub buffered : List ℕ

-- an output as such a record
abbrev pub told_by : {W : Type 0} → (W → Written) → Output W → OutputState
told_by seen output = record {
  writer = output.writer.ghost_name;
  sink = seen output.writer.now;
  buffered = output.buffered.now.items;
}

-- all that was written: what was accepted, and then what is buffered
abbrev pub all_told : OutputState → Option (List ℕ)
all_told told = option_map (λ bytes. bytes ++ told.buffered) told.sink.taken

-- a text was written: the same sink accepted a prefix of what there was, and the rest is buffered
pub record Tells (old new : OutputState) (text : List ℕ) : Type 0 where
  pub writer : new.writer ≡ old.writer
  pub written : List ℕ
  pub taken : Appends old.sink.taken new.sink.taken written
  pub whole : written ++ new.buffered ≡ old.buffered ++ text
  pub well : new.sink.failures ≡ old.sink.failures

-- a prefix of it was written, and `lost` wasn't. If the sink failed, the buffer is empty
pub record TellsPart (old new : OutputState) (text : List ℕ) (fault : SendFault) : Type 0 where
  pub writer : new.writer ≡ old.writer
  pub written : List ℕ
  pub lost : List ℕ
  pub taken : Appends old.sink.taken new.sink.taken written
  pub whole : (written ++ new.buffered) ++ lost ≡ old.buffered ++ text
  pub cause : fault ≡ Write → old.sink.failures < new.sink.failures
  pub well : fault ≡ NoMemory → new.sink.failures ≡ old.sink.failures
  pub empty : fault ≡ Write → new.buffered ≡ []

-- what a call says of a text that it writes: all of it was written, or at a fault a prefix
abbrev pub Writes : OutputState → OutputState → List ℕ → Result (Unit {0}) SendFault → Type 0
Writes old new text result = MatchResult result (λ _. Tells old new text) (λ fault. TellsPart old new text fault)

-- a prefix of a text was written, whatever came then
pub record TellsSome (old new : OutputState) (text : List ℕ) : Type 0 where
  pub written : List ℕ
  pub lost : List ℕ
  pub taken : Appends old.sink.taken new.sink.taken written
  pub whole : (written ++ new.buffered) ++ lost ≡ old.buffered ++ text
