-- How a run ends at a fault.
use Rattle.std.proofs.Common.{◌≡◌, ◌⊎◌, inl, inr, ℕ, ◌<◌, Bool, true, false, List, Option, Result, Err, refl, sym, ap, ◌∙◌}
use Rattle.std.proofs.Common.{true≢false}
use Rattle.std.specs.Prelude.{IfSome}
use Rattle.lgm_wire.specs.declared.chain_hash.ChainHash.{ChainHash}
use Rattle.lgm_script.specs.declared.output.SendFault.{SendFault}
use Rattle.lgm_script.specs.declared.output.SendFault.TheVariants as sending
use Rattle.lgm_script.specs.Device.{Input, Written, AppendsSome}
use Rattle.lgm_script.specs.Output.{OutputState}
use Rattle.lgm_live.specs.declared.fault.LiveFault.{LiveFault}
use Rattle.lgm_live.specs.declared.fault.LiveFault.TheVariants as live
use Rattle.lgm_live.specs.declared.report.LiveReport.{LiveReport}
use Rattle.lgm_answers.specs.declared.run_fault.RunFault.{RunFault}
use Rattle.lgm_answers.specs.declared.run_fault.RunFault.TheVariants as faults
use Rattle.lgm_answers.specs.Faults.{send_fault}
use Rattle.lgm_live.specs.Running.{live_fault, IsToldInPart, ComesFirst}
use Rattle.lgm_live.specs.RunsLive.{RunsLive}
use Rattle.lgm_live.specs.inner.Reading.{HasRead}

abbrev fails : {T : Type 0} → RunFault → Result T RunFault
fails fault = Err fault

fault_is : (e f : RunFault) → fails {T = LiveReport} e ≡ fails f → e ≡ f
fault_is e f same = cc

abbrev sends : SendFault → Result (Unit {0}) SendFault
sends fault = Err fault

-- a fault of the script or of a device, of which more is promised
abbrev says_more : RunFault → Bool
says_more faults.TooManyLines = true
says_more faults.LineTooLong = true
says_more faults.Read = true
says_more faults.Write = true
says_more _ = false

never : (e f : RunFault) → says_more e ≡ false → says_more f ≡ true → fails {T = LiveReport} e ≡ fails f → ⊥
never e f less more same = true≢false (sym more ∙ ap says_more (sym (fault_is e f same)) ∙ less)

module _ (chain : ChainHash) (known : Option (List ℕ)) (workers : ℕ) (reader reader' : Input)
    (writer writer' : Written) where
  abbrev Ends : RunFault → Type 0
  Ends fault = RunsLive chain known workers reader reader' writer writer' (fails fault)

  -- a part of the text of the whole script was written
  abbrev IsInPart : Type 0
  IsInPart = IfSome reader.left (IsToldInPart chain known workers (AppendsSome writer.taken writer'.taken))

  other : (fault : RunFault) → says_more fault ≡ false → (ComesFirst fault → writer'.taken ≡ writer.taken)
      → (writer'.taken ≡ writer.taken) ⊎ IsInPart → Ends fault
  other fault less silent written = record {
    ok = tt;
    too_many = λ is. absurd (never fault faults.TooManyLines less refl is);
    too_long = λ is. absurd (never fault faults.LineTooLong less refl is);
    silent = silent;
    fault = written;
    read = λ is. absurd (never fault faults.Read less refl is);
    write = λ is. absurd (never fault faults.Write less refl is);
  }

  -- there is no memory before anything is written
  pub no_memory : writer'.taken ≡ writer.taken → Ends faults.NoMemory
  no_memory silent = other faults.NoMemory refl (λ _. silent) (inl silent)

  -- the writer or a worker gave up
  pub not_answered : (fault : LiveFault) → writer'.taken ≡ writer.taken → Ends (live_fault fault)
  not_answered live.NoMemory silent = no_memory silent
  not_answered live.Closed silent = other faults.Closed refl (λ _. silent) (inl silent)
  not_answered live.Versions silent = other faults.Versions refl (λ _. silent) (inl silent)

  -- a part of the text was written
  pub not_written : (fault : SendFault) → IsInPart
      → (sends fault ≡ sends sending.Write → writer.failures < writer'.failures)
      → Ends (send_fault fault)
  not_written sending.NoMemory part write = other faults.NoMemory refl (λ first. absurd first) (inr part)
  not_written sending.Write part write = record {
    ok = tt;
    too_many = λ is. absurd cc;
    too_long = λ is. absurd cc;
    silent = λ first. absurd first;
    fault = inr part;
    read = λ is. absurd cc;
    write = λ _. write refl;
  }

-- the script wasn't read to its end
pub not_read : {T : Type 0} (chain : ChainHash) (known : Option (List ℕ)) (workers : ℕ) (source source' : Input)
    (output output' : OutputState) {whole : T → Type 0} (fault : RunFault)
    → HasRead source source' output output' whole (fails fault)
    → RunsLive chain known workers source source' output.sink output'.sink (fails fault)
not_read {T = T} chain known workers source source' output output' fault read = record {
  ok = tt;
  too_many = λ is. read.too_many (ap (fails {T = T}) (fault_is fault faults.TooManyLines is));
  too_long = λ is. read.too_long (ap (fails {T = T}) (fault_is fault faults.LineTooLong is));
  silent = λ _. read.silent;
  fault = inl read.silent;
  read = λ is. read.read (ap (fails {T = T}) (fault_is fault faults.Read is));
  write = λ is. read.write (ap (fails {T = T}) (fault_is fault faults.Write is));
}
