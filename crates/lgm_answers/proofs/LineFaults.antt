-- Scripts that end since a line can't be read.
use Rattle.std.proofs.Common.{◌≡◌, ℕ, ◌<◌, Option, Some, None, Result, Err, refl, sym, ap, ◌∙◌, arith}
use Rattle.std.specs.Prelude.{◌≢◌}
use Rattle.lgm_script.specs.declared.input.read.LineFault.{LineFault}
use Rattle.lgm_script.specs.declared.input.read.LineFault.TheVariants as lines
use Rattle.lgm_answers.specs.declared.run_fault.RunFault.{RunFault}
use Rattle.lgm_answers.specs.declared.run_fault.RunFault.TheVariants as faults
use Rattle.lgm_answers.specs.Faults.{line_fault}

abbrev pub failed : {T : Type 0} → LineFault → Result T LineFault
failed fault = Err fault

failed_is : {T : Type 0} (a b : LineFault) → failed {T = T} a ≡ failed b → a ≡ b
failed_is a b e = cc

abbrev some_fault : LineFault → Option LineFault
some_fault fault = Some fault

some_is : (a b : LineFault) → some_fault a ≡ some_fault b → a ≡ b
some_is a b e = cc

some_none : (a : LineFault) → some_fault a ≢ None
some_none a e = cc

-- the fault of a line, from that of the script
abbrev line_of : RunFault → Option LineFault
line_of faults.Read = Some lines.Read
line_of faults.Write = Some lines.Write
line_of faults.LineTooLong = Some lines.TooLong
line_of _ = None

line_back : (fault : LineFault) → line_of (line_fault fault) ≡ Some fault
line_back lines.Read = refl
line_back lines.Write = refl
line_back lines.TooLong = refl

module _ (T : Type 0) where
  abbrev ended : RunFault → Result T RunFault
  ended fault = Err fault

  ended_is : (a b : RunFault) → ended a ≡ ended b → a ≡ b
  ended_is a b e = cc

  line_is : (a b : LineFault) → ended (line_fault a) ≡ ended (line_fault b) → a ≡ b
  line_is a b e =
      some_is a b (sym (line_back a) ∙ ap line_of (ended_is (line_fault a) (line_fault b) e) ∙ line_back b)

  never : (other : RunFault) → line_of other ≡ None → (fault : LineFault)
      → ended (line_fault fault) ≢ ended other
  never other none fault e =
      some_none fault (sym (line_back fault) ∙ ap line_of (ended_is (line_fault fault) other e) ∙ none)

  -- what such an end says of the devices, by how often they had failed before and after
  pub record EndsAt (fault : LineFault) (reads reads' writes writes' : ℕ) : Type 0 where
    pub not_many : ended (line_fault fault) ≢ ended faults.TooManyLines
    pub too_long : ended (line_fault fault) ≡ ended faults.LineTooLong → fault ≡ lines.TooLong
    pub read : ended (line_fault fault) ≡ ended faults.Read → reads < reads'
    pub write : ended (line_fault fault) ≡ ended faults.Write → writes < writes'
    pub well : ended (line_fault fault) ≢ ended faults.Write → writes' ≡ writes

  pub ends_at : {U : Type 0} (fault : LineFault)
      → {reads mid reads' writes between writes' : ℕ} → mid ≡ reads → between ≡ writes
      → (failed {T = U} fault ≢ failed lines.Write → writes' ≡ between)
      → (failed {T = U} fault ≡ failed lines.Write → between < writes')
      → (failed {T = U} fault ≡ failed lines.Read → mid < reads')
      → EndsAt fault reads reads' writes writes'
  ends_at {U = U} fault read_same write_same told lost cause = record {
    not_many = never faults.TooManyLines refl fault;
    too_long = line_is fault lines.TooLong;
    read = λ same. omega (arith, cause (ap failed (line_is fault lines.Read same)), read_same);
    write = λ same. omega (arith, lost (ap failed (line_is fault lines.Write same)), write_same);
    well =
        λ other. told (λ same. other (ap (λ (f : LineFault). ended (line_fault f))
        (failed_is {T = U} fault lines.Write same)))
        ∙ write_same;
  }
