-- The verdicts that numbers stand for.
use Rattle.std.specs.Prelude.{ℕ, ◌==◌, if◌then◌else◌, true, false, List, Result, Ok, Err}
use Rattle.lgm_check.specs.declared.evidence.Evidence.{Evidence}
use Rattle.lgm_check.specs.declared.evidence.Sig.{Sig}
use Rattle.lgm_check.specs.declared.evidence.Sig.TheVariants as sigs
use Rattle.lgm_check.specs.declared.evidence.Funding.{Funding}
use Rattle.lgm_check.specs.declared.evidence.Funding.TheVariants as fundings
use Rattle.lgm_c.specs.declared.argument_fault.ArgumentFault.{ArgumentFault}
use Rattle.lgm_c.specs.declared.argument_fault.ArgumentFault.TheVariants as wrong

-- on signatures; number 2 is the signer's
abbrev pub sig_of : ℕ → List ℕ → Result Sig ArgumentFault
sig_of number signer =
    if number == 0 then Ok (sigs.AllFour true)
    else if number == 1 then Ok (sigs.AllFour false)
    else if number == 2 then Ok (sigs.By (record { 0 = signer }))
    else if number == 3 then Ok sigs.Nobody
    else Err wrong.Sig

-- on a funding output, which may have this many satoshi
abbrev pub funding_of : ℕ → ℕ → Result Funding ArgumentFault
funding_of number sat =
    if number == 0 then Ok fundings.NotAsked
    else if number == 1 then Ok (fundings.Unspent sat)
    else if number == 2 then Ok fundings.Spent
    else if number == 3 then Ok fundings.Wrong
    else Err wrong.Funding

abbrev pub both : Result Sig ArgumentFault → Result Funding ArgumentFault → Result Evidence ArgumentFault
both (Ok sig) (Ok funding) = Ok (record { sig = sig; funding = funding })
both (Ok sig) (Err fault) = Err fault
both (Err fault) funding = Err fault

-- both verdicts, or the first number that stands for none
abbrev pub evidence_of : ℕ → List ℕ → ℕ → ℕ → Result Evidence ArgumentFault
evidence_of sig signer funding sat = both (sig_of sig signer) (funding_of funding sat)
