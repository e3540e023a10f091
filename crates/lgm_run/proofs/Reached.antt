-- How far a script was answered while no device failed.
use Rattle.std.proofs.Common.{◌≡◌, ℕ, ◌+◌, ◌≤◌, List, [], drop, Option, refl, sym, subst, ◌∙◌, arith}
use Rattle.lgm_wire.specs.declared.chain_hash.ChainHash.{ChainHash}
use Rattle.lgm_script.specs.Device.{Input}
use Rattle.lgm_script.specs.Lines.{ahead, IsFirstLine}
use Rattle.lgm_script.specs.Output.{OutputState, Tells}
use Rattle.lgm_answers.specs.declared.run_fault.TheConstants.{MAX_LINES}
use Rattle.lgm_answers.specs.Script.{ScriptState}
use Rattle.lgm_run.specs.inner.Steps.{opening}
use Rattle.lgm_run.specs.inner.Progress.{HaveAnswers}
use Rattle.lgm_run.proofs.Progress.{SoFar, starts, step, told_on}

-- a script was answered up to this line, and no device failed
pub record IsUpTo (chain : ChainHash) (known : Option (List ℕ)) (source : Input) (output : OutputState)
    (k : ℕ) (state : ScriptState) (buffered : List ℕ) (mid : Input) (between : OutputState) : Type 0 where
  pub read_same : mid.failures ≡ source.failures
  pub write_same : between.sink.failures ≡ output.sink.failures
  pub writer : between.writer ≡ output.writer
  pub within : k ≤ MAX_LINES
  pub so_far : SoFar chain known source.left k state (ahead buffered mid.left) output between

pub up_to_first : (chain : ChainHash) (known : Option (List ℕ)) (source : Input) (output : OutputState)
    → IsUpTo chain known source output 0 (opening known) [] source output
up_to_first chain known source output = record {
  read_same = refl;
  write_same = refl;
  writer = refl;
  within = omega arith;
  so_far = starts chain known source.left output;
}

module _ {chain : ChainHash} {known : Option (List ℕ)} {source : Input} {output : OutputState} {k : ℕ}
    {state : ScriptState} {buffered : List ℕ} {mid : Input} {between : OutputState}
    (up_to : IsUpTo chain known source output k state buffered mid between) where
  -- the same, after more was read
  pub so_far_on : (buffered' : List ℕ) (source' : Input)
      → ahead buffered' source'.left ≡ ahead buffered mid.left
      → SoFar chain known source.left k state (ahead buffered' source'.left) output between
  so_far_on buffered' source' kept =
      subst (λ input. SoFar chain known source.left k state input output between) (sym kept) up_to.so_far

  -- and what was buffered was written
  pub read_on : (buffered' : List ℕ) (source' : Input) (output' : OutputState)
      → ahead buffered' source'.left ≡ ahead buffered mid.left → source'.failures ≡ mid.failures
      → Tells between output' []
      → IsUpTo chain known source output k state buffered' source' output'
  read_on buffered' source' output' kept well told = record {
    read_same = well ∙ up_to.read_same;
    write_same = told.well ∙ up_to.write_same;
    writer = told.writer ∙ up_to.writer;
    within = up_to.within;
    so_far =
        told_on chain known source.left k state (ahead buffered' source'.left) output between
        (so_far_on buffered' source' kept) output' told;
  }

  -- and the next lines were answered
  pub answered_on : {state' : ScriptState} {output' : OutputState} {first count len : ℕ}
      → IsFirstLine buffered mid.left first
      → HaveAnswers chain (k + 1) state state' buffered first (Tells between output') count len
      → k + count ≤ MAX_LINES
      → IsUpTo chain known source output (k + count) state' (drop len buffered) mid output'
  answered_on {state'} {output'} {first} {count} {len} line answers few =
      let text = answers.text in
      record {
        read_same = up_to.read_same;
        write_same = text.well ∙ up_to.write_same;
        writer = text.writer ∙ up_to.writer;
        within = few;
        so_far =
            step chain known source.left k state buffered mid.left output between up_to.so_far first count len state'
            output' line answers;
      }
