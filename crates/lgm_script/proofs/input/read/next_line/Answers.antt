use Rattle.std.proofs.Common.{Bool, Result, Ok, Err, ℕ, List, ◌≡◌, ◌<◌, ◌⊎◌, ◌∙◌, [], length, take, inl, inr, sym, ap, arith}
use Rattle.std.proofs.lemmas.List.Elements.{All-same}
use Rattle.std.proofs.lemmas.Result.{err_from_is_err_and}
use Rattle.lgm_script.specs.declared.input.line_reader.TheConstants.{MAX_LINE}
use Rattle.lgm_script.specs.declared.input.read.LineFault.{LineFault}
use Rattle.lgm_script.specs.declared.input.read.LineFault.TheVariants.{Write}
use Rattle.lgm_script.specs.declared.output.SendFault.TheVariants.{Write as SendWrite}
use Rattle.lgm_script.specs.Lines.{HasNoLineFeed}
use Rattle.lgm_script.proofs.FirstLineFeedLaws.{EndsNoLine, first_is_longer, has_longer}
use Rattle.lgm_script.proofs.WrittenTextLaws.{tells_both, tells_part_behind}
use Rattle.lgm_script.proofs.input.read.next_line.Goals as goal

abbrev failed : {T : Type 0} → LineFault → Result T LineFault
failed fault = Err fault

failed_is : {T : Type 0} (a b : LineFault) → failed {T = T} a ≡ failed b → a ≡ b
failed_is a b e = cc

-- where a line feed was read ahead, nothing was read since
module _ {S : Type 0} (old lines : List ℕ) (was source : S) where
  stays : HasNoLineFeed old ⊎ ((lines ≡ old) × (source ≡ was)) → ¬ HasNoLineFeed old → (lines ≡ old) × (source ≡ was)
  stays (inl none) some = absurd (some none)
  stays (inr same) some = same

  -- and where there is none now, there was none
  none_before : HasNoLineFeed old ⊎ ((lines ≡ old) × (source ≡ was)) → HasNoLineFeed lines → HasNoLineFeed old
  none_before (inl none) now = none
  none_before (inr same) now = rw same.0 at now

pub returns-then-count-gt-MAX_LINE-clause-ready : goal.returns-then-count-gt-MAX_LINE-clause-ready
returns-then-count-gt-MAX_LINE-clause-ready g c = stays _ _ _ _ c.loop-count.invariant.ready

pub returns-else-count-gt-MAX_LINE-clause-ready : goal.returns-else-count-gt-MAX_LINE-clause-ready
returns-else-count-gt-MAX_LINE-clause-ready g c = stays _ _ _ _ c.loop-count.invariant.ready

pub returns-then-searched-gt-MAX_LINE-clause-ready : goal.returns-then-searched-gt-MAX_LINE-clause-ready
returns-then-searched-gt-MAX_LINE-clause-ready g c = stays _ _ _ _ c.loop-count.invariant.ready

pub returns-in_err-read_on-clause-ready : goal.returns-in_err-read_on-clause-ready
returns-in_err-read_on-clause-ready g c = λ some.
    absurd (some (none_before _ _ _ _ c.loop-count.invariant.ready (rw c.buffered.ensures at c.in_default.ensures.none)))

pub returns-then-searched-gt0-clause-ready : goal.returns-then-searched-gt0-clause-ready
returns-then-searched-gt0-clause-ready g c = λ some.
    absurd (some (none_before _ _ _ _ c.loop-count.invariant.ready (rw c.buffered.ensures at c.in_default.ensures.none)))

pub returns-else-searched-gt0-clause-ready : goal.returns-else-searched-gt0-clause-ready
returns-else-searched-gt0-clause-ready g c = λ some.
    absurd (some (none_before _ _ _ _ c.loop-count.invariant.ready (rw c.buffered.ensures at c.in_default.ensures.none)))

pub returns-then-count-gt-MAX_LINE-clause-too_long : goal.returns-then-count-gt-MAX_LINE-clause-too_long
returns-then-count-gt-MAX_LINE-clause-too_long g c = λ e.
    let left = (g.R.Source.seen c.loop-count.source).left in
    first_is_longer MAX_LINE c.in-Some.count c.loop-count.lines left (rw c.buffered.ensures at c.in-Some.ensures.line left) c.if-count-gt-MAX_LINE.true

pub returns-else-count-gt-MAX_LINE-clause-line : goal.returns-else-count-gt-MAX_LINE-clause-line
returns-else-count-gt-MAX_LINE-clause-line g c = rw c.buffered.ensures at c.in-Some.ensures.line (g.R.Source.seen c.loop-count.source).left

pub returns-then-searched-gt-MAX_LINE-clause-too_long : goal.returns-then-searched-gt-MAX_LINE-clause-too_long
returns-then-searched-gt-MAX_LINE-clause-too_long g c = λ e.
    let long : MAX_LINE < length c.loop-count.lines = omega (arith, c.if-searched-gt-MAX_LINE.true, ap length c.buffered-searched.ensures) in
    has_longer MAX_LINE c.loop-count.lines (g.R.Source.seen c.loop-count.source).left (rw c.buffered.ensures at c.in_default.ensures.none) long

pub returns-in_err-read_on-clause-written : goal.returns-in_err-read_on-clause-written
returns-in_err-read_on-clause-written g c = λ other.
    let p = err_from_is_err_and c.from_residual.result c.from_residual.ensures.1 in
    tells_both _ _ _ [] [] c.loop-count.invariant.written (c.in_err-read_on.ensures.written (λ e. other (p.1
    ∙ ap (λ (f : LineFault). Err f) (p.2 ∙ failed_is {T = Bool} c.in_err-read_on.field-0.0 Write e))))

pub returns-in_err-read_on-clause-write : goal.returns-in_err-read_on-clause-write
returns-in_err-read_on-clause-write g c = λ e.
    let p = err_from_is_err_and c.from_residual.result c.from_residual.ensures.1 in
    let same : failed {T = Bool} c.in_err-read_on.field-0.0 ≡ failed Write =
    ap (λ (f : LineFault). Err f) (sym p.2 ∙ failed_is p.0 Write (sym p.1 ∙ e)) in
    tells_part_behind _ _ _ [] [] SendWrite c.loop-count.invariant.written (c.in_err-read_on.ensures.write same)

pub returns-then-searched-gt0-clause-written : goal.returns-then-searched-gt0-clause-written
returns-then-searched-gt0-clause-written g c = λ other.
    tells_both _ _ _ [] [] c.loop-count.invariant.written (c.in_ok-read_on.ensures.written (λ e. cc))

pub returns-else-searched-gt0-clause-written : goal.returns-else-searched-gt0-clause-written
returns-else-searched-gt0-clause-written g c = λ other.
    tells_both _ _ _ [] [] c.loop-count.invariant.written (c.in_ok-read_on.ensures.written (λ e. cc))

pub loop-count-preserved : goal.loop-count-preserved
loop-count-preserved g c =
    let lines = c.loop-count.lines in
    let size : length c.buffered-searched.result.now ≡ length lines = ap length c.buffered-searched.ensures in
    let more = c.in_ok-read_on.ensures.more in
    record {
      kept = c.in_ok-read_on.ensures.kept ∙ c.loop-count.invariant.kept;
      within = let grown = c.in_ok-read_on.ensures.more (ap (λ (b : Bool). Ok b) c.if-not-branch.false) in omega (arith, size);
      one =
          rw size (All-same EndsNoLine (take (length lines) c.read_on.new.lines) lines
          c.in_ok-read_on.ensures.front (rw c.buffered.ensures at c.in_default.ensures.none));
      ready = inl (none_before _ _ _ _ c.loop-count.invariant.ready (rw c.buffered.ensures at c.in_default.ensures.none));
      written = tells_both _ _ _ [] [] c.loop-count.invariant.written (c.in_ok-read_on.ensures.written (λ e. cc));
      well = c.in_ok-read_on.ensures.well (λ e. cc) ∙ c.loop-count.invariant.well;
    }
