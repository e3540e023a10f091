use Rattle.std.proofs.Common.{arith, length-drop}
use Rattle.std.proofs.lemmas.List.{take_rest}
use Rattle.lgm_script.proofs.FirstLineFeedLaws.{found_line, found_none}
use Rattle.lgm_script.proofs.input.line_reader.find_line.Goals as goal

pub returns-in_err-place-clause-none : goal.returns-in_err-place-clause-none
returns-in_err-place-clause-none c =
    let found = rw c.in_err-place.was at c.memchr.ensures in
    let own = rw take_rest at found in
    rw c.from_residual.ensures (found_none c.args.bytes.now c.args.searched c.requires.searched own)

pub returns-clause-line : goal.returns-clause-line
returns-clause-line c =
    let found = rw c.in_ok-place.was at c.memchr.ensures in
    let own = rw take_rest at found in
    λ left. found_line c.args.bytes.now c.args.searched c.in_ok-place.place left c.requires.within c.requires.searched own

pub returns-clause-within : goal.returns-clause-within
returns-clause-within c =
    let found = rw c.in_ok-place.was at c.memchr.ensures in
    let own = rw take_rest at found in
    let front = own.0 in
    omega (arith, front.high, length-drop c.args.searched c.args.bytes.now)
