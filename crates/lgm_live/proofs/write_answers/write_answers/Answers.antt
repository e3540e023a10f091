use Rattle.std.proofs.Common.{◌∙◌}
use Rattle.lgm_script.proofs.WrittenTextLaws.{writer_stays}
use Rattle.lgm_live.proofs.Parts.{part_written, part_flushed, part_fails}
use Rattle.lgm_live.proofs.write_answers.write_answers.Goals as goal

pub returns-in-Err-Write-clause-writer : goal.returns-in-Err-Write-clause-writer
returns-in-Err-Write-clause-writer g c = writer_stays c.write_line_answers-told.result _ _ _ c.write_line_answers-told.ensures

pub returns-in-Ok-clause-writer : goal.returns-in-Ok-clause-writer
returns-in-Ok-clause-writer g c =
    let flushed = c.in-Ok.ensures.written in
    flushed.writer ∙ writer_stays c.write_line_answers-told.result _ _ _ c.write_line_answers-told.ensures

pub returns-in-Err-clause-writer : goal.returns-in-Err-clause-writer
returns-in-Err-clause-writer g c =
    let failed = c.in-Err.ensures.written in
    failed.writer ∙ writer_stays c.write_line_answers-told.result _ _ _ c.write_line_answers-told.ensures

pub returns-in-Err-Write-clause-part : goal.returns-in-Err-Write-clause-part
returns-in-Err-Write-clause-part g c =
    part_written c.write_line_answers-told.result _ _ _ c.requires.buffered c.write_line_answers-told.ensures

pub returns-in-Ok-clause-part : goal.returns-in-Ok-clause-part
returns-in-Ok-clause-part g c =
    part_flushed c.write_line_answers-told.result _ _ _ _ c.requires.buffered c.write_line_answers-told.ensures
    c.in-Ok.ensures.written

pub returns-in-Err-clause-part : goal.returns-in-Err-clause-part
returns-in-Err-clause-part g c =
    part_fails c.write_line_answers-told.result _ _ _ _ c.requires.buffered c.write_line_answers-told.ensures
    c.in-Err.ensures.written
