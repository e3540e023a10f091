use Rattle.std.proofs.lemmas.Result.{err_from_is_err_and}
use Rattle.lgm_script.proofs.WrittenTextLaws.{tells_part_more, written_behind}
use Rattle.lgm_answers.proofs.send.send_commit.Goals as goal

pub returns-in_err-send : goal.returns-in_err-send
returns-in_err-send g c =
    let p = err_from_is_err_and c.from_residual.result c.from_residual.ensures.1 in
    rw (p.1, p.2) (tells_part_more _ _ _ _ _ c.in_err-send.ensures)

pub returns : goal.returns
returns g c =
    written_behind c.send_all_news.result _ _ _ _ _ c.in_ok-send.ensures c.send_all_news.ensures
