use Rattle.lgm_sync.proofs.SyncLaws.{told, needed, done, sent}
use Rattle.lgm_sync.proofs.AnswerLaws.{answered}
use Rattle.lgm_sync.proofs.laws.what_is_lacking_is_told.Goals as goal

pub returns-clause-told : goal.returns-clause-told
returns-clause-told c = λ chain query row asks asked.
    told chain c.args.own.now c.args.peer.now query row c.rows_are_lawful-2.ensures.ascend
    (c.replies_cover_range.ensures chain c.args.peer.now query c.rows_are_lawful-2.ensures.ascend) asks asked

pub returns-clause-done : goal.returns-clause-done
returns-clause-done c = λ chain query row asks asked none.
    done chain c.args.own.now c.args.peer.now query row c.rows_are_lawful-2.ensures.ascend
    (c.replies_cover_range.ensures chain c.args.peer.now query c.rows_are_lawful-2.ensures.ascend) asks asked none

pub returns-clause-sent : goal.returns-clause-sent
returns-clause-sent c = λ chain query. sent chain c.args.peer.now query

pub returns-clause-answered : goal.returns-clause-answered
returns-clause-answered c = λ chain asked row held lacking.
    answered chain c.args.own.now c.args.peer.now asked row c.rows_are_lawful-2.ensures.ascend held lacking

pub returns-clause-needed : goal.returns-clause-needed
returns-clause-needed c = λ chain query one asks at has. needed chain c.args.own.now c.args.peer.now query one asks at has
