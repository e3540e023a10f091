use Rattle.lgm_route.proofs.Visits.{least-unique, least-simple}
use Rattle.lgm_route.proofs.laws.least_is_one.Goals as goal

pub returns : goal.returns
returns c = λ edges request walk other keyed apart least also.
    (least-unique edges request walk other keyed apart least also, least-simple edges request walk apart least)
