use Rattle.lgm_route.proofs.PreferredLaws.{preferred_tried, preferred-one}
use Rattle.lgm_route.proofs.laws.preferred_is_one.Goals as goal

pub returns : goal.returns
returns c = record { found = preferred_tried; one = preferred-one }
