use Rattle.lgm_route.proofs.SpentSearches.{adds-trans}
use Rattle.lgm_route.proofs.SpentDives.{adds_marked}
use Rattle.lgm_route.proofs.Searches.{settled_led}
use Rattle.lgm_route.proofs.label_search.LabelSearch.close.Goals as goal

pub mark-requires-clause-settled : goal.mark-requires-clause-settled
mark-requires-clause-settled g c =
    settled_led c.args.self.now c.relax.new.self c.args.i c.is_done.ensures.search c.in_ok-relax.ensures.extends c.requires c.in_ok-relax.ensures.left

pub returns-in_err-mark-clause-adds : goal.returns-in_err-mark-clause-adds
returns-in_err-mark-clause-adds g c =
    adds-trans c.args.self.now c.relax.new.self c.mark.new.self c.in_ok-relax.ensures.adds
    (adds_marked c.relax.new.self c.mark.new.self c.mark.ensures.ground c.mark.ensures.labels c.mark.ensures.still c.mark.ensures.dived)
