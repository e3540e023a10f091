use Rattle.lgm_route.proofs.Searches.{extends-refl}
use Rattle.lgm_route.proofs.label_search.LabelSearch.settle_early.Goals as goal

pub loop-settled-init : goal.loop-settled-init
loop-settled-init g c = extends-refl c.args.self.now
