use Rattle.lgm_route.proofs.Searches.{extends-refl}
use Rattle.lgm_route.proofs.label_search.LabelSearch.settle_layers.Goals as goal

pub loop-layer-init : goal.loop-layer-init
loop-layer-init g c = extends-refl c.args.self.now
