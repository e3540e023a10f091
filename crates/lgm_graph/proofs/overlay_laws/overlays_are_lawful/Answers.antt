use Rattle.lgm_graph.proofs.OverlayLaws.{neutral, keeps_keys, only_narrows, only_adds}
use Rattle.lgm_graph.proofs.overlay_laws.overlays_are_lawful.Goals as goal

pub returns-clause-neutral : goal.returns-clause-neutral
returns-clause-neutral c = neutral

pub returns-clause-keyed : goal.returns-clause-keyed
returns-clause-keyed c = keeps_keys

pub returns-clause-narrows : goal.returns-clause-narrows
returns-clause-narrows c = only_narrows

pub returns-clause-adds : goal.returns-clause-adds
returns-clause-adds c = only_adds
