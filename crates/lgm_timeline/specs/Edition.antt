-- A network with its position.
use Rattle.std.specs.Prelude.{◌≡◌}
use Rattle.lgm_timeline.specs.declared.edition.Edition.{Edition}
use Rattle.lgm_timeline.specs.History.{Moment, moment, IsReady}

-- what it is of the history
abbrev pub moment_of : Edition → Moment
moment_of edition = moment edition.network edition.at

-- it is this moment, with its view
pub record IsReadyAt (now : Moment) (edition : Edition) : Type 0 where
  pub is : moment_of edition ≡ now
  pub ready : IsReady edition.network
