use Rattle.std.proofs.Common.{◌≡◌, ℕ, ◌-◌, ◌≤◌}
use Rattle.lgm_timeline.specs.History.{rows_at}
use Rattle.lgm_timeline.specs.Edition.{moment_of}
use Rattle.lgm_timeline.proofs.edition.Edition.catch_up.Given as goal

-- the rows at later positions stay what they were
abbrev pub invariant-loop-self : goal.invariant-loop-self
invariant-loop-self l = record {
  rows : (later : ℕ) → l.self.at ≤ later → rows_at l.log (moment_of l.self) later ≡ rows_at l.log (moment_of l.initial.self) later;
  known : l.self.network.known ≡ l.initial.self.network.known;
  from : l.initial.self.at ≤ l.self.at;
  before : l.self.at ≤ l.to;
  idle : l.initial.self.at ≡ l.to → l.self ≡ l.initial.self;
}

abbrev pub decreases-loop-self : goal.decreases-loop-self
decreases-loop-self l = l.to - l.self.at
