use Rattle.std.proofs.Common.{take}
use Rattle.lgm_odds.proofs.FadingLaws.{AreLaid}
use Rattle.lgm_odds.proofs.fading.fade.Given as goal

-- what the first entries leave was added
abbrev pub invariant-loop-place : goal.invariant-loop-place
invariant-loop-place l = AreLaid l.map l.time l.learnt (take l.place l.learnt) l.left
