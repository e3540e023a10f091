use Rattle.std.proofs.Common.{◌<◌, length}
use Rattle.std.specs.List.{All}
use Rattle.lgm_route.proofs.queue.Queue.frontier.Given as goal

abbrev pub invariant-loop-turn : goal.invariant-loop-turn
invariant-loop-turn g l = All (λ i. i < length l.search.labels) l.frontier.items
