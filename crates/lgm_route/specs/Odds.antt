-- What a failed try is expected to cost.
use Rattle.std.specs.Prelude.{ℕ, ◌+◌, ◌-◌, ◌*◌, ◌/◌, ◌^◌, min}
use Rattle.lgm_graph.specs.declared.estimate.Estimate.{Estimate}

-- what a failure costs times the odds of one, at most 100 to 1, if the balance is anything from the least to the most
abbrev pub odds : ℕ → ℕ → ℕ → ℕ → ℕ
odds failure least most amount = min (100 * failure) (failure * (amount - least) / (most - amount + 1))

-- what the payer would rather pay than send an amount over an edge with this maximum: what each hop costs, the penalty of
-- the edge, and what a failure is expected to; at most 2^40 msat, 11 bitcoin
abbrev pub penalty_by : ℕ → ℕ → Estimate → ℕ → ℕ → ℕ
penalty_by failure hop estimate max amount =
    min (2 ^ 40) (hop + estimate.penalty + odds failure estimate.least (min max estimate.most) amount)
