-- What the pointer of a handle owns: a box, or nothing if it is null.
use base.Fml.{Fml, ftrue, fex}
use denote.RattleType.{RattleType}
use denote.RawPtr.{Ptr}
use Rattle.std.specs.declared.option.Option.{Option}
use Rattle.std.specs.declared.option.Option.TheVariants.{None, Some}
use Rattle.std.specs.declared.alloc.Global.{Global}
use Rattle.std.specs.contracts.impls.GlobalAllocator.TheImpl.{ghosts}
use Rattle.std.specs.Box.Ownership.{box_owns}
use Rattle.lgm_graph.specs.contracts.estimates.Estimates as estimates
use Rattle.lgm_payer.specs.contracts.payer.Payer as payer
use Rattle.lgm_c.specs.contracts.chain_map.ChainMap as map

-- the box of a value of this type at p, if there is one
abbrev pub owns_box : (R : RattleType) → Ptr → Option R.Denot → Fml
owns_box R p None = ftrue
owns_box R p (Some x) = fex Global (λ a. box_owns (ghosts.dealloc_token a) R p x)

-- the box of a map, that of estimates, and that of a payer
abbrev pub owns_map : Ptr → Option map.the_row.Denot → Fml
owns_map = owns_box map.the_row

abbrev pub owns_estimates : Ptr → Option estimates.the_row.Denot → Fml
owns_estimates = owns_box estimates.the_row

abbrev pub owns_payer : Ptr → Option payer.the_row.Denot → Fml
owns_payer = owns_box payer.the_row
