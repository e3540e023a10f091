use Rattle.std.proofs.Common.{◌≡◌, ◌++◌, take}
use Rattle.std.specs.List.{flat_map, All}
use Rattle.lgm_payer_state.specs.Written.{IsBack}
use Rattle.lgm_payer_state.proofs.lists.write_all.Given as goal

abbrev pub invariant-loop-item : goal.invariant-loop-item
invariant-loop-item g l = record {
  written : l.out.items ≡ l.initial.out.items ++ flat_map g.T.Stored.bytes_of (take l.item-index l.items);
  back : All (IsBack g.T.Stored.bytes_of g.T.Stored.read_at) (take l.item-index l.items);
}
