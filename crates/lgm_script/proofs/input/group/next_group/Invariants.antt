use Rattle.std.proofs.Common.{◌≡◌, length}
use Rattle.std.specs.List.{AllByRecursion}
use Rattle.lgm_script.specs.Groups.{IsOfKind, AskNext}
use Rattle.lgm_script.proofs.input.group.next_group.Given as goal

abbrev pub invariant-loop-count : goal.invariant-loop-count
invariant-loop-count l = record {
  next : AskNext l.buffered l.first l.len l.lines.items;
  each : AllByRecursion (IsOfKind l.kind) l.lines.items;
  count : length l.lines.items ≡ l._count;
}
