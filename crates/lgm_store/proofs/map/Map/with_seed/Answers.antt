use Rattle.std.proofs.Common.{sym, subst}
use Rattle.lgm_store.specs.declared.map.Parts.{Parts}
use Rattle.lgm_store.proofs.Soundness.{IsSound-empty}
use Rattle.lgm_store.proofs.map.Opened.{AreKept}
use Rattle.lgm_store.proofs.map.Map.with_seed.Goals as goal

pub invariant_of-result : goal.invariant_of-result
invariant_of-result c =
    let parts : Parts = record { alloc = c.args.alloc; channels = c.new.result; nodes = c.new-2.result; ends = c.in_ok-new.field-0; banned = c.new-4.result } in
    subst AreKept (sym c.in_ok-new-2.ensures.ok) (record {
      rows = IsSound-empty c.new.result c.new-2.result c.in_ok-new.field-0 c.new.ensures c.new-2.ensures c.in_ok-new.ensures;
      spelled = rw (c.new.ensures, c.new-2.ensures) (record { channels = tt; updates = tt; nodes = tt });
      banned_ascend = c.new-4.ensures.ascend;
      allowed = rw c.new.ensures tt;
    })
