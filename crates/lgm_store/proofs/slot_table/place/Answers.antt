use Rattle.std.proofs.Common.{◌≡◌, Some, refl, sym, ap, ◌∙◌}
use Rattle.std.specs.Map.{lookup}
use Rattle.std.specs.BTreeMap.{is_at}
use Rattle.lgm_store.proofs.Ordered.{put-back}
use Rattle.lgm_store.proofs.slot_table.place.Goals as goal

pub returns-in-Some-2-clause-ok : goal.returns-in-Some-2-clause-ok
returns-in-Some-2-clause-ok g c =
    let found : lookup (is_at (g.K.Ord.cmp c.key-key.result)) c.args.numbers.now.entries ≡ Some c.in-Some-2.own =
    sym c.in_ok-own.ensures.old ∙ c.in-Some-2.is in
    record {
      own = rw c.key-key.ensures at found;
      same_value = refl;
      same_slots = ap (λ s. s.slots) c.reserve.ensures.rest_kept;
      same_numbers =
          put-back g.met.K.Ord.total c.args.numbers.now.entries c.insert.new.self.entries c.put_back.new.numbers.entries
          c.key-key.result c.vacant_key-number.result c.in-Some-2.own c.in_ok-own.ensures.entries c.put_back.ensures
          c.insert.ensures.was_ordered found;
    }
