use Rattle.std.proofs.Common.{◌∙◌, ◌+◌, if◌then◌else◌, ap, subst, length}
use Rattle.std.specs.Option.{is_some}
use Rattle.indexmap.proofs.CallerLemmas.{insert_entry-new}
use Rattle.std.specs.Map.{keys_of}
use Rattle.lgm_graph.specs.Estimates.{Entries, IsEstimated, key_of, is_key}
use Rattle.lgm_graph.specs.declared.estimate.EdgeKey.{EdgeKey}
use Rattle.lgm_graph.proofs.EstimateLaws.{keys-insert_entry}
use Rattle.lgm_graph.proofs.FilterLaws.{covers_more}
use Rattle.lgm_graph.proofs.estimates.Estimates.set.Goals as goal

pub returns-clause-set : goal.returns-clause-set
returns-clause-set c =
    let old_map = c.self.inside.entries in
    let old = old_map.entries in
    let set = c.in_ok-insert.ensures in
    subst (λ (entries : Entries). IsEstimated entries c.args.scid c.args.from.now c.args.estimate c.insert.new.self.entries) c.self.view_is
    (record {
      here = set.updates.1;
      others = set.updates.2;
      places = ap keys_of set.entries ∙ keys-insert_entry (λ (key other : EdgeKey). is_key key.scid key.from other) (key_of c.args.scid c.args.from.now) c.args.estimate old;
      added = λ none. set.entries ∙ insert_entry-new (λ (key other : EdgeKey). is_key key.scid key.from other) old_map (key_of c.args.scid c.args.from.now) c.args.estimate none;
      count = set.len ∙ ap (λ known. length old + (if is_some known then 0 else 1)) set.old;
    })

pub invariant_of-self-2 : goal.invariant_of-self-2
invariant_of-self-2 c =
    covers_more c.self.inside.filter c.add.new.self c.self.inside.entries.entries c.insert.new.self.entries c.args.scid c.args.from.now
    c.self.invariant c.in_ok-add.ensures.kept c.in_ok-add.ensures.here c.in_ok-insert.ensures.updates.2
