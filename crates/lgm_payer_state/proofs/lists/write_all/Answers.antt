use Rattle.std.proofs.Common.{◌≡◌, ◌+◌, ◌∷◌, [], ◌++◌, ℕ, List, ◌∙◌, ap, sym, take, arith}
use Rattle.std.proofs.lemmas.List.{take_all, take_more, flat_map_more}
use Rattle.std.proofs.lemmas.List.Elements.{All-more}
use Rattle.lgm_payer_state.specs.Written.{IsBack}
use Rattle.lgm_payer_state.proofs.ListLaws.{list_written}
use Rattle.lgm_payer_state.proofs.lists.write_all.Goals as goal

pub loop-item-preserved : goal.loop-item-preserved
loop-item-preserved g c =
    let xs = c.args.items.now in
    let i = c.loop-item.item-index in
    let x = c.item-item.result in
    let next : take (i + 1) xs ≡ take i xs ++ x ∷ [] =
    take_more xs i x c.loop-item-test.true ∙ ap (λ (y : g.row.T.Denot). take i xs ++ y ∷ []) (sym c.item-item.is) in
    record {
      written = rw next (c.in_ok-write.ensures.written
          ∙ ap (λ (s : List ℕ). s ++ g.T.Stored.bytes_of x) c.loop-item.invariant.written
          ∙ flat_map_more g.T.Stored.bytes_of c.write64.new.out.items (take i xs) x);
      back = All-more (IsBack g.T.Stored.bytes_of g.T.Stored.read_at) xs i x c.loop-item-test.true c.loop-item.invariant.back
          (rw (← c.item-item.is) c.in_ok-write.ensures.back);
    }

pub returns : goal.returns
returns g c =
    let all : take c.loop-item.item-index c.args.items.now ≡ c.args.items.now = take_all _ _ (omega arith) in
    list_written g.T.Stored.bytes_of g.T.Stored.read_at c.args.items.now _ _ _ c.in_ok-write64.ensures
    (rw all at c.loop-item.invariant.written) (rw all at c.loop-item.invariant.back)
