use Rattle.std.proofs.Common.{rules}
use Rattle.lgm_par.proofs.PlacewiseLaws.{zip_weaker_ok}
use Rattle.lgm_script.specs.Command.{item_in}
use Rattle.lgm_run.specs.inner.CheckedItem.{IsCheckOf}
use Rattle.lgm_run.proofs.checked_item.check_lines.Goals as goal

pub returns : goal.returns
returns g c =
    zip_weaker_ok _ (λ request item. IsCheckOf c.args.context.now.chain (item_in request) item) (λ x y h. search rules)
    c.args.group.now.lines.items c.map.result (rw c.as_slice-lines.ensures.value at c.map.ensures)
