use Rattle.std.proofs.Common.{◌≡◌, Option, subst}
use Rattle.lgm_c.specs.MapState.{MapState, begun}
use Rattle.lgm_c.specs.Opening.{known_of, Opens}
use Rattle.lgm_c.proofs.SavedMaps.{opened_only}
use Rattle.lgm_c.proofs.saving.lgm_load.Goals as goal

pub returns-in-Ok-clause-back : goal.returns-in-Ok-clause-back
returns-in-Ok-clause-back c = λ rows only.
    let chain = c.args.chain.now in
    let known = known_of c.args.all_known c.args.known.now in
    let is : c.in-Ok.state ≡ begun chain known rows =
    opened_only chain known c.args.bytes.now c.in-Ok.state rows c.in-Ok.ensures.loaded only in
    subst (λ (old : Option MapState). Opens (begun chain known rows) c.fill.result old c.fill.new.self.value) c.is_open.ensures.same
    (subst (λ (state : MapState). Opens state c.fill.result c.is_open.new.self.value c.fill.new.self.value) is c.fill.ensures)
