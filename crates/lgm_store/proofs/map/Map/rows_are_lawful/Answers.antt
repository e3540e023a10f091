use Rattle.lgm_store.proofs.Kept.{kept-lawful}
use Rattle.lgm_store.proofs.map.Map.rows_are_lawful.Goals as goal

pub returns : goal.returns
returns c =
    kept-lawful c.self.inside.parts.value.channels c.self.inside.parts.value.nodes c.self.inside.parts.value.ends c.self.inside.parts.value.banned
    c.args.self.now c.self.view_is c.self.invariant
