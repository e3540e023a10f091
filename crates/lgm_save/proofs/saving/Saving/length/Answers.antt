use Rattle.std.proofs.Common.{arith, ap, List, length}
use Rattle.std.specs.List.{flat_map}
use Rattle.lgm_save.specs.declared.record.Record.{Record}
use Rattle.lgm_save.specs.Records.{bytes_of}
use Rattle.lgm_save.proofs.SavedLaws.{length-saved}
use Rattle.lgm_save.proofs.saving.Saving.length.Goals as goal

pub returns : goal.returns
returns c chain len = omega (arith, c.self.invariant.body_is, ap (λ (rs : List Record). length (flat_map bytes_of rs)) c.self.view_is, length-saved chain c.args.self.now, len)
