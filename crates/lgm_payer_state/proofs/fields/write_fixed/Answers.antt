use Rattle.lgm_payer_state.proofs.StepLaws.{appended}
use Rattle.lgm_payer_state.proofs.fields.write_fixed.Goals as goal

pub returns : goal.returns
returns g c = appended c.extend_from_slice.result c.args.out.now.items c.args.bytes.now _ g.row.N c.told-bytes c.extend_from_slice.ensures.items
