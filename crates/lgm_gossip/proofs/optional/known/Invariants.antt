use Rattle.std.proofs.Common.{◌≡◌, drop, None}
use Rattle.lgm_gossip.proofs.OptionalLaws.{Known}
use Rattle.lgm_gossip.proofs.optional.known.Given as goal

abbrev pub invariant-loop-tlv : goal.invariant-loop-tlv
invariant-loop-tlv g l =
    Known (g.T.RecordValue.value_at l.ids) l.value (drop l.tlv-index l.records)
    ≡ Known (g.T.RecordValue.value_at l.ids) None l.records
