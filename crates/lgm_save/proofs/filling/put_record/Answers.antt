use Rattle.std.proofs.Common.{ℕ, List, [], ◌∷◌, ◌++◌, ap, subst}
use Rattle.lgm_save.specs.Records.{bytes_of}
use Rattle.lgm_save.specs.inner.Filling.{IsFilled}
use Rattle.lgm_save.proofs.RecordLaws.{tagged}
use Rattle.lgm_save.proofs.filling.put_record.Goals as goal

pub returns-in-Update-clause-filled : goal.returns-in-Update-clause-filled
returns-in-Update-clause-filled c start front filled =
    subst (λ (s : List ℕ). IsFilled start s c.put_framed-in-Update.result c.put_framed-in-Update.new.room)
    (tagged front c.as_slice-in-Update.result.now c.in-Update.message (bytes_of c.args.record.now) 3 c.as_slice-in-Update.ensures (ap bytes_of c.in-Update.is))
    (c.put_framed-in-Update.ensures.filled start (front ++ 3 ∷ []) (c.put-behind-in-Update.ensures.filled start front filled))

pub returns-in-Node-clause-filled : goal.returns-in-Node-clause-filled
returns-in-Node-clause-filled c start front filled =
    subst (λ (s : List ℕ). IsFilled start s c.put_framed-in-Node.result c.put_framed-in-Node.new.room)
    (tagged front c.as_slice-in-Node.result.now c.in-Node.message (bytes_of c.args.record.now) 4 c.as_slice-in-Node.ensures (ap bytes_of c.in-Node.is))
    (c.put_framed-in-Node.ensures.filled start (front ++ 4 ∷ []) (c.put-behind-in-Node.ensures.filled start front filled))
