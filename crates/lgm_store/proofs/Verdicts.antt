-- What a map returns for a message.
use Rattle.std.proofs.Common.{◌≡◌, Bool, true, false, Option, Some, None, Result, Ok, Err, inl, inr, refl}
use Rattle.std.specs.Prelude.{is_ok, nat_lt}
use Rattle.lgm_wire.specs.reading.Reading.{Gives}
use Rattle.lgm_check.specs.declared.row.NodeRow.{NodeRow}
use Rattle.lgm_check.specs.declared.refusal.Refusal.{Refusal}
use Rattle.lgm_check.specs.declared.refusal.Refusal.TheVariants as refusals
use Rattle.lgm_store.specs.declared.op.Op.{Op}
use Rattle.lgm_store.specs.Admission.{Offers, node_admission, node_is_newer}

-- what a map returns for a message is what the definition says, or out of memory
pub offers_gives : (answer admission : Result Op Refusal) → Offers answer admission → Gives refusals.NoMemory (λ op. op) answer admission
offers_gives answer (Ok op) offers = elim offers [ inl e ↦ rw e refl | inr e ↦ rw e (inl refl) ]
offers_gives answer (Err refusal) offers = rw offers (inr refl)

-- a node announcement that may be stored is admitted if it is newer
pub node-admitted : (banned ends : Bool) (stored : Option NodeRow) (row : NodeRow) → banned ≡ false → ends ≡ true
    → is_ok (node_admission banned ends stored row) ≡ node_is_newer stored row
node-admitted banned ends None row allowed ended = rw (allowed, ended) refl
node-admitted banned ends (Some old) row allowed ended = rw (allowed, ended) (newer (nat_lt old.message.timestamp row.message.timestamp) refl)
  where
    newer : (b : Bool) → nat_lt old.message.timestamp row.message.timestamp ≡ b
        → is_ok (node_admission false true (Some old) row) ≡ nat_lt old.message.timestamp row.message.timestamp
    newer true newer_is = rw newer_is refl
    newer false newer_is = rw newer_is refl
