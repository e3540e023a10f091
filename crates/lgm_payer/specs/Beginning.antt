-- How a payment begins.
use Rattle.std.specs.Prelude.{◌≡◌, ◌⊎◌, ℕ, ◌+◌, ◌-◌, ◌^◌, ◌≤◌, List, [], ◌∷◌, ◌++◌, Option}
use Rattle.lgm_wire.specs.Tlv.{TlvRecord}
use Rattle.lgm_graph.specs.declared.overlay.ExtraEdge.{ExtraEdge}
use Rattle.lgm_payer.specs.declared.invoice.Invoice.{Invoice}
use Rattle.lgm_payer.specs.declared.bounds.Bounds.{Bounds}
use Rattle.lgm_payer.specs.declared.payer_fault.PayerFault.{PayerFault}
use Rattle.lgm_payer.specs.declared.payer_fault.PayerFault.TheVariants.{AmountZero, NoParts, NumbersUsedUp, NoMemory}
use Rattle.lgm_payer.specs.Payments.{payment_of}
use Rattle.lgm_payer.specs.Payers.{PayerState}

-- a payment was begun, of which nothing was sent yet: its amount isn't 0, nor is the bound of parts
pub record IsBegun (old new : PayerState) (number : ℕ) (invoice : Invoice) (hints : List ExtraEdge) (metadata : Option (List ℕ))
    (records : List TlvRecord) (bounds : Bounds) : Type 0 where
  pub some : 1 ≤ invoice.amount
  pub parts : 1 ≤ bounds.most_parts
  pub number_is : number ≡ old.begun
  pub begins : new ≡ record old {
    payments = old.payments ++ payment_of number old.point invoice hints metadata records bounds ∷ [];
    begun = old.begun + 1;
  }

-- why it wasn't: one of these, or out of memory
abbrev pub IsUnbegun : PayerState → Invoice → Bounds → PayerFault → Type 0
IsUnbegun payer invoice bounds fault =
    ((fault ≡ AmountZero) × (invoice.amount ≡ 0)) ⊎ (((fault ≡ NoParts) × (bounds.most_parts ≡ 0))
    ⊎ (((fault ≡ NumbersUsedUp) × (2 ^ 64 - 1 ≤ payer.begun)) ⊎ (fault ≡ NoMemory)))
