use Rattle.std.proofs.Common.{inl, inr, arith}
use Rattle.lgm_gossip.proofs.AddressLaws.{goes_on, shrinks, is_longest}
use Rattle.lgm_gossip.proofs.address.addresses.Goals as goal

pub loop-address-preserved : goal.loop-address-preserved
loop-address-preserved c =
    rw c.in_ok-push-in-Ok.ensures.items
    (goes_on c.loop-address.items.items c.args.bytes.now c.loop-address.rest.now c.in-Ok.address
    c.in-Ok.after.now (λ i. omega (arith, c.type_inv.bytes i)) c.loop-address.invariant c.in-Ok.ensures)

pub loop-address-smaller : goal.loop-address-smaller
loop-address-smaller c =
    shrinks c.loop-address.items.items c.args.bytes.now c.loop-address.rest.now c.in-Ok.address
    c.in-Ok.after.now (λ i. omega (arith, c.type_inv.bytes i)) c.loop-address.invariant c.in-Ok.ensures

pub returns-in_default : goal.returns-in_default
returns-in_default c =
    elim c.in-Err.ensures [
      | inl none ↦ absurd (c.in_default.not-NoMemory none)
      | inr ended ↦ rw c.from_vec.ensures (is_longest c.loop-address.items.items c.args.bytes.now
          c.loop-address.rest.now c.in-Err.fault c.loop-address.invariant ended)
    ]
