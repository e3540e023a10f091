-- Reading the leading address descriptor. Cut is the fault for every reason why there is none.
use Rattle.std.specs.Prelude.{ℕ, List, [], ◌∷◌, Result, Ok, Err, ◌==◌, if◌then◌else◌}
use Rattle.std.specs.Int.{w8, w16}
use Rattle.lgm_wire.specs.reading.Reading.{◌>>=◌}
use Rattle.lgm_gossip.specs.declared.fault.DecodeFault.{DecodeFault}
use Rattle.lgm_gossip.specs.declared.fault.DecodeFault.TheVariants.{Cut}
use Rattle.lgm_gossip.specs.declared.address.Address.{Address}
use Rattle.lgm_gossip.specs.declared.address.Address.TheVariants as addresses
use Rattle.lgm_gossip.specs.reading.FieldReading.{fixed_at, number_at}

-- an address of the given length, and its port
abbrev pub address_at : ℕ → (List ℕ → ℕ → Address) → List ℕ → Result (Address × List ℕ) DecodeFault
address_at len variant bytes =
    fixed_at len bytes >>= λ address. number_at w16 address.1 >>= λ port.
    Ok (variant address.0 port.0, port.1)

unfoldable pub descriptor_at : List ℕ → Result (Address × List ℕ) DecodeFault
descriptor_at [] = Err Cut
descriptor_at (kind ∷ left) =
    if kind == 1 then address_at 4 (λ address port. addresses.V4 address port) left
    else if kind == 2 then address_at 16 (λ address port. addresses.V6 address port) left
    else if kind == 3 then address_at 10 (λ address port. addresses.Tor2 address port) left
    else if kind == 4 then address_at 35 (λ address port. addresses.Tor3 address port) left
    else if kind == 5
    then (number_at w8 left >>= λ len. address_at len.0 (λ hostname port. addresses.Name hostname port) len.1)
    else Err Cut
