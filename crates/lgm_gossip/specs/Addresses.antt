-- Address descriptors: a byte of type, the bytes of the address and two bytes of port.
use Rattle.std.specs.Prelude.{◌≡◌, ℕ, ◌<◌, ◌^◌, List, ◌∷◌, ◌++◌, length}
use Rattle.std.specs.List.{flat_map, AllByRecursion}
use Rattle.std.specs.Int.{w16, to_be_bytes}
use Rattle.lgm_gossip.specs.declared.address.Address.{Address}
use Rattle.lgm_gossip.specs.declared.address.Address.TheVariants as addresses

abbrev pub descriptor : Address → List ℕ
descriptor (addresses.V4 address port) = 1 ∷ (address ++ to_be_bytes w16 port)
descriptor (addresses.V6 address port) = 2 ∷ (address ++ to_be_bytes w16 port)
descriptor (addresses.Tor2 address port) = 3 ∷ (address ++ to_be_bytes w16 port)
descriptor (addresses.Tor3 address port) = 4 ∷ (address ++ to_be_bytes w16 port)
descriptor (addresses.Name hostname port) = 5 ∷ length hostname ∷ (hostname ++ to_be_bytes w16 port)

-- an address has its size
abbrev pub AddressFits : Address → Type 0
AddressFits (addresses.V4 address port) = (length address ≡ 4) × (port < 2 ^ 16)
AddressFits (addresses.V6 address port) = (length address ≡ 16) × (port < 2 ^ 16)
AddressFits (addresses.Tor2 address port) = (length address ≡ 10) × (port < 2 ^ 16)
AddressFits (addresses.Tor3 address port) = (length address ≡ 35) × (port < 2 ^ 16)
AddressFits (addresses.Name hostname port) = (length hostname < 2 ^ 8) × (port < 2 ^ 16)

-- b begins with the descriptors of l
pub record BeginsWith (l : List Address) (b : List ℕ) : Type 0 where
  pub rest : List ℕ
  pub fits : AllByRecursion AddressFits l
  pub whole : b ≡ flat_map descriptor l ++ rest

-- l is the longest of all lists that b begins with: every other one is a prefix of it
pub record IsLongest (l : List Address) (b : List ℕ) : Type 0 where
  pub begins : BeginsWith l b
  pub longest : (m : List Address) → BeginsWith m b → (more : List Address) × (l ≡ m ++ more)
