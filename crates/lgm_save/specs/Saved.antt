-- The bytes of a saved map.
use Rattle.std.specs.Prelude.{ℕ, List, [], ◌∷◌, ◌++◌, length}
use Rattle.std.specs.List.{flat_map}
use Rattle.lgm_wire.specs.declared.chain_hash.ChainHash.{ChainHash}
use Rattle.lgm_store.specs.Rows.{Rows}
use Rattle.lgm_save.specs.declared.record.Record.{Record}
use Rattle.lgm_save.specs.Numbers.{in_eight}
use Rattle.lgm_save.specs.Checksum.{checksum}
use Rattle.lgm_save.specs.Records.{bytes_of, records_of}

-- the text "lgm map" with a line feed, and the version of the format, 2, in four bytes
unfoldable pub opening : List ℕ
opening = 108 ∷ 103 ∷ 109 ∷ 32 ∷ 109 ∷ 97 ∷ 112 ∷ 10 ∷ 0 ∷ 0 ∷ 0 ∷ 2 ∷ []

-- a body behind the chain and the body's length, which has eight bytes
abbrev pub headed : ChainHash → List ℕ → List ℕ
headed chain body = opening ++ (chain.0 ++ (in_eight (length body) ++ body))

-- bytes before their checksum
abbrev pub sealed : List ℕ → List ℕ
sealed content = content ++ checksum content

-- records, as they are saved for a chain
abbrev pub saved_as : ChainHash → List Record → List ℕ
saved_as chain records = sealed (headed chain (flat_map bytes_of records))

-- a saved map
abbrev pub saved : ChainHash → Rows → List ℕ
saved chain rows = saved_as chain (records_of rows)
