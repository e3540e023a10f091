-- The records as contracts see them, without where their values are stored.
use Rattle.std.specs.Prelude.{List, map}
use Rattle.lgm_wire.specs.declared.tlv.Tlv.{Tlv}
use Rattle.lgm_wire.specs.Tlv.{TlvRecord}

abbrev pub record_of : Tlv → TlvRecord
record_of t = record { kind = t.kind; value = t.value.now }

abbrev pub records_of : List Tlv → List TlvRecord
records_of ts = map record_of ts
