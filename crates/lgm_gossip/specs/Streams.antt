-- Terms of lgm_wire that messages use: TLV streams and BigSize.
pub use Rattle.lgm_wire.specs.BigSize.{bigsize_bytes, IsBigSize}
pub use Rattle.lgm_wire.specs.Tlv.{TlvRecord, record_bytes, IsTlvStream}
pub use Rattle.lgm_wire.specs.reading.BigSizeReading.{bigsize_at}
pub use Rattle.lgm_wire.specs.reading.TlvReading.{tlvs_of}
