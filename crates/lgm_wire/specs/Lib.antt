pub mod BigSize
pub mod TruncatedInteger
pub mod Tlv
pub mod TlvView
pub mod Point
pub mod reading
