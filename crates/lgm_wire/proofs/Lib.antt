pub mod ReadingLaws
pub mod Bytes
pub mod BigSizeLaws
pub mod BigSizeClauses
pub mod TruncatedIntegerLaws
pub mod TlvLaws
mod PointLaws
