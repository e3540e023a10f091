pub mod Pieces
pub mod Sendings
pub mod RangeLaws
pub mod Lengths
pub mod AskedLaws
pub mod Ids
pub mod CoverLaws
pub mod PairLaws
pub mod SentLaws
pub mod Subjects
pub mod KeyNewsLaws
pub mod KeyNews
pub mod Untouched
pub mod NewsKeyLaws
pub mod TouchedKeyLaws
mod Idle
