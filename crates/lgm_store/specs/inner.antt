-- Definitions for contracts inside the crate.
pub mod Decided
pub mod Slots
pub mod SameKeys
pub mod Seed
pub mod ChannelTable
pub mod ChannelsByNode
pub mod Sound
pub mod Start
pub mod CheckedMessage
pub mod ChannelEntries
pub mod ScidSet
