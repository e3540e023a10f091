-- Definitions for contracts inside the crate.
pub mod ReplyMessage
pub mod Sent
pub mod SentWith
pub mod Pairs
