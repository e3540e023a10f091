-- Definitions for contracts inside the crate.
pub mod Handle
pub mod Kinds
pub mod Following
pub mod Closing
pub mod Framing
pub mod Messages
pub mod Searching
pub mod Sending
pub mod Unloading
pub mod Lacking
