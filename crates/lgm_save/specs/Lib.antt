pub mod Numbers
pub mod Checksum
pub mod Records
pub mod Saved
pub mod Loaded
pub mod Changed
pub mod inner
