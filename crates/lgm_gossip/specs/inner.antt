-- Definitions for contracts inside the crate.
pub mod Segment
pub mod AddressesReading
