-- Definitions for contracts inside the crate.
pub mod Digits
pub mod Front
pub mod Kinds
