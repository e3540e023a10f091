-- Definitions for contracts inside the crate.
pub mod Book
pub mod Contents
pub mod Snapshots
pub mod Shown
