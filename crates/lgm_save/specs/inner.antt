-- Definitions for contracts inside the crate.
pub mod Filling
pub mod Pushing
pub mod Reading
pub mod Partly
