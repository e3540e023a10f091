-- Definitions for contracts inside the crate.
pub mod Engine
pub mod Turns
pub mod Steps
pub mod CheckedItem
pub mod Questions
pub mod Progress
pub mod Ending
