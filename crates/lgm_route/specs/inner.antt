-- Definitions for contracts inside the crate.
pub mod Numbered
pub mod Searching
pub mod Fronts
pub mod Bounding
pub mod Reaching
pub mod ForwardState
pub mod Relaxations
pub mod SearchState
pub mod Best
pub mod Seeking
pub mod Spending
