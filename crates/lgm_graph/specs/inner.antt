-- Definitions for contracts inside the crate.
pub mod Lists
pub mod Sound
pub mod Walk
pub mod Applying
pub mod Overlaying
pub mod Filtering
