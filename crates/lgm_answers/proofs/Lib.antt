pub mod Outcomes
pub mod Lines
pub mod LineFaults
mod Hops
mod Batches
mod Messages
