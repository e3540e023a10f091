pub mod Options
pub mod Ended
