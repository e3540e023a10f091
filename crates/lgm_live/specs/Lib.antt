pub mod Answers
pub mod Batches
pub mod ParsedScript
pub mod Text
pub mod Freshness
pub mod Running
pub mod RunsLive
pub mod inner
