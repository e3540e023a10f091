-- Definitions for contracts inside the crate.
pub mod WriterResult
pub mod WorkerResult
pub mod Gathered
pub mod Telling
pub mod Reading
