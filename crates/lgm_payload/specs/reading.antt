-- Parsers, as functions from bytes to a value or the first fault.
pub mod Reading
