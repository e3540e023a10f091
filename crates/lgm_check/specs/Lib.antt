pub mod Refusal
pub mod Row
pub mod CheckedKind
pub mod Precheck
pub mod Accepted
pub mod inner
