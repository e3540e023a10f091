pub mod History
pub mod Edition
pub mod Timeline
pub mod inner
