pub mod AcceptedLaws
pub mod UpdateLaws
