pub mod CoverLaws
pub mod SignedLaws
pub mod SyncLaws
pub mod AnswerLaws
