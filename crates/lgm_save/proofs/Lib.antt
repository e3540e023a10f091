pub mod NumberLaws
pub mod RecordLaws
pub mod SavedLaws
pub mod UpdateLaws
pub mod PushLaws
pub mod LoadLaws
pub mod FoldLaws
pub mod ChangeLaws
