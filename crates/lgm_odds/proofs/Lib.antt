pub mod LessonLaws
pub mod FadingLaws
pub mod CutLaws
