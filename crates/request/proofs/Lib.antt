pub mod LineLaws
pub mod NumberedLaws
pub mod ReadingLaws
pub mod BoundLaws
pub mod ToLaws
pub mod TagLaws
pub mod FieldLaws
