pub mod ReadLaws
pub mod LentLaws
pub mod Inside
