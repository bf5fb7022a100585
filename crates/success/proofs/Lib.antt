pub mod StoreLaws
pub mod Cleared
pub mod FreedLaws
pub mod ClearLaws
pub mod Stands
pub mod AfterLaws
pub mod SuccessLaws
