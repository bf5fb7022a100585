pub mod LeftLaws
pub mod TurnLaws
pub mod ToldLaws
pub mod OpenLaws
pub mod ReadingLaws
pub mod ReadToLaws
pub mod PrintedLaws
pub mod ErrLaws
